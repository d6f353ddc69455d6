-- The start state: whose the operations are, and that nothing has happened.
use Prim.Native.Nat.{ℕ, zero, suc, ◌+◌, ◌-◌, ◌%◌, ◌≤◌, ◌<◌}
use mathlib.Core.Path.{◌≡◌, refl, ap, ◌∙◌}
use mathlib.Core.List.{List, [], ◌∷◌}
use native.Mathlib.Omega.{arith}
use native.Mathlib.Nat.{le_of_suc-le-suc}
use lib.ListN.{length, get_or, set, replicate, length-replicate, get_or-append}
use lib.Seq.{sets, sets-eq}
use Rattle.history.proofs.Turns as Turns
use Rattle.figures.specs.declared.Point.TheVariants.{Idle}
use Rattle.figures.specs.declared.Record.{Record}
use Rattle.figures.specs.Step.{no_local, no_record}
use Rattle.figures.specs.Start.{start_of, locals_of, records_of, owner_of, unbegun}
use Rattle.figures.specs.Counts.{ops_before}
use Rattle.figures.proofs.Laws.{lt_case, set_holds, replicate_holds}
use Rattle.figures.proofs.Frame.{record_of, local_of}

-- ---- Each thread's operations follow those of the thread before.

before_none : (t : ℕ) → ops_before [] t ≡ 0
before_none zero = refl
before_none (suc t) = refl

pub before_grows : (counts : List ℕ) (a b : ℕ) → a ≤ b → ops_before counts a ≤ ops_before counts b
before_grows [] a b h = omega (arith, before_none a)
before_grows (c ∷ counts) zero b h = omega arith
before_grows (c ∷ counts) (suc a) zero h = absurd (omega arith)
before_grows (c ∷ counts) (suc a) (suc b) h = omega (arith, before_grows counts a b (le_of_suc-le-suc h))

pub before_next : (counts : List ℕ) (t : ℕ) → ops_before counts (suc t) ≡ ops_before counts t + get_or counts t 0
before_next [] t = omega (arith, before_none t)
before_next (c ∷ counts) zero = omega arith
before_next (c ∷ counts) (suc t) = omega (arith, before_next counts t)

-- operation o is one of thread t's
abbrev pub Owned : List ℕ → ℕ → ℕ → Type 0
Owned counts t o = Turns.Owned 8 (ops_before counts) t o

owner_small : (counts : List ℕ) (o : ℕ) → o < ops_before counts (length counts)
    → (owner_of counts o < length counts) × (ops_before counts (owner_of counts o) ≤ o) × (o < ops_before counts (suc (owner_of counts o)))
unfolding owner_of
owner_small [] o h = absurd (omega arith)
owner_small (c ∷ counts) o h =
    lt_case (λ (x : ℕ). (x < suc (length counts)) × (ops_before (c ∷ counts) x ≤ o) × (o < ops_before (c ∷ counts) (suc x))) o c 0 (suc (owner_of counts (o - c)))
    (λ l. (omega arith, omega arith, omega arith))
    (λ l. let r = owner_small counts (o - c) (omega arith) in (omega arith, omega arith, omega arith))

pub owner_owned : (counts : List ℕ) (o : ℕ) → length counts ≡ 8 → o < ops_before counts 8 → Owned counts (owner_of counts o) o
owner_owned counts o e h =
    let r = owner_small counts o (rw e h) in
    record { thread = omega arith; from = r.1; below = r.2 }

-- ---- The threads.

op_start : (first : ℕ) (counts : List ℕ) (t : ℕ) → t < length counts → (get_or (locals_of first counts) t no_local).op.0 ≡ (first + ops_before counts t) % 256
unfolding locals_of
op_start first [] t h = absurd (omega arith)
op_start first (c ∷ counts) zero h = omega arith
op_start first (c ∷ counts) (suc t) h = omega (arith, op_start (first + c) counts t (le_of_suc-le-suc h))

end_start : (first : ℕ) (counts : List ℕ) (t : ℕ) → t < length counts → (get_or (locals_of first counts) t no_local).end.0 ≡ (first + ops_before counts (suc t)) % 256
unfolding locals_of
end_start first [] t h = absurd (omega arith)
end_start first (c ∷ counts) zero h = omega arith
end_start first (c ∷ counts) (suc t) h = omega (arith, end_start (first + c) counts t (le_of_suc-le-suc h))

point_start : (first : ℕ) (counts : List ℕ) (t : ℕ) → (get_or (locals_of first counts) t no_local).point ≡ Idle
unfolding locals_of
point_start first [] t = refl
point_start first (c ∷ counts) zero = refl
point_start first (c ∷ counts) (suc t) = point_start (first + c) counts t

module _ (threads keys : ℕ) (counts ops : List ℕ) where
  pub start_point : (t : ℕ) → (local_of (start_of threads keys counts ops) t).point ≡ Idle
  unfolding start_of
  start_point t = point_start 0 counts t

  module _ (eight : length counts ≡ 8) (few : ops_before counts 8 ≤ 64) (t : ℕ) (h : t < 8) where
    pub start_op : (local_of (start_of threads keys counts ops) t).op.0 ≡ ops_before counts t
    unfolding start_of
    start_op = omega (arith, op_start 0 counts t (omega arith), before_grows counts t 8 (omega arith))

    pub start_end : (local_of (start_of threads keys counts ops) t).end.0 ≡ ops_before counts (suc t)
    unfolding start_of
    start_end = omega (arith, end_start 0 counts t (omega arith), before_grows counts (suc t) 8 h)

  -- ---- The records.

  -- every record is one of an operation that has not begun, or there is none
  pub start_records : (P : Record → Type 0) → P no_record → ((t b : ℕ) → P (unbegun t b)) → (o : ℕ) → P (record_of (start_of threads keys counts ops) o)
  unfolding start_of records_of
  start_records P z u o = stored (replicate 64 (unbegun 0 0)) 0 0 ops (λ i. replicate_holds P 64 i (unbegun 0 0) no_record (u 0 0) z)
    where
      stored : (l : List Record) (i k : ℕ) (bs : List ℕ) → ((j : ℕ) → P (get_or l j no_record)) → P (get_or (sets l i (records_of counts k bs)) o no_record)
      stored l i k [] f = f o
      stored l i k (b ∷ bs) f =
          stored (set l i (unbegun (owner_of counts k) b)) (suc i) (k + 1) bs
          (λ j. set_holds P l i j (unbegun (owner_of counts k) b) no_record (λ e. u (owner_of counts k) b) (f j))

-- what is asked of operation o: its thread is its owner, its byte the one in file order
module _ (counts : List ℕ) where
  length_records : (k : ℕ) (ops : List ℕ) → length (records_of counts k ops) ≡ length ops
  unfolding records_of
  length_records k [] = refl
  length_records k (b ∷ ops) = ap suc (length_records (k + 1) ops)

  get_record : (k : ℕ) (ops : List ℕ) (o : ℕ) → o < length ops → get_or (records_of counts k ops) o no_record ≡ unbegun (owner_of counts (k + o)) (get_or ops o 0)
  unfolding records_of
  get_record k [] o h = absurd (omega arith)
  get_record k (b ∷ ops) zero h = let e : k + 0 ≡ k = omega arith in rw e
  get_record k (b ∷ ops) (suc o) h = let e : k + suc o ≡ k + 1 + o = omega arith in rw e (get_record (k + 1) ops o (le_of_suc-le-suc h))

  pub start_record : (threads keys : ℕ) (ops : List ℕ) (o : ℕ) → length ops ≤ 64 → o < length ops
      → record_of (start_of threads keys counts ops) o ≡ unbegun (owner_of counts o) (get_or ops o 0)
  unfolding start_of
  start_record threads keys ops o few h =
      let l = length_records 0 ops in
      let e : 0 + o ≡ o = omega arith in
      ap (λ (r : List Record). get_or r o no_record)
      (sets-eq (records_of counts 0 ops) (replicate 64 (unbegun 0 0)) 0 (omega (arith, length-replicate 64 (unbegun 0 0))))
      ∙ get_or-append (records_of counts 0 ops) _ no_record o (omega arith)
      ∙ get_record 0 ops o h ∙ rw e
