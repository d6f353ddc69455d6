-- The contents table as entries of four bytes: what each says is what the file says there.
use Prim.Native.Nat.{ℕ, zero, suc, ◌+◌, ◌-◌, ◌*◌, ◌<◌, ◌≤◌}
use mathlib.Core.Path.{◌≡◌, refl, sym, ap, ◌∙◌}
use mathlib.Core.List.{List, [], ◌∷◌}
use native.Mathlib.Omega.{arith}
use lib.ListN.{length, get_or, take, drop}
use lib.Dec.{ltb}
use lib.Seq.{get_or-take, get_or-drop, drop-drop, take-take}
use Rattle.std.proofs.lemmas.List.{drop-take}
use Rattle.std.specs.Simd.{first_chunks}
use mathlib.Core.Bool.{true, false}
use borrow.Author.Tests.{ltb-false, lt-ltb, le-ltb, eqb-true, ne_eqb, not-false}
use Rattle.runfile.specs.declared.Refusal.TheVariants.{Offset}
use Rattle.runfile.specs.Rows.{sum_to, Passes, Stops, here}
use Rattle.runfile.specs.Layout.{word_at, entry_at, body_at, offset_in, count_in}
use Rattle.runfile.specs.Read.{threads_in, operations_in, schedule_in, steps_in, offset_right, wrong_entry, table_rows}
use Rattle.runfile.specs.Answers.{offset_row}
use Rattle.runfile.proofs.First.{first_is}
use Rattle.runfile.proofs.Laws.{first_none, first_before}

-- chunk i of a list
chunk_at : (n k : ℕ) (l : List ℕ) (i : ℕ) (d : List ℕ) → i < k → get_or (first_chunks n k l) i d ≡ take n (drop (n * i) l)
chunk_at n zero l i d h = absurd (omega arith)
chunk_at n (suc k) l zero d h = let e : n * 0 ≡ 0 = omega arith in rw e
chunk_at n (suc k) l (suc i) d h =
    let e : n * suc i ≡ n + n * i = omega arith in
    chunk_at n k (drop n l) i d (omega arith) ∙ ap (take n) (drop-drop (n * i) n l ∙ ap (λ (j : ℕ). drop j l) (sym e))

-- the chunks of just so many numbers of a list are the list's first
pub chunks_taken : (n k : ℕ) (l : List ℕ) → first_chunks n k (take (n * k) l) ≡ first_chunks n k l
chunks_taken n zero l = refl
chunks_taken n (suc k) l =
    let e : n * suc k ≡ n + n * k = omega arith in
    rw (e, take-take n (n + n * k) l (omega arith), drop-take n (n * k) l, chunks_taken n k (drop n l))

-- what entry i says
module _ (file : List ℕ) (entries : List (List ℕ)) {k : ℕ} (same : entries ≡ first_chunks 4 k (drop 2 file)) (i : ℕ)
    (h : i < k) where
  byte : (p : ℕ) → p < 4 → get_or (get_or entries i []) p 0 ≡ get_or file (entry_at i + p) 0
  byte p h' =
      let q : 2 + (4 * i + p) ≡ entry_at i + p = omega arith in
      rw (same, chunk_at 4 k (drop 2 file) i [] h)
      (get_or-take 4 (drop (4 * i) (drop 2 file)) p 0 h' ∙ get_or-drop (4 * i) (drop 2 file) p 0 ∙ get_or-drop 2 file (4 * i + p) 0
      ∙ ap (λ (j : ℕ). get_or file j 0) q)

  pub offset_there : word_at (get_or entries i []) 0 ≡ offset_in file i
  offset_there = let z : entry_at i + 0 ≡ entry_at i = omega arith in rw (byte 0 (omega arith), byte 1 (omega arith), z)

  pub count_there : word_at (get_or entries i []) 2 ≡ count_in file i
  count_there = let z : entry_at i + 2 + 1 ≡ entry_at i + 3 = omega arith in rw (byte 2 (omega arith), byte 3 (omega arith), z)

-- the row of a wrong offset
module _ (f : List ℕ) where
  pub offset_stops : (i : ℕ) → i < threads_in f + 1 → ((j : ℕ) → j < i → offset_right f j ≡ true)
      → (offset_in f i ≡ body_at (threads_in f) + sum_to (count_in f) i → ⊥)
      → Stops (offset_row f ∷ []) Offset (entry_at i)
  offset_stops i h before not_sum =
      let first : wrong_entry f ≡ i =
      first_is (offset_right f) 0 (threads_in f + 1) i (omega arith) (omega arith) (λ j low l. before j l)
      (λ l. ne_eqb (offset_in f i) (body_at (threads_in f) + sum_to (count_in f) i) not_sum) in
      rw first (here (lt-ltb i (threads_in f + 1) h))

  pub offset_passes : ((j : ℕ) → j < threads_in f + 1 → offset_right f j ≡ true) → Passes (offset_row f ∷ [])
  offset_passes all =
      let first : wrong_entry f ≡ threads_in f + 1 = first_none (offset_right f) (omega arith) (λ j low l. all j l) in
      (rw first (le-ltb (threads_in f + 1) (threads_in f + 1) (omega arith)), tt)

  -- where none is wrong, each body begins where the one before ends
  pub offsets_follow : ltb (wrong_entry f) (threads_in f + 1) ≡ false → (i : ℕ) → i ≤ threads_in f
      → offset_in f i ≡ body_at (threads_in f) + sum_to (count_in f) i
  offsets_follow e i h =
      let past = ltb-false (wrong_entry f) (threads_in f + 1) e in
      eqb-true _ _ (first_before (offset_right f) (threads_in f + 1 - 0) 0 i (omega arith) (omega arith))

  -- and the bodies fill the file
  pub bodies_within : Passes (table_rows f) → (body_at (threads_in f) ≤ schedule_in f) × (length f ≡ schedule_in f + steps_in f)
  bodies_within ps =
      let follows = offsets_follow ps.0 (threads_in f) (omega arith) in
      (omega arith, eqb-true (length f) (schedule_in f + steps_in f) (not-false _ ps.1.1.1.0))

-- what the last entry says of a file where no offset is wrong
pub record Last (f : List ℕ) (entries : List (List ℕ)) (offset count : ℕ) : Type 0 where
  pub body : 2 + 4 * length entries ≡ body_at (threads_in f)
  pub schedule : offset ≡ schedule_in f
  pub steps : count ≡ steps_in f
  pub enough : 2 + 4 * length entries ≤ offset
  pub operations : offset - (2 + 4 * length entries) ≡ operations_in f

pub last_entry : (f : List ℕ) (entries : List (List ℕ)) {i offset count : ℕ}
    → length entries ≡ threads_in f + 1
    → entries ≡ first_chunks 4 (threads_in f + 1) (drop 2 f)
    → i ≡ threads_in f
    → (offset ≡ word_at (get_or entries i []) 0) × (count ≡ word_at (get_or entries i []) 2)
    → ltb (wrong_entry f) (threads_in f + 1) ≡ false
    → Last f entries offset count
last_entry f entries {i} many same at told e =
    let offset = told.0 ∙ offset_there f entries same i (omega arith) ∙ ap (offset_in f) at in
    let count = told.1 ∙ count_there f entries same i (omega arith) ∙ ap (count_in f) at in
    let follows = offsets_follow f e (threads_in f) (omega arith) in
    record {
      body = omega arith;
      schedule = offset;
      steps = count;
      enough = omega arith;
      operations = omega arith;
    }
