-- A bounded buffer tells what the whole input would: no accepted file has more than `longest` bytes, and two longer inputs
-- that agree as far as one byte past it are refused alike.
use Prim.Native.Nat.{ℕ, ◌+◌, ◌-◌, ◌<◌, ◌≤◌}
use mathlib.Core.Path.{◌≡◌, refl, sym, ap, ◌∙◌}
use mathlib.Core.Bool.{Bool, true, false, not, cond}
use mathlib.Core.List.{List, ◌∷◌, ◌++◌}
use native.Mathlib.Omega.{arith}
use native.Mathlib.Decide.{dec_lt}
use lib.ListN.{length, get_or, take, drop}
use lib.Seq.{get_or-take, length-take-le, take-take, take_all}
use lib.Dec.{ltb, eqb}
use borrow.Author.Tests.{le-ltb, ltb-false, ne_eqb}
use Rattle.figures.specs.Limits.{most_threads, most_keys, most_operations, most_steps}
use Rattle.runfile.specs.declared.Refusal.{Refusal}
use Rattle.runfile.specs.declared.Refusal.TheVariants.{NoHead, Threads, Keys, TableCutShort, Offset, TooManyOperations, TooManySteps, Length}
use Rattle.runfile.specs.Refusals.{number_of}
use Rattle.runfile.specs.Rows.{Row, row, decide, outside, first_bad, sum_to}
use Rattle.runfile.specs.Layout.{word_at, entry_at, body_at, count_in}
use Rattle.runfile.specs.Read.{threads_in, keys_in, operations_in, steps_in, schedule_in, offset_right, wrong_entry, rows, table_rows, body_rows, refused, accepted, read_of}
use Rattle.runfile.specs.Contents.{longest}
use Rattle.runfile.proofs.Laws.{true_false, inside, first_same, sum_same}
use Rattle.runfile.proofs.Entries.{offsets_follow}
use Rattle.runfile.proofs.Accepts.{accepts}

pub accepted_short : (f : List ℕ) → (read_of f).number ≡ 0 → length f ≤ longest
accepted_short f z =
    let a = accepts f z in
    omega (arith, a.threads_high, a.operations_first, a.schedule_next, a.file_ends, a.operations_few, a.steps_few)

pub long_refused : (f : List ℕ) → longest < length f → (read_of f).number ≡ 0 → ⊥
long_refused f h z = omega (arith, accepted_short f z)

-- the rows after the head
abbrev rest_rows : List ℕ → List Row
rest_rows f = table_rows f ++ body_rows f

-- two tables whose first rows are alike decide alike, where the rest do once those have let pass
alike : {A : Type 0} (refuse : ℕ → ℕ → A) (a a' : A) (r : Refusal) {b b' : Bool} {p p' : ℕ} (rs rs' : List Row) → b ≡ b' → p ≡ p'
    → (b ≡ false → decide refuse a rs ≡ decide refuse a' rs')
    → decide refuse a (row r b p ∷ rs) ≡ decide refuse a' (row r b' p' ∷ rs')
alike refuse a a' r {b} {p = p} rs rs' e e' rest = rw (← e, ← e') (go b refl)
  where
    go : (c : Bool) → b ≡ c → cond c (refuse (number_of r) p) (decide refuse a rs) ≡ cond c (refuse (number_of r) p) (decide refuse a' rs')
    go true q = refl
    go false q = rest q

-- a file whose table passes ends where the table says, or row 8 holds of it
ends_wrong : (f : List ℕ) → longest < length f → threads_in f ≤ most_threads → ltb (wrong_entry f) (threads_in f + 1) ≡ false
    → ltb most_operations (operations_in f) ≡ false
    → ltb most_steps (steps_in f) ≡ false
    → not (eqb (length f) (schedule_in f + steps_in f)) ≡ true
ends_wrong f long few past5 past6 past7 =
    let operations-pass = ltb-false most_operations (operations_in f) past6 in
    let steps-pass = ltb-false most_steps (steps_in f) past7 in
    let schedule = offsets_follow f past5 (threads_in f) (omega arith) in
    ap not (ne_eqb (length f) (schedule_in f + steps_in f) (λ e. omega arith))

module _ (f g : List ℕ) (long-f : longest < length f) (long-g : longest < length g) (same : take (longest + 1) f ≡ take (longest + 1) g) where
  byte_same : (i : ℕ) → i ≤ longest → get_or f i 0 ≡ get_or g i 0
  byte_same i h =
      sym (get_or-take (longest + 1) f i 0 (omega arith))
      ∙ ap (λ (l : List ℕ). get_or l i 0) same
      ∙ get_or-take (longest + 1) g i 0 (omega arith)

  threads_same : threads_in f ≡ threads_in g
  threads_same = byte_same 0 (omega arith)

  keys_same : keys_in f ≡ keys_in g
  keys_same = byte_same 1 (omega arith)

  word_same : (p : ℕ) → p + 1 ≤ longest → word_at f p ≡ word_at g p
  word_same p h = rw (byte_same p (omega arith), byte_same (p + 1) h)

  counts_same : (i : ℕ) → i ≤ most_threads + 1 → sum_to (count_in f) i ≡ sum_to (count_in g) i
  counts_same i h = sum_same (count_in f) (count_in g) i (λ j l. word_same (entry_at j + 2) (omega arith))

  module _ (few : threads_in f ≤ most_threads) where
    entry_same : (i : ℕ) → i < 0 + (threads_in f + 1 - 0) → offset_right f i ≡ offset_right g i
    entry_same i h = cc (word_same (entry_at i) (omega arith), threads_same, counts_same i (omega arith))

    wrong_same : wrong_entry f ≡ wrong_entry g
    wrong_same =
        first_same (offset_right f) (offset_right g) (threads_in f + 1 - 0) 0 entry_same
        ∙ ap (λ (t : ℕ). first_bad (offset_right g) (t + 1 - 0) 0) threads_same

    operations_same : operations_in f ≡ operations_in g
    operations_same = counts_same (threads_in f) (omega arith) ∙ ap (sum_to (count_in g)) threads_same

    steps_same : steps_in f ≡ steps_in g
    steps_same = word_same (entry_at (threads_in f) + 2) (omega arith) ∙ ap (count_in g) threads_same

    entries_tested : ltb (wrong_entry f) (threads_in f + 1) ≡ ltb (wrong_entry g) (threads_in g + 1)
    entries_tested = cc (wrong_same, threads_same)

    table_same : decide refused (accepted f) (rest_rows f) ≡ decide refused (accepted g) (rest_rows g)
    table_same =
        alike refused (accepted f) (accepted g) Offset (drop 1 (rest_rows f)) (drop 1 (rest_rows g)) entries_tested (ap entry_at wrong_same)
        (λ past5.
        alike refused (accepted f) (accepted g) TooManyOperations (drop 2 (rest_rows f)) (drop 2 (rest_rows g)) (ap (ltb most_operations) operations_same) refl
        (λ past6.
        alike refused (accepted f) (accepted g) TooManySteps (drop 3 (rest_rows f)) (drop 3 (rest_rows g)) (ap (ltb most_steps) steps_same) refl
        (λ past7.
        let f-wrong = ends_wrong f long-f few past5 past6 past7 in
        let g-wrong =
        ends_wrong g long-g (rw threads_same at few) (sym entries_tested ∙ past5) (sym (ap (ltb most_operations) operations_same) ∙ past6)
        (sym (ap (ltb most_steps) steps_same) ∙ past7) in
        alike refused (accepted f) (accepted g) Length (drop 4 (rest_rows f)) (drop 4 (rest_rows g)) (f-wrong ∙ sym g-wrong) refl
        (λ past8. absurd (true_false (sym f-wrong ∙ past8))))))

  -- so a reader that keeps the first `longest + 1` bytes of a longer input tells what its whole contents have
  pub long_same : read_of f ≡ read_of g
  unfolding read_of
  long_same =
      alike refused (accepted f) (accepted g) NoHead (drop 1 (rows f)) (drop 1 (rows g)) (le-ltb (length f) 2 (omega arith) ∙ sym (le-ltb (length g) 2 (omega arith))) refl
      (λ past1.
      alike refused (accepted f) (accepted g) Threads (drop 2 (rows f)) (drop 2 (rows g)) (ap (λ (t : ℕ). outside t most_threads) threads_same) refl
      (λ past2.
      let few = (inside (threads_in f) most_threads past2).1 in
      alike refused (accepted f) (accepted g) Keys (drop 3 (rows f)) (drop 3 (rows g)) (ap (λ (k : ℕ). outside k most_keys) keys_same) refl
      (λ past3.
      alike refused (accepted f) (accepted g) TableCutShort (rest_rows f) (rest_rows g)
      (le-ltb (length f) (body_at (threads_in f)) (omega arith) ∙ sym (le-ltb (length g) (body_at (threads_in g)) (omega (arith, threads_same))))
      refl
      (λ past4. table_same few))))

-- the first `longest + 1` bytes of any input tell what the whole of it tells
pub kept_same : (f : List ℕ) → read_of (take (longest + 1) f) ≡ read_of f
kept_same f = go (dec_lt longest (length f))
  where
    go : Dec (longest < length f) → read_of (take (longest + 1) f) ≡ read_of f
    go (yes long) =
        long_same (take (longest + 1) f) f (omega (arith, length-take-le (longest + 1) f long)) long
        (take-take (longest + 1) (longest + 1) f (omega arith))
    go (no short) = ap read_of (take_all (longest + 1) f (omega arith))
