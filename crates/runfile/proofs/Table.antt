-- `read_of` and `write_of` are document 01's table: each gives the first row that holds, in its own order, at its place, and accepts
-- exactly where none holds.
use Prim.Native.Nat.{ℕ, ◌+◌, ◌-◌, ◌<◌, ◌≤◌}
use mathlib.Core.Path.{◌≡◌, refl, sym, ap, subst, ◌∙◌}
use mathlib.Core.Bool.{Bool, true, false, not, cond}
use mathlib.Core.List.{List, [], ◌∷◌, ◌++◌, map}
use mathlib.Core.Logic.{◌⊎◌, inl, inr, ◌≢◌, ◌↔◌}
use native.Mathlib.Omega.{arith}
use native.Mathlib.Decide.{dec_lt}
use lib.ListN.{length, get_or}
use lib.Dec.{ltb, eqb}
use borrow.Author.Tests.{ltb-true, lt-ltb, le-ltb, eqb-true, eqb-false, eq-eqb, ne_eqb, not-true}
use Rattle.figures.specs.Codec.{fault_of}
use Rattle.runfile.specs.Rows.{Row, decide, outside, first_bad_in, sum_to, Passes, Stops}
use Rattle.runfile.specs.Layout.{entry_at, body_at, offset_in, count_in, count_of, operation_right, step_right}
use Rattle.runfile.specs.Read.{threads_in, keys_in, steps_in, schedule_in, offset_right, wrong_operation, rows, running_rows, refused, accepted, read_of}
use Rattle.runfile.specs.Refusals.{number_of, fault_row}
use Rattle.runfile.specs.Shared.{wrong_operation_in, fault_in, byte_row, step_row, room_row}
use Rattle.runfile.specs.Write.{disagree, unwritten, written, writer_rows, write_of}
use Rattle.runfile.specs.Table.{Outside, Allowed, Wrong, key_large, key_over, size_keyed, First, Refuses, Unplayable, Unwritable, Decides, reading_order, running_order, writing_order, unread, output_small, short, threads_outside, keys_outside, cut_short, offset_wrong, operations_many, steps_many, length_wrong, operation_wrong, step_wrong, threads_bad, keys_bad, lists_disagree, operations_over, steps_over, operation_bad, step_bad, room_small}
use Rattle.runfile.specs.declared.Refusal.{Refusal}
use Rattle.runfile.specs.declared.Refusal.TheVariants.{NoHead, Threads, Keys, TableCutShort, Offset, TooManyOperations, TooManySteps, Length, KeyTooLarge, KeyNotBelowK, SizeWithKey, Step, TooSmall}
use Rattle.runfile.specs.declared.Reading.{Reading}
use Rattle.runfile.proofs.Laws.{true_false, first_low, first_before, first_at}
use Rattle.runfile.proofs.Operations.{allowed_is, fault_wrong, wrong_fault, byte_on, byte_applies}
use Rattle.runfile.proofs.Rows.{listed, row_named, AllTell, done, ◌also◌, outcome, passed, stopped, number_passes, decide_append, numbered, decides}

-- ---- the orders in the documents' numbers: reading tries them as they rise, but 13 and 14 at 9's place; the writer tests
-- in an order of its own

pub reading_numbers : map number_of reading_order ≡ 1 ∷ 2 ∷ 3 ∷ 4 ∷ 5 ∷ 6 ∷ 7 ∷ 8 ∷ 9 ∷ 13 ∷ 14 ∷ 10 ∷ []
reading_numbers = refl

pub writing_numbers : map number_of writing_order ≡ 2 ∷ 3 ∷ 12 ∷ 6 ∷ 7 ∷ 9 ∷ 13 ∷ 14 ∷ 10 ∷ 11 ∷ []
writing_numbers = refl

-- ---- each test and what it tests

pub outside_is : (x most : ℕ) → (outside x most ≡ true) ↔ Outside x most
outside_is x most = (λ e. go (ltb x 1) refl e, back)
  where
    go : (b : Bool) → ltb x 1 ≡ b → cond b true (ltb most x) ≡ true → Outside x most
    go true e h = inl (omega (arith, ltb-true x 1 e))
    go false e h = inr (ltb-true most x h)

    back : Outside x most → outside x most ≡ true
    back (inl e) = simp (lt-ltb x 1 (omega arith))
    back (inr h) = simp (le-ltb x 1 (omega arith), lt-ltb most x h)

pub disagree_is : (threads : ℕ) (counts : List ℕ) (operations : ℕ)
    → (disagree threads counts operations ≡ true) ↔ ((length counts ≢ threads) ⊎ (sum_to (count_of counts) (length counts) ≢ operations))
disagree_is threads counts operations = (λ e. go (eqb (length counts) threads) refl e, back)
  where
    go : (b : Bool) → eqb (length counts) threads ≡ b → cond b (not (eqb (sum_to (count_of counts) (length counts)) operations)) true ≡ true
        → (length counts ≢ threads) ⊎ (sum_to (count_of counts) (length counts) ≢ operations)
    go true e h = inr (eqb-false _ _ (not-true _ h))
    go false e h = inl (eqb-false _ _ e)

    other : (b : Bool) {c : Bool} → c ≡ true → cond b c true ≡ true
    other true e = e
    other false e = refl

    back : (length counts ≢ threads) ⊎ (sum_to (count_of counts) (length counts) ≢ operations) → disagree threads counts operations ≡ true
    back (inl h) = simp (ne_eqb (length counts) threads h)
    back (inr h) = other (eqb (length counts) threads) (ap not (ne_eqb (sum_to (count_of counts) (length counts)) operations h))

-- the first bad one of a test is the first that is not good, where the test tells the good ones
module _ (Good : ℕ → Type 0) (ok : ℕ → Bool) (tells : (i : ℕ) → (ok i ≡ true) ↔ Good i) (from to : ℕ) where
  pub bad_is_first : ltb (first_bad_in ok from to) to ≡ true → First Good from to (first_bad_in ok from to)
  bad_is_first e =
      let low = first_low ok (to - from) from in
      let h = ltb-true (first_bad_in ok from to) to e in (
        low,
        h,
        λ g. true_false (sym ((tells (first_bad_in ok from to)).1 g) ∙ first_at ok (to - from) from (omega arith)),
        λ q l u. (tells q).0 (first_before ok (to - from) from q l u),
      )

  pub first_is_bad : (p : ℕ) → First Good from to p → first_bad_in ok from to ≡ p
  first_is_bad p h = go (dec_lt (first_bad_in ok from to) p) (dec_lt p (first_bad_in ok from to))
    where
      go : Dec (first_bad_in ok from to < p) → Dec (p < first_bad_in ok from to) → first_bad_in ok from to ≡ p
      go (yes l) d =
          let low = first_low ok (to - from) from in
          absurd
          (true_false (sym ((tells (first_bad_in ok from to)).1 (h.3 (first_bad_in ok from to) low l)) ∙ first_at ok (to - from) from (omega arith)))
      go (no l) (yes g) = absurd (h.2 ((tells p).0 (first_before ok (to - from) from p h.0 g)))
      go (no l) (no g) = omega arith

  pub first_applies : (p : ℕ) → First Good from to p → ltb (first_bad_in ok from to) to ≡ true
  first_applies p h = lt-ltb (first_bad_in ok from to) to (omega (arith, first_is_bad p h))

-- ---- the bodies' rows, wherever the bytes lie

module _ (keys : ℕ) (bytes : List ℕ) (from to : ℕ) where
  operation_tells : (p : ℕ) → (operation_right keys bytes p ≡ true) ↔ Allowed keys (get_or bytes p 0)
  operation_tells p = allowed_is keys (get_or bytes p 0)

  -- whether there is a byte that is not allowed, and row r of the first such
  abbrev bad : Bool
  bad = ltb (wrong_operation_in keys bytes from to) to

  abbrev row_of : Refusal → Row
  row_of = byte_row bad (fault_in keys bytes from to) (wrong_operation_in keys bytes from to)

  pub operation_first : (r : Refusal) → (row_of r).applies ≡ true
      → First (λ q. Allowed keys (get_or bytes q 0)) from to (row_of r).place × Wrong keys (get_or bytes (row_of r).place 0) r
  operation_first r e =
      let on = byte_on bad (fault_in keys bytes from to) (wrong_operation_in keys bytes from to) r e in
      let low = first_low (operation_right keys bytes) (to - from) from in
      let h = ltb-true (wrong_operation_in keys bytes from to) to on.0 in (
        bad_is_first _ (operation_right keys bytes) operation_tells from to on.0,
        subst (Wrong keys (get_or bytes (wrong_operation_in keys bytes from to) 0)) on.1
            (fault_wrong keys _ (first_at (operation_right keys bytes) (to - from) from (omega arith))),
      )

  pub operation_applies : (r : Refusal) (p : ℕ) → First (λ q. Allowed keys (get_or bytes q 0)) from to p → Wrong keys (get_or bytes p 0) r
      → ((row_of r).applies ≡ true) × ((row_of r).place ≡ p)
  operation_applies r p h w =
      let good = operation_right keys bytes in
      let e : wrong_operation_in keys bytes from to ≡ p = first_is_bad _ good operation_tells from to p h in
      let own : fault_in keys bytes from to ≡ r = ap (λ (q : ℕ). fault_row (fault_of (get_or bytes q 0))) e ∙ wrong_fault keys _ w in
      let some = first_applies _ good operation_tells from to p h in
      (byte_applies bad (fault_in keys bytes from to) (wrong_operation_in keys bytes from to) r some own, e)

module _ (threads : ℕ) (bytes : List ℕ) (from to : ℕ) where
  step_tells : (p : ℕ) → (step_right threads bytes p ≡ true) ↔ (get_or bytes p 0 < threads)
  step_tells p = (ltb-true _ _, lt-ltb _ _)

  pub step_first : (step_row threads bytes from to).applies ≡ true
      → First (λ q. get_or bytes q 0 < threads) from to (step_row threads bytes from to).place
  step_first = bad_is_first _ (step_right threads bytes) step_tells from to

  pub step_applies : (p : ℕ) → First (λ q. get_or bytes q 0 < threads) from to p
      → ((step_row threads bytes from to).applies ≡ true) × ((step_row threads bytes from to).place ≡ p)
  step_applies p h =
      let good = step_right threads bytes in
      (first_applies _ good step_tells from to p h, first_is_bad _ good step_tells from to p h)

-- ---- reading

module _ (f : List ℕ) where
  entry_tells : (i : ℕ) → (offset_right f i ≡ true) ↔ (offset_in f i ≡ body_at (threads_in f) + sum_to (count_in f) i)
  entry_tells i = (eqb-true _ _, eq-eqb _ _)

  -- where a row holds, the row of that name applies, at that place
  refuses_applies : {r : Refusal} {p : ℕ} → Refuses f r p → ((row_named (rows f) r).applies ≡ true) × ((row_named (rows f) r).place ≡ p)
  refuses_applies (short h) = (lt-ltb _ _ h, refl)
  refuses_applies (threads_outside h) = ((outside_is _ _).1 h, refl)
  refuses_applies (keys_outside h) = ((outside_is _ _).1 h, refl)
  refuses_applies (cut_short h) = (lt-ltb _ _ h, refl)
  refuses_applies (offset_wrong {i} h) =
      let b = first_is_bad _ (offset_right f) entry_tells 0 (threads_in f + 1) i h in
      (first_applies _ (offset_right f) entry_tells 0 (threads_in f + 1) i h, ap entry_at b)
  refuses_applies (operations_many h) = (lt-ltb _ _ h, refl)
  refuses_applies (steps_many h) = (lt-ltb _ _ h, refl)
  refuses_applies (length_wrong h) = (ap not (ne_eqb _ _ h), refl)
  refuses_applies (operation_wrong {r} {p} h (key_large c l)) =
      operation_applies (keys_in f) f (body_at (threads_in f)) (schedule_in f) r p h (key_large c l)
  refuses_applies (operation_wrong {r} {p} h (key_over c u l)) =
      operation_applies (keys_in f) f (body_at (threads_in f)) (schedule_in f) r p h (key_over c u l)
  refuses_applies (operation_wrong {r} {p} h (size_keyed c n)) =
      operation_applies (keys_in f) f (body_at (threads_in f)) (schedule_in f) r p h (size_keyed c n)
  refuses_applies (step_wrong {p} h) = step_applies (threads_in f) f (schedule_in f) (schedule_in f + steps_in f) p h

  refuses_listed : {r : Refusal} {p : ℕ} → Refuses f r p → listed reading_order r ≡ true
  refuses_listed (short h) = refl
  refuses_listed (threads_outside h) = refl
  refuses_listed (keys_outside h) = refl
  refuses_listed (cut_short h) = refl
  refuses_listed (offset_wrong h) = refl
  refuses_listed (operations_many h) = refl
  refuses_listed (steps_many h) = refl
  refuses_listed (length_wrong h) = refl
  refuses_listed (operation_wrong h (key_large c l)) = refl
  refuses_listed (operation_wrong h (key_over c u l)) = refl
  refuses_listed (operation_wrong h (size_keyed c n)) = refl
  refuses_listed (step_wrong h) = refl

  -- An entry point that reads the file and has rows of its own after reading's: it means by reading's rows what reading means.
  module _ (Holds : Refusal → ℕ → Type 0) (reads : (r : Refusal) (p : ℕ) → Refuses f r p → Holds r p)
      (back : (r : Refusal) (p : ℕ) → listed reading_order r ≡ true → Holds r p → Refuses f r p)
      {rs : List Row} (rest : AllTell Holds rs) where
    bad_byte : (r : Refusal)
        → (byte_row (ltb (wrong_operation f) (schedule_in f)) (fault_in (keys_in f) f (body_at (threads_in f)) (schedule_in f)) (wrong_operation f) r
        ).applies
        ≡ true
        → Holds r (wrong_operation f)
    bad_byte r e =
        let w = operation_first (keys_in f) f (body_at (threads_in f)) (schedule_in f) r e in
        reads r (wrong_operation f) (operation_wrong w.0 w.1)

    pub tells_after : AllTell Holds (rows f ++ rs)
    tells_after =
        (λ e. reads _ _ (short (ltb-true _ _ e)), λ p h. refuses_applies (back NoHead p refl h))
        also (λ e. reads _ _ (threads_outside ((outside_is _ _).0 e)), λ p h. refuses_applies (back Threads p refl h))
        also (λ e. reads _ _ (keys_outside ((outside_is _ _).0 e)), λ p h. refuses_applies (back Keys p refl h))
        also (λ e. reads _ _ (cut_short (ltb-true _ _ e)), λ p h. refuses_applies (back TableCutShort p refl h))
        also (
          λ e. reads _ _ (offset_wrong (bad_is_first _ (offset_right f) entry_tells 0 (threads_in f + 1) e)),
          λ p h. refuses_applies (back Offset p refl h),
        )
        also (λ e. reads _ _ (operations_many (ltb-true _ _ e)), λ p h. refuses_applies (back TooManyOperations p refl h))
        also (λ e. reads _ _ (steps_many (ltb-true _ _ e)), λ p h. refuses_applies (back TooManySteps p refl h))
        also (λ e. reads _ _ (length_wrong (eqb-false _ _ (not-true _ e))), λ p h. refuses_applies (back Length p refl h))
        also (λ e. bad_byte KeyTooLarge e, λ p h. refuses_applies (back KeyTooLarge p refl h))
        also (λ e. bad_byte KeyNotBelowK e, λ p h. refuses_applies (back KeyNotBelowK p refl h))
        also (λ e. bad_byte SizeWithKey e, λ p h. refuses_applies (back SizeWithKey p refl h))
        also (
          λ e. reads _ _ (step_wrong (step_first (threads_in f) f (schedule_in f) (schedule_in f + steps_in f) e)),
          λ p h. refuses_applies (back Step p refl h),
        )
        also rest

  -- `read` gives the first row of `reading_order` that holds, at its place, and accepts exactly where none holds
  pub read_decides : Decides (Refuses f) reading_order (read_of f).number (read_of f).place
  unfolding read_of
  read_decides =
      decides (Refuses f) refused (accepted f) (λ r. r.number) (λ r. r.place) refl (λ n p. refl) (λ n p. refl) (rows f)
      (tells_after (Refuses f) (λ r p h. h) (λ r p l h. h) done)

  pub read_passes : (read_of f).number ≡ 0 → Passes (rows f)
  unfolding read_of
  read_passes = number_passes refused (accepted f) (λ r. r.number) (λ n p. refl) (rows f)

  -- whatever is read is told as accepted or as a refusal
  pub readings : (read_of f ≡ accepted f) ⊎ ((r : Refusal) × (p : ℕ) × (read_of f ≡ refused (number_of r) p))
  unfolding read_of
  readings = go (outcome (rows f))
    where
      go : Passes (rows f) ⊎ ((r : Refusal) × (p : ℕ) × Stops (rows f) r p)
          → (read_of f ≡ accepted f) ⊎ ((r : Refusal) × (p : ℕ) × (read_of f ≡ refused (number_of r) p))
      go (inl ps) = inl (passed refused (accepted f) (rows f) ps)
      go (inr s) = inr (s.0, s.1, stopped refused (accepted f) s.2)

-- ---- running, with outputs lent

module _ (f : List ℕ) (small : Bool) where
  room_shown : {p : ℕ} → Unplayable f small TooSmall p → (small ≡ true) × (0 ≡ p)
  room_shown (unread h) = absurd (true_false (sym (refuses_listed f h)))
  room_shown (output_small e) = (e, refl)

  back : (r : Refusal) (p : ℕ) → listed reading_order r ≡ true → Unplayable f small r p → Refuses f r p
  back r p l (unread h) = h
  back r p l (output_small e) = absurd (true_false (sym l))

  running_tells : AllTell (Unplayable f small) (running_rows f small)
  running_tells = tells_after f (Unplayable f small) (λ r p h. unread h) back ((λ e. output_small e, λ p h. room_shown h) also done)

  -- a run gives the first row of `running_order` that holds, at its place, and plays exactly where none holds
  module _ {A : Type 0} (refuse : ℕ → ℕ → A) (accept : A) (number place : A → ℕ) (zero-told : number accept ≡ 0)
      (number_told : (n p : ℕ) → number (refuse n p) ≡ n) (place_told : (n p : ℕ) → place (refuse n p) ≡ p) where
    pub run_decides : Decides (Unplayable f small) running_order (number (decide refuse accept (running_rows f small)))
        (place (decide refuse accept (running_rows f small)))
    run_decides =
        decides (Unplayable f small) refuse accept number place zero-told number_told place_told (running_rows f small) running_tells

  -- as reading told, and then by the room
  module _ {A : Type 0} (refuse : ℕ → ℕ → A) (accept : A) where
    room_told : A
    room_told = cond small (refuse (number_of TooSmall) 0) accept

    by_reading : {n p m q : ℕ} → n ≡ m → p ≡ q → 1 ≤ m → refuse m q ≡ cond (eqb n 0) room_told (refuse n p)
    by_reading {m = m} e e' one = rw (e, e', ne_eqb m 0 (λ z. omega arith))

    by_room : {n : ℕ} (a : A) → n ≡ 0 → room_told ≡ cond (eqb n 0) room_told a
    by_room a e = rw e

    pub run_after : decide refuse accept (running_rows f small)
        ≡ cond (eqb (read_of f).number 0) (cond small (refuse (number_of TooSmall) 0) accept) (refuse (read_of f).number (read_of f).place)
    unfolding read_of room_told
    run_after = decide_append refuse accept (rows f) (room_row small ∷ []) ∙ go (outcome (rows f))
      where
        go : Passes (rows f) ⊎ ((r : Refusal) × (p : ℕ) × Stops (rows f) r p)
            → decide refuse room_told (rows f) ≡ cond (eqb (read_of f).number 0) room_told (refuse (read_of f).number (read_of f).place)
        go (inl ps) =
            passed refuse room_told (rows f) ps ∙ by_room _ (ap (λ (r : Reading). r.number) (passed refused (accepted f) (rows f) ps))
        go (inr s) =
            let q = stopped refused (accepted f) s.2 in
            stopped refuse room_told s.2
            ∙ by_reading (ap (λ (r : Reading). r.number) q) (ap (λ (r : Reading). r.place) q) (numbered s.0)

-- ---- writing

module _ (threads keys : ℕ) (counts operations schedule : List ℕ) (room : ℕ) where
  unwritable_applies : {r : Refusal} {p : ℕ} → Unwritable threads keys counts operations schedule room r p
      → ((row_named (writer_rows threads keys counts operations schedule room) r).applies ≡ true)
      × ((row_named (writer_rows threads keys counts operations schedule room) r).place ≡ p)
  unwritable_applies (threads_bad h) = ((outside_is _ _).1 h, refl)
  unwritable_applies (keys_bad h) = ((outside_is _ _).1 h, refl)
  unwritable_applies (lists_disagree h) = ((disagree_is threads counts (length operations)).1 h, refl)
  unwritable_applies (operations_over h) = (lt-ltb _ _ h, refl)
  unwritable_applies (steps_over h) = (lt-ltb _ _ h, refl)
  unwritable_applies (operation_bad {r} {p} h (key_large c l)) = operation_applies keys operations 0 (length operations) r p h (key_large c l)
  unwritable_applies (operation_bad {r} {p} h (key_over c u l)) =
      operation_applies keys operations 0 (length operations) r p h (key_over c u l)
  unwritable_applies (operation_bad {r} {p} h (size_keyed c n)) =
      operation_applies keys operations 0 (length operations) r p h (size_keyed c n)
  unwritable_applies (step_bad {p} h) = step_applies threads schedule 0 (length schedule) p h
  unwritable_applies (room_small h) = (lt-ltb _ _ h, refl)

  bad_written : (r : Refusal)
      → (byte_row (ltb (wrong_operation_in keys operations 0 (length operations)) (length operations))
      (fault_in keys operations 0 (length operations))
      (wrong_operation_in keys operations 0 (length operations))
      r
      ).applies
      ≡ true
      → Unwritable threads keys counts operations schedule room r (wrong_operation_in keys operations 0 (length operations))
  bad_written r e =
      let w = operation_first keys operations 0 (length operations) r e in operation_bad w.0 w.1

  writer_tells : AllTell (Unwritable threads keys counts operations schedule room) (writer_rows threads keys counts operations schedule room)
  writer_tells =
      (λ e. threads_bad ((outside_is _ _).0 e), λ p h. unwritable_applies h)
      also (λ e. keys_bad ((outside_is _ _).0 e), λ p h. unwritable_applies h)
      also (λ e. lists_disagree ((disagree_is threads counts (length operations)).0 e), λ p h. unwritable_applies h)
      also (λ e. operations_over (ltb-true _ _ e), λ p h. unwritable_applies h)
      also (λ e. steps_over (ltb-true _ _ e), λ p h. unwritable_applies h)
      also (λ e. bad_written KeyTooLarge e, λ p h. unwritable_applies h)
      also (λ e. bad_written KeyNotBelowK e, λ p h. unwritable_applies h)
      also (λ e. bad_written SizeWithKey e, λ p h. unwritable_applies h)
      also (λ e. step_bad (step_first threads schedule 0 (length schedule) e), λ p h. unwritable_applies h)
      also (λ e. room_small (ltb-true _ _ e), λ p h. unwritable_applies h)
      also done

  -- `write` gives the first row of `writing_order` that holds, at its place, and writes exactly where none holds
  pub write_decides : Decides (Unwritable threads keys counts operations schedule room) writing_order
      (write_of threads keys counts operations schedule room).number
      (write_of threads keys counts operations schedule room).place
  unfolding write_of
  write_decides =
      decides (Unwritable threads keys counts operations schedule room) unwritten (written threads keys counts operations schedule) (λ w. w.number)
      (λ w. w.place)
      refl
      (λ n p. refl)
      (λ n p. refl)
      (writer_rows threads keys counts operations schedule room)
      writer_tells
