-- What is written reads back the same.
use Prim.Native.Nat.{ℕ, ◌+◌, ◌-◌, ◌<◌, ◌≤◌}
use mathlib.Core.Path.{◌≡◌, refl, sym, ap, subst, ◌∙◌}
use mathlib.Core.Bool.{true, false}
use mathlib.Core.List.{List, [], ◌∷◌, ◌++◌}
use native.Mathlib.Omega.{arith}
use lib.ListN.{length, get_or, take, drop, length-append, get_or-append, drop_of_length-le}
use lib.Seq.{take-length, sets, sets-eq, get_or-drop, get_or_at, get_or-append-add, take_at, drop_at, drop-drop}
use borrow.Author.Tests.{ltb-true, ltb-false}
use Rattle.figures.specs.Limits.{most_threads, most_keys, most_operations, most_steps}
use Rattle.figures.specs.Codec.{allowed, fault_of}
use Rattle.runfile.specs.declared.Refusal.{Refusal}
use Rattle.runfile.specs.declared.Refusal.TheVariants.{Threads, Keys, TooManyOperations, TooManySteps, KeyTooLarge, KeyNotBelowK, SizeWithKey, Step}
use Rattle.runfile.specs.Rows.{sum_to, list_from, Passes}
use Rattle.runfile.specs.Layout.{body_at, offset_in, count_in, count_of, operation_right, step_right, entries, file_of}
use Rattle.runfile.specs.Shared.{wrong_operation_in, wrong_step_in}
use Rattle.runfile.specs.Read.{threads_in, keys_in, operations_in, steps_in, schedule_in, read_of}
use Rattle.runfile.specs.Write.{writer_rows, write_of, written_of}
use Rattle.runfile.specs.Table.{Allowed, Refuses, reading_order, short, threads_outside, keys_outside, cut_short, offset_wrong, operations_many, steps_many, length_wrong, operation_wrong, step_wrong}
use Rattle.runfile.specs.Contents.{contents, ReadsAs}
use Rattle.runfile.proofs.Laws.{true_false, first_before, sum_same, list_is}
use Rattle.runfile.proofs.File.{all_counts, file_drop, file_entry, length_file}
use Rattle.runfile.proofs.Writer.{writer_passes, ready, write_passes, file_passes}
use Rattle.runfile.proofs.Rows.{past, row_named, none_of}
use Rattle.runfile.proofs.Operations.{allowed_is, byte_none}
use Rattle.runfile.proofs.Table.{outside_is, read_decides}
use Rattle.runfile.proofs.Accepts.{reads_accepted}

module _ (threads keys : ℕ) (counts operations schedule : List ℕ) (room : ℕ)
    (zero-told : (write_of threads keys counts operations schedule room).number ≡ 0) where
  file : List ℕ
  file = file_of threads keys counts operations schedule

  passes : Passes (writer_rows threads keys counts operations schedule room)
  passes = writer_passes threads keys counts operations schedule room zero-told

  enough : length counts ≡ threads
  enough = (ready threads keys counts operations schedule room passes).0

  all_length : length (all_counts threads keys counts operations schedule) ≡ threads + 1
  all_length = length-append counts (length schedule ∷ []) ∙ omega (arith, enough)

  threads_is : threads_in file ≡ threads
  unfolding file file_of
  threads_is = refl

  keys_is : keys_in file ≡ keys
  unfolding file file_of
  keys_is = refl

  entry_is : (i : ℕ) → i ≤ threads
      → (offset_in file i ≡ body_at threads + sum_to (count_of (all_counts threads keys counts operations schedule)) i)
      × (count_in file i ≡ count_of (all_counts threads keys counts operations schedule) i)
  unfolding file
  entry_is i h = file_entry threads keys counts operations schedule i (omega (arith, all_length))

  count_is : (i : ℕ) → i < threads → count_in file i ≡ count_of counts i
  count_is i h = (entry_is i (omega arith)).1 ∙ get_or-append counts (length schedule ∷ []) 0 i (omega (arith, enough))

  operations_is : sum_to (count_in file) threads ≡ length operations
  operations_is =
      sum_same (count_in file) (count_of counts) threads count_is
      ∙ rw enough at (ready threads keys counts operations schedule room passes).4

  steps_is : count_in file threads ≡ length schedule
  steps_is = (entry_is threads (omega arith)).1 ∙ get_or_at counts (length schedule) [] 0 threads enough

  offset_is : (i : ℕ) → i ≤ threads → offset_in file i ≡ body_at threads + sum_to (count_in file) i
  offset_is i h =
      (entry_is i h).0
      ∙ ap (λ (n : ℕ). body_at threads + n)
      (sym (sum_same (count_in file) (count_of (all_counts threads keys counts operations schedule)) i (λ j l. (entry_is j (omega arith)).1)))

  length_is : length file ≡ body_at threads + length operations + length schedule
  unfolding file
  length_is = length_file threads keys counts operations schedule enough

  bodies_are : drop (body_at threads) file ≡ operations ++ schedule
  unfolding file entries
  bodies_are =
      rw (drop_of_length-le (all_counts threads keys counts operations schedule) {i = threads + 1} (omega (arith, all_length)))
      at (file_drop threads keys counts operations schedule (threads + 1) (omega (arith, all_length)))

  byte_is : (j : ℕ) → get_or file (body_at threads + j) 0 ≡ get_or (operations ++ schedule) j 0
  byte_is j = sym (get_or-drop (body_at threads) file j 0) ∙ ap (λ (l : List ℕ). get_or l j 0) bodies_are

  -- ---- no row of the table holds of it

  by : (r : Refusal) → (row_named (writer_rows threads keys counts operations schedule room) r).applies ≡ false
  by = past (writer_rows threads keys counts operations schedule room) passes

  none_wrong : length operations ≤ wrong_operation_in keys operations 0 (length operations)
  none_wrong =
      ltb-false (wrong_operation_in keys operations 0 (length operations)) (length operations)
      (byte_none _ (fault_of (get_or operations (wrong_operation_in keys operations 0 (length operations)) 0)) 0 (by KeyTooLarge) (by KeyNotBelowK)
      (by SizeWithKey))

  operation_right_lem : (j : ℕ) → j < length operations → allowed keys (get_or operations j 0) ≡ true
  operation_right_lem j h =
      first_before (operation_right keys operations) (length operations - 0) 0 j (omega arith)
      (omega (arith, none_wrong))

  step_right_lem : (j : ℕ) → j < length schedule → get_or schedule j 0 < threads
  step_right_lem j h =
      ltb-true (get_or schedule j 0) threads
      (first_before (step_right threads schedule) (length schedule - 0) 0 j (omega arith)
      (omega (arith, ltb-false (wrong_step_in threads schedule 0 (length schedule)) (length schedule) (by Step))))

  operations_in_is : operations_in file ≡ length operations
  operations_in_is = rw threads_is operations_is

  steps_in_is : steps_in file ≡ length schedule
  steps_in_is = rw threads_is steps_is

  schedule_is : offset_in file threads ≡ body_at threads + length operations
  schedule_is = offset_is threads (omega arith) ∙ rw operations_is

  schedule_in_is : schedule_in file ≡ body_at threads + length operations
  schedule_in_is = rw threads_is schedule_is

  operation_at : (p : ℕ) → body_at threads ≤ p → p < body_at threads + length operations → Allowed keys (get_or file p 0)
  operation_at p l h =
      let e : p ≡ body_at threads + (p - body_at threads) = omega arith in
      let b : get_or file p 0 ≡ get_or operations (p - body_at threads) 0 =
      ap (λ (q : ℕ). get_or file q 0) e ∙ byte_is (p - body_at threads) ∙ get_or-append operations schedule 0 (p - body_at threads) (omega arith) in
      rw b ((allowed_is keys (get_or operations (p - body_at threads) 0)).0 (operation_right_lem (p - body_at threads) (omega arith)))

  step_at : (p : ℕ) → body_at threads + length operations ≤ p → p < length file → get_or file p 0 < threads
  step_at p l h =
      let j = p - body_at threads - length operations in
      let e : p ≡ body_at threads + (length operations + j) = omega arith in
      let b : get_or file p 0 ≡ get_or schedule j 0 =
      ap (λ (q : ℕ). get_or file q 0) e ∙ byte_is (length operations + j) ∙ get_or-append-add operations schedule j 0 in
      rw b (step_right_lem j (omega (arith, length_is)))

  no_row : {r : Refusal} {p : ℕ} → Refuses file r p → ⊥
  no_row (short h) = omega (arith, length_is)
  no_row (threads_outside h) = true_false (sym ((outside_is (threads_in file) most_threads).1 h) ∙ rw threads_is (by Threads))
  no_row (keys_outside h) = true_false (sym ((outside_is (keys_in file) most_keys).1 h) ∙ rw keys_is (by Keys))
  no_row (cut_short h) = omega (arith, length_is, threads_is)
  no_row (offset_wrong {i} h) = h.2 (rw threads_is (offset_is i (omega (arith, threads_is))))
  no_row (operations_many h) = omega (arith, operations_in_is, ltb-false most_operations (length operations) (by TooManyOperations))
  no_row (steps_many h) = omega (arith, steps_in_is, ltb-false most_steps (length schedule) (by TooManySteps))
  no_row (length_wrong h) = h (omega (arith, length_is, schedule_in_is, steps_in_is))
  no_row (operation_wrong {p = p} h w) = h.2 (rw keys_is (operation_at p (omega (arith, threads_is)) (omega (arith, schedule_in_is))))
  no_row (step_wrong {p} h) =
      h.2 (rw threads_is (step_at p (omega (arith, schedule_in_is)) (omega (arith, length_is, schedule_in_is, steps_in_is))))

  -- ---- so it is read as what it was made of

  counts_are : list_from (count_in file) threads 0 ≡ counts
  counts_are =
      subst (λ (n : ℕ). list_from (count_in file) n 0 ≡ counts) enough
      (list_is (count_in file) counts 0 (λ j h. ap (count_in file) (omega arith) ∙ count_is j (omega (arith, enough))))

  file_told : read_of file ≡ contents threads keys counts operations schedule
  file_told =
      reads_accepted file ((read_decides file).accepts.1 (none_of (Refuses file) (λ r p. no_row) reading_order))
      ∙ simp (threads_is, keys_is, counts_are, operations_is, steps_is, schedule_is)

  pub file_reads_as : ReadsAs threads keys counts operations schedule (file_of threads keys counts operations schedule)
  unfolding file
  file_reads_as =
      record {
        told = file_told;
        operations_there = rw (file_told, bodies_are) (take_at operations schedule (length operations) refl);
        schedule_there =
            rw (file_told, ← drop-drop (length operations) (body_at threads) file, bodies_are)
            (rw (drop_at operations schedule (length operations) refl) (take-length schedule));
      }

  -- what the writer left in the output, as far as it told, reads back as what it was given
  pub written_reads_as : (out : List ℕ) → length out ≡ room
      → ReadsAs threads keys counts operations schedule
      (take (write_of threads keys counts operations schedule room).length
      (sets out 0 (written_of threads keys counts operations schedule room)))
  written_reads_as out h =
      let fits = (ready threads keys counts operations schedule room passes).5 in
      let e : take (write_of threads keys counts operations schedule room).length
      (sets out 0 (written_of threads keys counts operations schedule room))
      ≡ file_of threads keys counts operations schedule =
      rw (write_passes threads keys counts operations schedule room passes, file_passes threads keys counts operations schedule room passes)
      (ap (take (length (file_of threads keys counts operations schedule))) (sets-eq (file_of threads keys counts operations schedule) out 0 (omega arith))
      ∙ take_at (file_of threads keys counts operations schedule) _ (length (file_of threads keys counts operations schedule)) refl) in
      rw e file_reads_as
