-- What `read` accepts is as specs/Accepts.antt says.
use Prim.Native.Nat.{ℕ, ◌+◌, ◌-◌, ◌<◌, ◌≤◌}
use mathlib.Core.Path.{◌≡◌, refl, sym, ap, subst, ◌∙◌}
use mathlib.Core.Bool.{false}
use mathlib.Core.List.{List, ◌++◌}
use native.Mathlib.Omega.{arith}
use lib.ListN.{length, get_or, replicate, length-append, length-replicate, get_or-append}
use lib.Seq.{get_or-append-add}
use borrow.Author.Tests.{ltb-true, ltb-false, eqb-true, not-false}
use Rattle.figures.specs.Limits.{most_threads, most_keys, most_operations, most_steps}
use Rattle.runfile.specs.declared.Refusal.{Refusal}
use Rattle.runfile.specs.declared.Refusal.TheVariants.{Threads, Keys, Offset, TooManyOperations, TooManySteps, Length, KeyTooLarge, KeyNotBelowK, SizeWithKey, Step}
use Rattle.figures.specs.Codec.{fault_of}
use Rattle.runfile.specs.Rows.{sum_to, Passes}
use Rattle.runfile.specs.Layout.{body_at, offset_in, count_in, count_of, operation_right, step_right}
use Rattle.runfile.specs.Read.{threads_in, keys_in, operations_in, steps_in, schedule_in, counts_in, wrong_operation, wrong_step, rows, refused, accepted, read_of}
use Rattle.runfile.specs.Accepts.{Accepts}
use Rattle.runfile.specs.declared.Reading.{Reading}
use Rattle.runfile.proofs.Laws.{inside, first_before, sum_same, sum_zeros, list_at, length_list, zeros_at}
use Rattle.runfile.proofs.Entries.{offsets_follow}
use Rattle.runfile.proofs.Rows.{passed, past, row_named}
use Rattle.runfile.proofs.Operations.{byte_none}
use Rattle.runfile.proofs.Table.{read_passes}

module _ (f : List ℕ) (zero-told : (read_of f).number ≡ 0) where
  passes : Passes (rows f)
  passes = read_passes f zero-told

  -- each row let it pass
  pub by : (r : Refusal) → (row_named (rows f) r).applies ≡ false
  by = past (rows f) passes

  -- an accepted reading is the whole of what an accepted file holds
  pub reads_accepted : read_of f ≡ accepted f
  unfolding read_of
  reads_accepted = passed refused (accepted f) (rows f) passes

  threads_inside : (1 ≤ threads_in f) × (threads_in f ≤ most_threads)
  threads_inside = inside (threads_in f) most_threads (by Threads)

  -- every entry's offset is the sum required
  pub offsets_right : (i : ℕ) → i ≤ threads_in f → offset_in f i ≡ body_at (threads_in f) + sum_to (count_in f) i
  offsets_right = offsets_follow f (by Offset)

  ends : length f ≡ schedule_in f + steps_in f
  ends = eqb-true (length f) (schedule_in f + steps_in f) (not-false _ (by Length))

  none_wrong : schedule_in f ≤ wrong_operation f
  none_wrong =
      ltb-false (wrong_operation f) (schedule_in f)
      (byte_none _ (fault_of (get_or f (wrong_operation f) 0)) (wrong_operation f) (by KeyTooLarge) (by KeyNotBelowK) (by SizeWithKey))

  count_at_lem : (i : ℕ) → i < threads_in f → get_or (counts_in f ++ replicate (most_threads - threads_in f) 0) i 0 ≡ count_in f i
  count_at_lem i h =
      get_or-append (counts_in f) (replicate (most_threads - threads_in f) 0) 0 i (rw length_list h)
      ∙ list_at (count_in f) (threads_in f) 0 i h
      ∙ ap (count_in f) (omega arith)

  absent_at : (i : ℕ) → threads_in f ≤ i → get_or (counts_in f ++ replicate (most_threads - threads_in f) 0) i 0 ≡ 0
  absent_at i h =
      let e : i ≡ length (counts_in f) + (i - threads_in f) = omega (arith, length_list (count_in f) (threads_in f) 0) in
      rw e
      (get_or-append-add (counts_in f) (replicate (most_threads - threads_in f) 0) (i - threads_in f) 0
      ∙ zeros_at (most_threads - threads_in f) (i - threads_in f))

  sum_of_lem : (n : ℕ) → threads_in f ≤ n
      → sum_to (count_of (counts_in f ++ replicate (most_threads - threads_in f) 0)) n ≡ operations_in f
  sum_of_lem n h =
      sum_zeros (count_of (counts_in f ++ replicate (most_threads - threads_in f) 0)) (threads_in f) n h absent_at
      ∙ sum_same (count_of (counts_in f ++ replicate (most_threads - threads_in f) 0)) (count_in f) (threads_in f) count_at_lem

  pub facts : Accepts f (accepted f)
  facts =
      record {
        threads_low = threads_inside.0;
        threads_high = threads_inside.1;
        keys_low = (inside (keys_in f) most_keys (by Keys)).0;
        keys_high = (inside (keys_in f) most_keys (by Keys)).1;
        counts_eight =
            length-append (counts_in f) (replicate (most_threads - threads_in f) 0)
            ∙ omega (arith, threads_inside, length_list (count_in f) (threads_in f) 0, length-replicate {A = ℕ} (most_threads - threads_in f) 0);
        counts_present = count_at_lem;
        counts_absent = absent_at;
        counts_sum = sum_of_lem;
        operations_few = ltb-false most_operations (operations_in f) (by TooManyOperations);
        steps_few = ltb-false most_steps (steps_in f) (by TooManySteps);
        operations_first = refl;
        schedule_next = sym (offsets_right (threads_in f) (omega arith));
        file_ends = sym ends;
        operations_allowed =
            λ p l h.
            first_before (operation_right (keys_in f) f) (schedule_in f - body_at (threads_in f)) (body_at (threads_in f)) p l
            (omega (arith, none_wrong));
        steps_named =
            λ p l h.
            ltb-true (get_or f p 0) (threads_in f)
            (first_before (step_right (threads_in f) f) (schedule_in f + steps_in f - schedule_in f) (schedule_in f) p l
            (omega (arith, ends, ltb-false (wrong_step f) (schedule_in f + steps_in f) (by Step))));
      }

  pub accepts : Accepts f (read_of f)
  accepts = subst (Accepts f) (sym reads_accepted) facts

-- the same for a caller of `read`, by what it promises
pub reading_accepts : (f : List ℕ) (r : Reading) → r ≡ read_of f → r.number ≡ 0 → Accepts f r
reading_accepts f r e z =
    subst (Accepts f) (sym e) (accepts f (ap (λ (x : Reading). x.number) (sym e) ∙ z))
