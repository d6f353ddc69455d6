-- The writer's answer is 0 only where every row let its contents pass: then they are within the limits, and the file is what is
-- written. Where a row stops them, nothing is.
use Prim.Native.Nat.{ℕ, ◌≤◌}
use mathlib.Core.Path.{◌≡◌, refl}
use mathlib.Core.List.{List, []}
use lib.ListN.{length}
use borrow.Author.Tests.{ltb-false}
use Rattle.figures.specs.Limits.{most_threads, most_operations, most_steps}
use Rattle.runfile.specs.declared.Refusal.{Refusal}
use Rattle.runfile.specs.declared.Refusal.TheVariants.{Threads, TooManyOperations, TooManySteps, TooSmall, Lists}
use Rattle.runfile.specs.Refusals.{number_of}
use Rattle.runfile.specs.Rows.{sum_to, Passes, Stops}
use Rattle.runfile.specs.Layout.{count_of, file_of}
use Rattle.runfile.specs.Write.{nothing, unwritten, written, writer_rows, write_of, written_of}
use Rattle.runfile.proofs.Laws.{inside, agreed}
use Rattle.runfile.proofs.Rows.{passed, stopped, past, number_passes}

module _ (threads keys : ℕ) (counts operations schedule : List ℕ) (room : ℕ) where
  pub writer_passes : (write_of threads keys counts operations schedule room).number ≡ 0
      → Passes (writer_rows threads keys counts operations schedule room)
  unfolding write_of
  writer_passes =
      number_passes unwritten (written threads keys counts operations schedule) (λ w. w.number) (λ n p. refl)
      (writer_rows threads keys counts operations schedule room)

  -- what the filling of the output rests on
  pub ready : Passes (writer_rows threads keys counts operations schedule room)
      → (length counts ≡ threads) × (threads ≤ most_threads) × (length operations ≤ most_operations) × (length schedule ≤ most_steps)
      × (sum_to (count_of counts) (length counts) ≡ length operations)
      × (length (file_of threads keys counts operations schedule) ≤ room)
  ready passes =
      let by = past (writer_rows threads keys counts operations schedule room) passes in
      let agree = agreed threads counts (length operations) (by Lists) in (
        agree.0,
        (inside threads most_threads (by Threads)).1,
        ltb-false most_operations (length operations) (by TooManyOperations),
        ltb-false most_steps (length schedule) (by TooManySteps),
        agree.1,
        ltb-false room (length (file_of threads keys counts operations schedule)) (by TooSmall),
      )

  -- what is answered and written where every row let the contents pass, and where one stopped them
  pub write_passes : Passes (writer_rows threads keys counts operations schedule room)
      → write_of threads keys counts operations schedule room ≡ written threads keys counts operations schedule
  unfolding write_of
  write_passes =
      passed unwritten (written threads keys counts operations schedule) (writer_rows threads keys counts operations schedule room)

  pub file_passes : Passes (writer_rows threads keys counts operations schedule room)
      → written_of threads keys counts operations schedule room ≡ file_of threads keys counts operations schedule
  unfolding written_of
  file_passes =
      passed nothing (file_of threads keys counts operations schedule) (writer_rows threads keys counts operations schedule room)

  pub write_stops : {r : Refusal} {p : ℕ} → Stops (writer_rows threads keys counts operations schedule room) r p
      → write_of threads keys counts operations schedule room ≡ unwritten (number_of r) p
  unfolding write_of
  write_stops s = stopped unwritten (written threads keys counts operations schedule) s

  pub file_stops : {r : Refusal} {p : ℕ} → Stops (writer_rows threads keys counts operations schedule room) r p
      → written_of threads keys counts operations schedule room ≡ []
  unfolding written_of
  file_stops s = stopped nothing (file_of threads keys counts operations schedule) s
