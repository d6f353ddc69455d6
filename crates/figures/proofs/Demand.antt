-- Demand 3, for every run within the limits of document 01; the bound on the steps of a size is `size_steps_run` (Counted.antt).
use Prim.Native.Nat.{ℕ}
use mathlib.Core.List.{List}
use native.Mathlib.Omega.{arith}
use lib.ListN.{length}
use Rattle.history.specs.Demand.{Demand}
use Rattle.figures.specs.Start.{start_of}
use Rattle.figures.specs.Step.{run_of}
use Rattle.figures.specs.Counts.{Within}
use Rattle.figures.specs.Places.{course_of}
use Rattle.figures.proofs.Sound.{sound_run}
use Rattle.figures.proofs.Main.{inv_run}
use Rattle.figures.proofs.Conclude.{conclude}

pub demand_run : (threads keys : ℕ) (counts ops schedule : List ℕ) → Within threads keys counts ops schedule
    → Demand (length ops) (course_of (run_of (start_of threads keys counts ops) schedule))
demand_run threads keys counts ops schedule w =
    let i = inv_run threads keys counts ops schedule w in
    let s = sound_run threads keys counts ops schedule w in
    conclude threads (length ops) (run_of (start_of threads keys counts ops) schedule) i.0 counts w.at_most_threads
    w.at_most_operations (omega (arith, s.clock, w.at_most_steps)) i.1 s.owners w.operations
