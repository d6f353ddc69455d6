use Rattle.std.proofs.Common.{◌≡◌, drop}
use Rattle.figures.specs.Step.{run_of}
use Rattle.machine.specs.Parts.{whole_of}
use Rattle.machine.proofs.play_lent.Given as goal

-- what is left of the schedule, run from the machine reached, gives what the whole gives
abbrev pub invariant-loop-t : goal.invariant-loop-t
invariant-loop-t l =
    run_of (whole_of l.m l.block l.table) (drop l.t-index l.schedule)
    ≡ run_of (whole_of l.initial.m l.initial.block l.initial.table) l.schedule
