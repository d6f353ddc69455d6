use Rattle.std.proofs.Common.{◌*◌, ◌≡◌, drop}
use Rattle.std.proofs.lemmas.List.Edits.{sets}
use Rattle.play.specs.Run.{per_operation, fives_of}
use Rattle.play.proofs.write_results.Given as goal

-- the numbers written so far, with those of the other records, are all
abbrev pub invariant-loop-i : goal.invariant-loop-i
invariant-loop-i l = sets l.results (per_operation * l.i) (fives_of (drop l.i l.records)) ≡ sets l.initial.results 0 (fives_of l.records)
