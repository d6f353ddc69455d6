use Rattle.std.proofs.Common.{drop, ◌≡◌, ◌+◌}
use Rattle.std.proofs.lemmas.List.Edits.{sets}
use Rattle.runfile.proofs.put.Given as goal

-- the bytes left, stored from here on, give what all of them give
abbrev pub invariant-loop-i : goal.invariant-loop-i
invariant-loop-i l = sets l.out (l.at + l.i) (drop l.i l.bytes) ≡ sets l.fn.out l.at l.bytes
