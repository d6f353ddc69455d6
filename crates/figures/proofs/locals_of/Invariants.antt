use Rattle.std.proofs.Common.{◌≡◌, ◌*◌, ◌≤◌, ◌++◌, length, take, drop}
use Rattle.figures.specs.Start.{locals_of}
use Rattle.figures.proofs.locals_of.Given as goal

-- the threads made so far, and those that the definition gives for the counts left, are those that it gives for all
abbrev pub invariant-loop-t : goal.invariant-loop-t
invariant-loop-t l = record {
  small : l.first ≤ l.t * 65535;
  long : length l.locals ≡ 8;
  same : take l.t l.locals ++ locals_of l.first (drop l.t l.fn.counts) ≡ locals_of 0 l.fn.counts;
}
