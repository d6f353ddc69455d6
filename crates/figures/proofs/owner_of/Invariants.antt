use Rattle.std.proofs.Common.{◌≡◌, ◌+◌, drop}
use Rattle.figures.specs.Start.{owner_of}
use Rattle.figures.proofs.owner_of.Given as goal

-- the thread found from here on, with what is left of the number, is the thread found from the start
abbrev pub invariant-loop-thread : goal.invariant-loop-thread
invariant-loop-thread l = l.thread + owner_of (drop l.thread l.fn.counts) l.left ≡ owner_of l.fn.counts l.o
