use Rattle.std.proofs.Common.{◌≡◌}
use Rattle.runfile.specs.Rows.{sum_to}
use Rattle.runfile.specs.Layout.{count_of}
use Rattle.listing.proofs.print_operations.Given as goal

-- the operations of the threads before are printed
abbrev pub invariant-loop-thread : goal.invariant-loop-thread
invariant-loop-thread g l = l.first ≡ sum_to (count_of l.layout.counts) l.thread
