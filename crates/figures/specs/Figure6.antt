-- Figure 6, the methods of a snapshot, one access each: forward, add, computeSize.
use Rattle.std.specs.Prelude.{ℕ, ◌+◌, ◌-◌, ◌%◌, ◌^◌, Bool, cond, ◌||◌, List, [], ◌∷◌, eqb, ltb}
use Rattle.terms.specs.declared.ThreadId.{ThreadId}
use Rattle.terms.specs.declared.SnapshotId.{SnapshotId}
use Rattle.terms.specs.declared.Target.{Target}
use Rattle.figures.specs.declared.Kind.{Kind}
use Rattle.figures.specs.declared.Kind.TheVariants.{Insertion, Deletion}
use Rattle.figures.specs.declared.Cell.{Cell}
use Rattle.figures.specs.declared.Counts.{Counts}
use Rattle.figures.specs.declared.Sight.{Sight}
use Rattle.figures.specs.declared.UpdatePoint.{UpdatePoint}
use Rattle.figures.specs.declared.UpdatePoint.TheVariants.{Forward}
use Rattle.figures.specs.declared.UpdateDeed.TheVariants.{Reads, Forwards}
use Rattle.figures.specs.declared.UpdateNext.TheVariants.{Then, Done}
use Rattle.figures.specs.declared.UpdateMove.{UpdateMove}
use Rattle.figures.specs.declared.SizePoint.{SizePoint}
use Rattle.figures.specs.declared.SizePoint.TheVariants.{CollectCount, CollectSet, LowerFlag, SumCell, FixSize}
use Rattle.figures.specs.declared.SizeDeed.TheVariants.{Looks, Collects, Keeps, Fixes, Shares}
use Rattle.figures.specs.declared.SizeNext.TheVariants.{Goes, Sized}
use Rattle.figures.specs.declared.SizeMove.{SizeMove}
use Rattle.figures.specs.Limits.{invalid}
use Rattle.figures.specs.Figure4.{more_byte, count_of}

-- an access that changes nothing: on to the next, or the end of the update. It reports `raised`: whether this call raised the counter
abbrev pub on_to : UpdatePoint → UpdateMove
on_to p = record { next = Then p; deed = Reads }

abbrev pub done : Bool → UpdateMove
done raised = record { next = Done raised; deed = Reads }

-- lines 97 and 98: while the cell is INVALID or below the target, exchange the known value
abbrev pub behind : ℕ → Target → Bool
behind v c = eqb v invalid || ltb v c.0

abbrev pub forward_from : Bool → SnapshotId → Target → ℕ → UpdateMove
forward_from raised n c v = cond (behind v c) (on_to (Forward raised n v)) (done raised)

-- line 96: read the cell
abbrev pub read_cell : Bool → SnapshotId → Target → Sight → UpdateMove
read_cell raised n c s = forward_from raised n c s.cell

-- line 99: exchange the known value for the target, ending on success and otherwise taking the witnessed value
abbrev pub forward : Bool → SnapshotId → ℕ → Target → Sight → UpdateMove
forward raised n known c s =
    cond (eqb s.cell known) (record { next = Done raised; deed = Forwards n }) (forward_from raised n c s.cell)

-- the cells in order: for each thread, insertion then deletion
abbrev pub first_cell : Cell
first_cell = record { thread = record { 0 = 0 }; kind = Insertion }

abbrev pub cell_after : ThreadId → Kind → Cell
cell_after i Insertion = record { thread = i; kind = Deletion }
cell_after i Deletion = record { thread = record { 0 = more_byte i.0 }; kind = Insertion }

abbrev pub next_cell : Cell → Cell
next_cell j = cell_after j.thread j.kind

-- on to the next cell of the threads there are, or to what follows the last
abbrev pub each_cell : ℕ → Cell → (Cell → SizePoint) → SizePoint → SizePoint
each_cell threads j again after = cond (ltb (next_cell j).thread.0 threads) (again (next_cell j)) after

abbrev pub go_to : SizePoint → SizeMove
go_to p = record { next = Goes p; deed = Looks }

abbrev pub collect_next : ℕ → SnapshotId → Cell → SizePoint
collect_next threads n j = each_cell threads j (CollectCount n) (LowerFlag n)

-- line 93: read the cell
abbrev pub collect_cell : ℕ → SnapshotId → Cell → ℕ → Sight → SizeMove
collect_cell threads n j v s = go_to (cond (eqb s.cell invalid) (CollectSet n j v) (collect_next threads n j))

-- line 94: exchange INVALID for the value read
abbrev pub collect_set : ℕ → SnapshotId → Cell → ℕ → Sight → SizeMove
collect_set threads n j v s =
    record { next = Goes (collect_next threads n j); deed = cond (eqb s.cell invalid) (Collects n j v) Looks }

-- line 107: read a cell for the sum
abbrev pub sum_cell : ℕ → SnapshotId → Cell → Sight → SizeMove
sum_cell threads n j s =
    record { next = Goes (each_cell threads j (SumCell n) (FixSize n)); deed = Keeps j s.cell }

-- the sum of insertions less deletions (no run has it below 0, or past what a cell can hold)
abbrev pub sum_of : Kind → List Counts → ℕ
sum_of k [] = 0
sum_of k (c ∷ b) = count_of k c + sum_of k b

abbrev pub total_of : List Counts → ℕ
total_of b = (sum_of Insertion b - sum_of Deletion b) % 2 ^ 32

-- line 109: exchange INVALID for the sum; on failure return the witnessed size
abbrev pub fix_size : SnapshotId → List Counts → Sight → SizeMove
fix_size n seen s =
    let total = total_of seen in
    cond (eqb s.size invalid) (record { next = Sized total; deed = Fixes n total })
    (record { next = Sized s.size; deed = Shares n })
