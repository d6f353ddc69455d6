-- Figure 5, the methods of the calculator, one access each: updateMetadata and compute.
use Rattle.std.specs.Prelude.{ℕ, ◌-◌, Bool, false, cond, List, eqb}
use Rattle.terms.specs.declared.SnapshotId.{SnapshotId}
use Rattle.terms.specs.declared.Target.{Target}
use Rattle.figures.specs.declared.Cell.{Cell}
use Rattle.figures.specs.declared.Counts.{Counts}
use Rattle.figures.specs.declared.Sight.{Sight}
use Rattle.figures.specs.declared.UpdatePoint.{UpdatePoint}
use Rattle.figures.specs.declared.UpdatePoint.TheVariants.{ReadCount, RaiseCount, ReadCurrent, ReadFlag, ReadAgain, ReadCell, Forward}
use Rattle.figures.specs.declared.UpdateDeed.TheVariants.{Reads, Raises}
use Rattle.figures.specs.declared.UpdateNext.TheVariants.{Then}
use Rattle.figures.specs.declared.UpdateMove.{UpdateMove}
use Rattle.figures.specs.declared.SizePoint.{SizePoint}
use Rattle.figures.specs.declared.SizePoint.TheVariants.{FindCurrent, FindFlag, Announce, CollectCount, CollectCell, CollectSet, LowerFlag, SumCell, FixSize}
use Rattle.figures.specs.declared.SizeDeed.TheVariants.{Announces, Lowers}
use Rattle.figures.specs.declared.SizeNext.TheVariants.{Goes}
use Rattle.figures.specs.declared.SizeMove.{SizeMove}
use Rattle.figures.specs.Figure4.{new_id}
use Rattle.figures.specs.Figure6.{on_to, done, read_cell, forward, first_cell, go_to, collect_cell, collect_set, sum_cell, fix_size}

-- line 78: read the counter; if it is c−1, exchange
abbrev pub read_count : Target → Sight → UpdateMove
read_count c s = on_to (cond (eqb s.count (c.0 - 1)) RaiseCount (ReadCurrent false))

-- line 79: exchange c−1 for c; this call raised the counter if that succeeded
abbrev pub raise_count : Target → Sight → UpdateMove
raise_count c s =
    let raised = eqb s.count (c.0 - 1) in
    record { next = Then (ReadCurrent raised); deed = cond raised Raises Reads }

-- line 80: read which snapshot is current
abbrev pub read_current : Bool → Sight → UpdateMove
read_current raised s = on_to (ReadFlag raised s.current)

-- line 81: read its flag. If not collecting, done
abbrev pub read_flag : Bool → SnapshotId → Sight → UpdateMove
read_flag raised n s = cond s.collecting (on_to (ReadAgain raised n)) (done raised)

-- line 82: read the counter; unless it is c, done
abbrev pub read_again : Bool → SnapshotId → Target → Sight → UpdateMove
read_again raised n c s = cond (eqb s.count c.0) (on_to (ReadCell raised n)) (done raised)

-- lines 75 to 83: one access of updateMetadata for target c
abbrev pub update_at : UpdatePoint → Target → Sight → UpdateMove
update_at ReadCount c s = read_count c s
update_at RaiseCount c s = raise_count c s
update_at (ReadCurrent raised) c s = read_current raised s
update_at (ReadFlag raised n) c s = read_flag raised n s
update_at (ReadAgain raised n) c s = read_again raised n c s
update_at (ReadCell raised n) c s = read_cell raised n c s
update_at (Forward raised n known) c s = forward raised n known c s

-- line 63: read the current snapshot
abbrev pub find_current : Sight → SizeMove
find_current s = go_to (FindFlag s.current)

-- line 64: read its flag. If collecting, use it
abbrev pub find_flag : SnapshotId → Sight → SizeMove
find_flag n s = go_to (cond s.collecting (CollectCount n first_cell) (Announce n))

-- line 67: exchange it for a new collecting one; on failure use the witnessed one
abbrev pub announce : SnapshotId → Sight → SizeMove
announce n s =
    cond (eqb s.current.0 n.0)
    (record { next = Goes (CollectCount (new_id s.current) first_cell); deed = Announces })
    (go_to (CollectCount s.current first_cell))

-- line 74: read the counter
abbrev pub collect_count : SnapshotId → Cell → Sight → SizeMove
collect_count n j s = go_to (CollectCell n j s.count)

-- line 60: write the flag false
abbrev pub lower_flag : SnapshotId → SizeMove
lower_flag n = record { next = Goes (SumCell n first_cell); deed = Lowers n }

-- lines 57 to 74: one access of compute, with so many threads, by a thread that has read the values `seen` for its sum
abbrev pub size_at : SizePoint → ℕ → List Counts → Sight → SizeMove
size_at FindCurrent threads seen s = find_current s
size_at (FindFlag n) threads seen s = find_flag n s
size_at (Announce n) threads seen s = announce n s
size_at (CollectCount n j) threads seen s = collect_count n j s
size_at (CollectCell n j v) threads seen s = collect_cell threads n j v s
size_at (CollectSet n j v) threads seen s = collect_set threads n j v s
size_at (LowerFlag n) threads seen s = lower_flag n
size_at (SumCell n j) threads seen s = sum_cell threads n j s
size_at (FixSize n) threads seen s = fix_size n seen s

-- the snapshot that an access looks at
abbrev pub none : SnapshotId
none = record { 0 = 0 }

abbrev pub update_looks_at : UpdatePoint → SnapshotId
update_looks_at ReadCount = none
update_looks_at RaiseCount = none
update_looks_at (ReadCurrent raised) = none
update_looks_at (ReadFlag raised n) = n
update_looks_at (ReadAgain raised n) = n
update_looks_at (ReadCell raised n) = n
update_looks_at (Forward raised n known) = n

abbrev pub size_looks_at : SizePoint → SnapshotId
size_looks_at FindCurrent = none
size_looks_at (FindFlag n) = n
size_looks_at (Announce n) = n
size_looks_at (CollectCount n j) = n
size_looks_at (CollectCell n j v) = n
size_looks_at (CollectSet n j v) = n
size_looks_at (LowerFlag n) = n
size_looks_at (SumCell n j) = n
size_looks_at (FixSize n) = n

-- the cell that an access looks at
abbrev pub size_cell : SizePoint → Cell
size_cell FindCurrent = first_cell
size_cell (FindFlag n) = first_cell
size_cell (Announce n) = first_cell
size_cell (CollectCount n j) = j
size_cell (CollectCell n j v) = j
size_cell (CollectSet n j v) = j
size_cell (LowerFlag n) = first_cell
size_cell (SumCell n j) = j
size_cell (FixSize n) = first_cell
