-- What an access asks of the counters and of the table of snapshots, told before anything is read; and such a request, made over a block
-- of counters and a table of any length: the number that is heard, and what stands there afterwards. A record beyond the table's end
-- reads as zeros, and an exchange there changes nothing. That an access decides by the number heard alone, and that its deed changes no
-- more than its request, is proved in the crate `machine`.
use Rattle.std.specs.Prelude.{ℕ, true, cond, not, List, ◌==◌, slice_index_or, slice_set}
use Rattle.terms.specs.declared.ThreadId.{ThreadId}
use Rattle.terms.specs.declared.SnapshotId.{SnapshotId}
use Rattle.terms.specs.declared.Target.{Target}
use Rattle.figures.specs.declared.Cell.{Cell}
use Rattle.figures.specs.declared.Counts.{Counts}
use Rattle.figures.specs.declared.Snapshot.{Snapshot}
use Rattle.figures.specs.declared.Trace.{Trace}
use Rattle.figures.specs.declared.Sight.{Sight}
use Rattle.figures.specs.declared.UpdatePoint.{UpdatePoint}
use Rattle.figures.specs.declared.UpdatePoint.TheVariants.{ReadCount, RaiseCount, ReadCurrent, ReadFlag, ReadAgain, ReadCell, Forward}
use Rattle.figures.specs.declared.SizePoint.{SizePoint}
use Rattle.figures.specs.declared.SizePoint.TheVariants.{FindCurrent, FindFlag, Announce, CollectCount, CollectCell, CollectSet, LowerFlag, SumCell, FixSize}
use Rattle.figures.specs.Limits.{invalid}
use Rattle.figures.specs.Figure4.{both, count_of, count_at, new_id, no_trace}
use Rattle.figures.specs.Figure5.{none}
use Rattle.figures.specs.Figure6.{total_of}
use Rattle.calculator.specs.declared.exchange.Exchange.{Exchange}
use Rattle.calculator.specs.declared.exchange.Exchange.TheVariants.{OfCell, OfFlag, OfSize, Anew}
use Rattle.calculator.specs.declared.request.Request.{Request}
use Rattle.calculator.specs.declared.request.Request.TheVariants.{Nothing, Count, Raise, Flag, Value, Exchanges}
use Rattle.calculator.specs.Exchanges.{absent, raised_pair, raised_in, witnessed_of, exchanged_of, traced_of, current_of}

abbrev pub record_in : List Snapshot → SnapshotId → Snapshot
record_in t n = slice_index_or t n.0 absent

abbrev pub exchanged_in : List Snapshot → SnapshotId → Exchange → List Snapshot
exchanged_in t n x = slice_set t n.0 (exchanged_of x (record_in t n))

-- ---- What an access asks: of updateMetadata for cell j and target c, and of compute.

abbrev pub update_request : UpdatePoint → Cell → Target → Request
update_request ReadCount j c = Count j
update_request RaiseCount j c = Raise j c
update_request (ReadCurrent raised) j c = Nothing
update_request (ReadFlag raised n) j c = Flag n
update_request (ReadAgain raised n) j c = Count j
update_request (ReadCell raised n) j c = Value n j
update_request (Forward raised n known) j c = Exchanges n (OfCell j known c.0)

-- by a thread that has read the values `seen` for its sum; an announcement exchanges nothing where another snapshot is current
abbrev pub size_request : SizePoint → SnapshotId → List Counts → Request
size_request FindCurrent current seen = Nothing
size_request (FindFlag n) current seen = Flag n
size_request (Announce n) current seen = cond (current.0 == n.0) (Exchanges (new_id current) (Anew true)) Nothing
size_request (CollectCount n j) current seen = Count j
size_request (CollectCell n j v) current seen = Value n j
size_request (CollectSet n j v) current seen = Exchanges n (OfCell j invalid v)
size_request (LowerFlag n) current seen = Exchanges n OfFlag
size_request (SumCell n j) current seen = Value n j
size_request (FixSize n) current seen = Exchanges n (OfSize (total_of seen))

-- what an access sees that heard this number of what it asked for: a count, a cell, a size, or a flag as 1 or 0
abbrev pub sight_by : ℕ → SnapshotId → Sight
sight_by heard current =
    record { count = heard; current = current; collecting = not (heard == 0); cell = heard; size = heard }

-- ---- A request: whose counters and which record it names, and the number that is heard of them.

abbrev pub counter_of : Request → ThreadId
counter_of Nothing = record { 0 = 0 }
counter_of (Count j) = j.thread
counter_of (Raise j c) = j.thread
counter_of (Flag n) = record { 0 = 0 }
counter_of (Value n j) = record { 0 = 0 }
counter_of (Exchanges n x) = record { 0 = 0 }

abbrev pub record_of : Request → SnapshotId
record_of Nothing = none
record_of (Count j) = none
record_of (Raise j c) = none
record_of (Flag n) = n
record_of (Value n j) = n
record_of (Exchanges n x) = n

abbrev pub heard_of : Request → Counts → Snapshot → ℕ
heard_of Nothing p s = 0
heard_of (Count j) p s = count_of j.kind p
heard_of (Raise j c) p s = count_of j.kind p
heard_of (Flag n) p s = cond s.collecting 1 0
heard_of (Value n j) p s = count_at s.cells j
heard_of (Exchanges n x) p s = witnessed_of x s

abbrev pub heard : Request → List Counts → List Snapshot → ℕ
heard x b t = heard_of x (slice_index_or b (counter_of x).0 (both 0)) (record_in t (record_of x))

-- ---- What stands there afterwards: these counters, this record, its trace after a step at which the number was heard, by a thread that
-- has read the values `seen` for its sum.

abbrev pub pair_by : Request → Counts → Counts
pair_by Nothing p = p
pair_by (Count j) p = p
pair_by (Raise j c) p = raised_pair j.kind c p
pair_by (Flag n) p = p
pair_by (Value n j) p = p
pair_by (Exchanges n x) p = p

abbrev pub record_by : Request → Snapshot → Snapshot
record_by Nothing s = s
record_by (Count j) s = s
record_by (Raise j c) s = s
record_by (Flag n) s = s
record_by (Value n j) s = s
record_by (Exchanges n x) s = exchanged_of x s

abbrev pub trace_by : Request → ℕ → ℕ → List Counts → Trace → Trace
trace_by Nothing w step seen r = r
trace_by (Count j) w step seen r = r
trace_by (Raise j c) w step seen r = r
trace_by (Flag n) w step seen r = r
trace_by (Value n j) w step seen r = r
trace_by (Exchanges n x) w step seen r = traced_of x w step seen r

-- which snapshot is current afterwards
abbrev pub current_by : Request → SnapshotId → SnapshotId
current_by Nothing n = n
current_by (Count j) n = n
current_by (Raise j c) n = n
current_by (Flag m) n = n
current_by (Value m j) n = n
current_by (Exchanges m x) n = current_of x n

-- all traces
abbrev pub traces_by : Request → ℕ → ℕ → List Counts → List Trace → List Trace
traces_by x w step seen ts = slice_set ts (record_of x).0 (trace_by x w step seen (slice_index_or ts (record_of x).0 no_trace))

-- all counters
abbrev pub counters_by : Request → List Counts → List Counts
counters_by Nothing b = b
counters_by (Count j) b = b
counters_by (Raise j c) b = raised_in b j c
counters_by (Flag n) b = b
counters_by (Value n j) b = b
counters_by (Exchanges n x) b = b

-- the table
abbrev pub table_by : Request → List Snapshot → List Snapshot
table_by Nothing t = t
table_by (Count j) t = t
table_by (Raise j c) t = t
table_by (Flag n) t = t
table_by (Value n j) t = t
table_by (Exchanges n x) t = exchanged_in t n x
