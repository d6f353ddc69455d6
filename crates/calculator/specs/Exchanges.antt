-- An exchange in a snapshot's record, or in the block of counters: what is there afterwards, the value that is found, and what history
-- keeps of it.
use Rattle.std.specs.Prelude.{ℕ, ◌-◌, false, cond, List, ◌==◌, slice_index_or, slice_set}
use Rattle.terms.specs.declared.SnapshotId.{SnapshotId}
use Rattle.terms.specs.declared.Target.{Target}
use Rattle.figures.specs.declared.Kind.{Kind}
use Rattle.figures.specs.declared.Cell.{Cell}
use Rattle.figures.specs.declared.Counts.{Counts}
use Rattle.figures.specs.declared.Snapshot.{Snapshot}
use Rattle.figures.specs.declared.Trace.{Trace}
use Rattle.figures.specs.Limits.{invalid}
use Rattle.figures.specs.Figure4.{both, block_of, count_of, with_count, count_at, set_count, fresh_snapshot, fresh_trace, new_id}
use Rattle.figures.specs.Figure5.{none}
use Rattle.calculator.specs.declared.exchange.Exchange.{Exchange}
use Rattle.calculator.specs.declared.exchange.Exchange.TheVariants.{Nothing, OfCell, OfFlag, OfSize, Anew}

-- ---- A record that is not there, and the snapshot that is being collected.

-- a record beyond the end of the table
abbrev pub absent : Snapshot
absent = record { cells = block_of 0; collecting = false; size = 0 }

-- the current snapshot, closed at this step (0: not yet), if it is being collected, and else 0
abbrev pub window_in : SnapshotId → ℕ → SnapshotId
window_in current closed = cond (closed == 0) current none

-- ---- The counters: exchange c−1 for c.

abbrev pub raised_pair : Kind → Target → Counts → Counts
raised_pair k c p = cond (count_of k p == c.0 - 1) (with_count k c.0 p) p

abbrev pub raised_in : List Counts → Cell → Target → List Counts
raised_in b j c = slice_set b j.thread.0 (raised_pair j.kind c (slice_index_or b j.thread.0 (both 0)))

-- ---- A snapshot's record after an exchange, and the value witnessed.

abbrev pub exchanged_of : Exchange → Snapshot → Snapshot
exchanged_of Nothing s = s
exchanged_of (OfCell j known v) s =
    cond (count_at s.cells j == known)
    (record { cells = set_count s.cells j v; collecting = s.collecting; size = s.size }) s
exchanged_of OfFlag s = record { cells = s.cells; collecting = false; size = s.size }
exchanged_of (OfSize v) s =
    cond (s.size == invalid) (record { cells = s.cells; collecting = s.collecting; size = v }) s
exchanged_of (Anew collecting) s = fresh_snapshot collecting

abbrev pub witnessed_of : Exchange → Snapshot → ℕ
witnessed_of Nothing s = 0
witnessed_of (OfCell j known v) s = count_at s.cells j
witnessed_of OfFlag s = cond s.collecting 1 0
witnessed_of (OfSize v) s = s.size
witnessed_of (Anew collecting) s = 0

-- what the log needs of it: the steps of its announcement, of its closing and of its fixing, and what its winner has seen. The first
-- writing finds the flag raised and closes the snapshot; who finds the size INVALID fixes it
abbrev pub traced_of : Exchange → ℕ → ℕ → List Counts → Trace → Trace
traced_of Nothing heard step seen t = t
traced_of (OfCell j known v) heard step seen t = t
traced_of OfFlag heard step seen t =
    record { announced = t.announced; closed = cond (heard == 0) t.closed step; fixed = t.fixed; seen = t.seen }
traced_of (OfSize v) heard step seen t =
    cond (heard == invalid) (record { announced = t.announced; closed = t.closed; fixed = step; seen = seen }) t
traced_of (Anew collecting) heard step seen t = fresh_trace step

-- which snapshot is current afterwards
abbrev pub current_of : Exchange → SnapshotId → SnapshotId
current_of Nothing n = n
current_of (OfCell j known v) n = n
current_of OfFlag n = n
current_of (OfSize v) n = n
current_of (Anew collecting) n = new_id n
