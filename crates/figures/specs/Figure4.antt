-- Figure 4, the calculator's fields: what an access reads of them, and what a write leaves.
use Rattle.std.specs.Prelude.{ℕ, ◌+◌, ◌%◌, ◌^◌, Bool, true, false, cond, List, [], get_or, set, replicate, eqb}
use Rattle.terms.specs.declared.SnapshotId.{SnapshotId}
use Rattle.figures.specs.declared.Kind.{Kind}
use Rattle.figures.specs.declared.Kind.TheVariants.{Insertion, Deletion}
use Rattle.figures.specs.declared.Cell.{Cell}
use Rattle.figures.specs.declared.Counts.{Counts}
use Rattle.figures.specs.declared.Snapshot.{Snapshot}
use Rattle.figures.specs.declared.Trace.{Trace}
use Rattle.figures.specs.declared.Calculator.{Calculator}
use Rattle.figures.specs.declared.Sight.{Sight}
use Rattle.figures.specs.Limits.{most_threads, invalid}

-- one more, of a number with 32 or with 8 bits (no run comes to where they wrap)
abbrev pub more : ℕ → ℕ
more x = (x + 1) % 2 ^ 32

abbrev pub more_byte : ℕ → ℕ
more_byte x = (x + 1) % 2 ^ 8

-- the number of one kind, and the pair with another number of that kind
abbrev pub count_of : Kind → Counts → ℕ
count_of Insertion c = c.insertions
count_of Deletion c = c.deletions

abbrev pub with_count : Kind → ℕ → Counts → Counts
with_count Insertion n c = record { insertions = n; deletions = c.deletions }
with_count Deletion n c = record { insertions = c.insertions; deletions = n }

abbrev pub both : ℕ → Counts
both n = record { insertions = n; deletions = n }

-- a block has a pair for each thread: the counters, a snapshot's cells, the values that a thread has read for its sum
abbrev pub count_at : List Counts → Cell → ℕ
count_at b j = count_of j.kind (get_or b j.thread.0 (both 0))

abbrev pub set_count : List Counts → Cell → ℕ → List Counts
set_count b j n = set b j.thread.0 (with_count j.kind n (get_or b j.thread.0 (both 0)))

abbrev pub block_of : ℕ → List Counts
block_of n = replicate most_threads (both n)

-- figure 6, line 87: a new snapshot; figure 5, lines 55 and 56: record 0, which is not collecting
abbrev pub fresh_snapshot : Bool → Snapshot
fresh_snapshot collecting = record { cells = block_of invalid; collecting = collecting; size = invalid }

abbrev pub fresh_trace : ℕ → Trace
fresh_trace step = record { announced = step; closed = 0; fixed = 0; seen = block_of 0 }

abbrev pub no_snapshot : Snapshot
no_snapshot = record { cells = []; collecting = false; size = 0 }

abbrev pub no_trace : Trace
no_trace = record { announced = 0; closed = 0; fixed = 0; seen = [] }

abbrev pub snapshot_at : Calculator → SnapshotId → Snapshot
snapshot_at c n = get_or c.snapshots n.0 no_snapshot

abbrev pub trace_at : Calculator → SnapshotId → Trace
trace_at c n = get_or c.traces n.0 no_trace

-- what an access can see that looks at cell j and at snapshot n
abbrev pub sight_of : Calculator → SnapshotId → Cell → Sight
sight_of c n j =
    let s = snapshot_at c n in
    record {
      count = count_at c.counters j;
      current = c.current;
      collecting = s.collecting;
      cell = count_at s.cells j;
      size = s.size;
    }

-- the snapshot that is announced and not closed, 0 if there is none
abbrev pub window_of : Calculator → SnapshotId
window_of c = cond (eqb (trace_at c c.current).closed 0) c.current (record { 0 = 0 })

abbrev pub with_snapshot : SnapshotId → Snapshot → Calculator → Calculator
with_snapshot n s c =
    record {
      counters = c.counters;
      current = c.current;
      snapshots = set c.snapshots n.0 s;
      traces = c.traces;
    }

abbrev pub with_trace : SnapshotId → Trace → Calculator → Calculator
with_trace n t c =
    record {
      counters = c.counters;
      current = c.current;
      snapshots = c.snapshots;
      traces = set c.traces n.0 t;
    }

-- the counter of j is n now
abbrev pub raised : Cell → ℕ → Calculator → Calculator
raised j n c =
    record {
      counters = set_count c.counters j n;
      current = c.current;
      snapshots = c.snapshots;
      traces = c.traces;
    }

-- the cell j of snapshot n is v now
abbrev pub written : SnapshotId → Cell → ℕ → Calculator → Calculator
written n j v c =
    let s = snapshot_at c n in
    with_snapshot n (record { cells = set_count s.cells j v; collecting = s.collecting; size = s.size }) c

-- the snapshot's number when it is announced
abbrev pub new_id : SnapshotId → SnapshotId
new_id n = record { 0 = more_byte n.0 }

-- a new collecting snapshot is current now
abbrev pub announced : ℕ → Calculator → Calculator
announced step c =
    let n = new_id c.current in
    record {
      counters = c.counters;
      current = n;
      snapshots = set c.snapshots n.0 (fresh_snapshot true);
      traces = set c.traces n.0 (fresh_trace step);
    }

-- the flag of snapshot n is false now; the first time, that is its closing
abbrev pub lowered : SnapshotId → ℕ → Calculator → Calculator
lowered n step c =
    let s = snapshot_at c n in
    let t = trace_at c n in
    with_trace n (record { announced = t.announced; closed = cond s.collecting step t.closed; fixed = t.fixed; seen = t.seen })
    (with_snapshot n (record { cells = s.cells; collecting = false; size = s.size }) c)

-- the size of snapshot n is v now, the sum of what its winner has seen; that is its fixing
abbrev pub fixed : SnapshotId → ℕ → ℕ → List Counts → Calculator → Calculator
fixed n v step seen c =
    let s = snapshot_at c n in
    let t = trace_at c n in
    with_trace n (record { announced = t.announced; closed = t.closed; fixed = step; seen = seen })
    (with_snapshot n (record { cells = s.cells; collecting = s.collecting; size = v }) c)
