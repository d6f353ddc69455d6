-- Every number of a state is one that there is: threads, keys, operations, snapshots, steps, targets, sums and answers. So no number
-- comes to a limit of its type, and no definition comes to the case that only makes it total.
use Rattle.std.specs.Prelude.{ℕ, ◌+◌, ◌-◌, ◌≤◌, ◌<◌, ◌≡◌, ◌≢◌, List}
use Rattle.terms.specs.declared.ThreadId.{ThreadId}
use Rattle.terms.specs.declared.OpId.{OpId}
use Rattle.terms.specs.declared.SnapshotId.{SnapshotId}
use Rattle.figures.specs.declared.Kind.TheVariants.{Insertion, Deletion}
use Rattle.figures.specs.declared.Cell.{Cell}
use Rattle.figures.specs.declared.Counts.{Counts}
use Rattle.figures.specs.declared.Snapshot.{Snapshot}
use Rattle.figures.specs.declared.Trace.{Trace}
use Rattle.figures.specs.declared.Calculator.{Calculator}
use Rattle.figures.specs.declared.UpdatePoint.{UpdatePoint}
use Rattle.figures.specs.declared.UpdatePoint.TheVariants.{ReadCount, RaiseCount, ReadCurrent, ReadFlag, ReadAgain, ReadCell, Forward}
use Rattle.figures.specs.declared.SizePoint.{SizePoint}
use Rattle.figures.specs.declared.SizePoint.TheVariants.{FindCurrent, FindFlag, Announce, CollectCount, CollectCell, CollectSet, LowerFlag, SumCell, FixSize}
use Rattle.figures.specs.declared.Node.{Node}
use Rattle.figures.specs.declared.Content.{Content}
use Rattle.figures.specs.declared.Content.TheVariants.{Empty, Live, Marked}
use Rattle.figures.specs.declared.Update.{Update}
use Rattle.figures.specs.declared.After.{After}
use Rattle.figures.specs.declared.After.TheVariants.{Answer, ToMark, ToHelpUnlink, ToUnlink}
use Rattle.figures.specs.declared.Point.{Point}
use Rattle.figures.specs.declared.Point.TheVariants.{Idle, ReadSlot, Updating, CountInsertions, Link, HelpUnlink, CountDeletions, Mark, Unlink, Sizing}
use Rattle.figures.specs.declared.Outcome.{Outcome}
use Rattle.figures.specs.declared.Look.{Look}
use Rattle.figures.specs.declared.Change.{Change}
use Rattle.figures.specs.declared.Record.{Record}
use Rattle.figures.specs.declared.Machine.{Machine}
use Rattle.figures.specs.Limits.{most_threads, most_keys, most_operations, most_steps, invalid}
use Rattle.figures.specs.Figure4.{more, more_byte, count_at, snapshot_at, trace_at}
use Rattle.figures.specs.Figure6.{sum_of, total_of}
use Rattle.figures.specs.Figure5.{size_cell}
use Rattle.figures.specs.Step.{content_at, local_at, record_at}

-- how many threads, keys and operations there are, how many steps were taken, and the current snapshot
pub record Bounds : Type 0 where
  pub threads : ℕ
  pub keys : ℕ
  pub operations : ℕ
  pub clock : ℕ
  pub current : ℕ

abbrev pub bounds_of : ℕ → Machine → Bounds
bounds_of operations m =
    record { threads = m.threads; keys = m.keys; operations = operations; clock = m.clock; current = m.calculator.current.0 }

-- a cell, a size or an answer: INVALID, or at most so many
abbrev pub InvalidOr : ℕ → ℕ → Type 0
InvalidOr most v = v ≢ invalid → v ≤ most

-- a target is the counter's value at an earlier step, plus 1
pub record TargetIn (b : Bounds) (target : ℕ) : Type 0 where
  pub some : 1 ≤ target
  pub most : target ≤ b.clock

pub record NodeIn (b : Bounds) (x : Node) : Type 0 where
  pub thread : x.note.0.0 < b.threads
  pub target : TargetIn b x.note.1.0
  pub operation : x.op.0 < b.operations

abbrev pub ContentIn : Bounds → Content → Type 0
ContentIn b Empty = Unit {0}
ContentIn b (Live n) = NodeIn b n
ContentIn b (Marked n d) = NodeIn b n × NodeIn b d

abbrev pub SnapshotIdIn : Bounds → SnapshotId → Type 0
SnapshotIdIn b n = n.0 ≤ b.current

abbrev pub CellIn : Bounds → Cell → Type 0
CellIn b j = j.thread.0 < b.threads

abbrev pub UpdatePointIn : Bounds → UpdatePoint → Type 0
UpdatePointIn b ReadCount = Unit {0}
UpdatePointIn b RaiseCount = Unit {0}
UpdatePointIn b (ReadCurrent raised) = Unit {0}
UpdatePointIn b (ReadFlag raised n) = SnapshotIdIn b n
UpdatePointIn b (ReadAgain raised n) = SnapshotIdIn b n
UpdatePointIn b (ReadCell raised n) = SnapshotIdIn b n
UpdatePointIn b (Forward raised n known) = SnapshotIdIn b n × InvalidOr b.clock known

abbrev pub SizePointIn : Bounds → SizePoint → Type 0
SizePointIn b FindCurrent = Unit {0}
SizePointIn b (FindFlag n) = SnapshotIdIn b n
SizePointIn b (Announce n) = SnapshotIdIn b n
SizePointIn b (CollectCount n j) = SnapshotIdIn b n × CellIn b j
SizePointIn b (CollectCell n j v) = SnapshotIdIn b n × CellIn b j × (v ≤ b.clock)
SizePointIn b (CollectSet n j v) = SnapshotIdIn b n × CellIn b j × (v ≤ b.clock)
SizePointIn b (LowerFlag n) = SnapshotIdIn b n
SizePointIn b (SumCell n j) = SnapshotIdIn b n × CellIn b j
SizePointIn b (FixSize n) = SnapshotIdIn b n

abbrev pub AfterIn : Bounds → After → Type 0
AfterIn b (Answer a) = a ≤ 1
AfterIn b (ToMark n) = NodeIn b n
AfterIn b (ToHelpUnlink n d) = NodeIn b n × NodeIn b d
AfterIn b (ToUnlink n d) = NodeIn b n × NodeIn b d

abbrev pub PointIn : Bounds → Point → Type 0
PointIn b Idle = Unit {0}
PointIn b ReadSlot = Unit {0}
PointIn b (Updating p u a) = UpdatePointIn b p × NodeIn b u.node × AfterIn b a
PointIn b CountInsertions = Unit {0}
PointIn b (Link c) = TargetIn b c.0
PointIn b (HelpUnlink n d) = NodeIn b n × NodeIn b d
PointIn b (CountDeletions n) = NodeIn b n
PointIn b (Mark n c) = NodeIn b n × TargetIn b c.0
PointIn b (Unlink n d) = NodeIn b n × NodeIn b d
PointIn b (Sizing p) = SizePointIn b p

-- an answer that was given is at most the number of keys; a raiser is a thread
pub record OutcomeIn (b : Bounds) (x : Outcome) : Type 0 where
  pub answer : InvalidOr b.keys x.answer
  pub given : 0 < x.last → x.answer ≤ b.keys
  pub raiser : x.raiser ≢ invalid → x.raiser < b.threads

-- what the log needs of an operation; the target is 0 before the slot exchange
pub record LookIn (b : Bounds) (x : Look) : Type 0 where
  pub read : x.read ≤ b.clock
  pub found : ContentIn b x.found

pub record ChangeIn (b : Bounds) (x : Change) : Type 0 where
  pub target : x.target.0 ≤ b.clock
  pub exchanged : x.exchanged ≤ b.clock
  pub raised : x.raised ≤ b.clock
  pub window : SnapshotIdIn b x.window

pub record RecordIn (b : Bounds) (r : Record) : Type 0 where
  pub outcome : OutcomeIn b r.outcome
  pub look : LookIn b r.look
  pub change : ChangeIn b r.change
  pub used : SnapshotIdIn b r.snapshot

-- values that were all read for one sum: the deletions do not exceed the insertions, which exceed them by the number of keys at most
pub record SumIn (b : Bounds) (seen : List Counts) : Type 0 where
  pub values : (j : Cell) → count_at seen j ≤ b.clock
  pub order : sum_of Deletion seen ≤ sum_of Insertion seen
  pub most : sum_of Insertion seen ≤ b.keys + sum_of Deletion seen

pub record SnapshotIn (b : Bounds) (s : Snapshot) : Type 0 where
  pub cells : (j : Cell) → InvalidOr b.clock (count_at s.cells j)
  pub size : InvalidOr b.keys s.size

-- what its winner read is a sum (before the fixing, all is 0)
pub record TraceIn (b : Bounds) (t : Trace) : Type 0 where
  pub announced : t.announced ≤ b.clock
  pub closed : t.closed ≤ b.clock
  pub fixed : t.fixed ≤ b.clock
  pub seen : SumIn b t.seen

pub record CalculatorIn (b : Bounds) (c : Calculator) : Type 0 where
  pub counters : (j : Cell) → count_at c.counters j ≤ b.clock
  pub snapshots : (n : SnapshotId) → SnapshotIn b (snapshot_at c n)
  pub traces : (n : SnapshotId) → TraceIn b (trace_at c n)
  -- a fixed snapshot was announced, and is not record 0
  pub fixed : (n : SnapshotId) → 0 < (trace_at c n).fixed → (1 ≤ n.0) × SnapshotIdIn b n

pub record MachineIn (b : Bounds) (m : Machine) : Type 0 where
  pub calculator : CalculatorIn b m.calculator
  pub contents : (k : ℕ) → ContentIn b (content_at m k)
  pub points : (t : ThreadId) → PointIn b (local_at m t).point
  pub kept : (t : ThreadId) (j : Cell) → count_at (local_at m t).seen j ≤ b.clock
  pub records : (o : OpId) → RecordIn b (record_at m o)

-- a state of a run with so many keys and operations
pub record Limited (keys operations : ℕ) (m : Machine) : Type 0 where
  pub threads : m.threads ≤ most_threads
  pub same_keys : m.keys ≡ keys
  pub at_most_keys : keys ≤ most_keys
  pub clock : m.clock ≤ most_steps
  pub idle : m.idle ≤ m.clock
  pub own : (o : OpId) → (record_at m o).outcome.own ≤ m.clock
  pub first : (o : OpId) → (record_at m o).outcome.first ≤ m.clock
  pub last : (o : OpId) → (record_at m o).outcome.last ≤ m.clock
  pub current : m.calculator.current.0 ≤ most_operations
  pub next : (t : ThreadId) → t.0 < most_threads → (local_at m t).op.0 ≤ most_operations
  pub end : (t : ThreadId) → t.0 < most_threads → (local_at m t).end.0 ≤ operations
  pub asked : (o : OpId) → o.0 < operations → ((record_at m o).asked.thread.0 < m.threads) × ((record_at m o).asked.key < keys)
  pub within : MachineIn (bounds_of operations m) m
  -- what a thread has read when it goes to fix a size is a sum, whether it comes to be the winner or not; a fixed size is its winner's
  pub sum : (t : ThreadId) (n : SnapshotId) → (local_at m t).point ≡ Sizing (FixSize n) → SumIn (bounds_of operations m) (local_at m t).seen
  pub fixed : (n : SnapshotId) → 0 < (trace_at m.calculator n).fixed
      → (snapshot_at m.calculator n).size ≡ total_of (trace_at m.calculator n).seen

-- so one more is one more, wherever a step counts, one less is one less, and a sum is the insertions less the deletions
pub record Unwrapped (m : Machine) : Type 0 where
  pub clock : more m.clock ≡ m.clock + 1
  pub idle : more m.idle ≡ m.idle + 1
  pub own : (o : OpId) → more (record_at m o).outcome.own ≡ (record_at m o).outcome.own + 1
  pub target : (j : Cell) → more (count_at m.calculator.counters j) ≡ count_at m.calculator.counters j + 1
  pub snapshot : more_byte m.calculator.current.0 ≡ m.calculator.current.0 + 1
  pub operation : (t : ThreadId) → t.0 < most_threads → more_byte (local_at m t).op.0 ≡ (local_at m t).op.0 + 1
  pub cell : (t : ThreadId) (p : SizePoint) → (local_at m t).point ≡ Sizing p → more_byte (size_cell p).thread.0 ≡ (size_cell p).thread.0 + 1
  pub before : (t : ThreadId) (p : UpdatePoint) (u : Update) (a : After) → (local_at m t).point ≡ Updating p u a
      → u.node.note.1.0 - 1 + 1 ≡ u.node.note.1.0
  pub sum : (t : ThreadId) (n : SnapshotId) → (local_at m t).point ≡ Sizing (FixSize n)
      → total_of (local_at m t).seen + sum_of Deletion (local_at m t).seen ≡ sum_of Insertion (local_at m t).seen

-- the sizes of a state of a run with so many keys
pub record Sums (keys : ℕ) (m : Machine) : Type 0 where
  -- the deletions that a winner read never exceed the insertions that it read, so the size that it fixed is just the difference
  pub order : (n : SnapshotId) → 0 < (trace_at m.calculator n).fixed
      → sum_of Deletion (trace_at m.calculator n).seen ≤ sum_of Insertion (trace_at m.calculator n).seen
  pub exact : (n : SnapshotId) → 0 < (trace_at m.calculator n).fixed
      → (snapshot_at m.calculator n).size + sum_of Deletion (trace_at m.calculator n).seen
      ≡ sum_of Insertion (trace_at m.calculator n).seen
  -- it read no value above its counter
  pub reads : (n : SnapshotId) → 0 < (trace_at m.calculator n).fixed
      → (j : Cell) → count_at (trace_at m.calculator n).seen j ≤ count_at m.calculator.counters j
  -- the size of a fixed snapshot, and each answer that was given, is at most the number of keys
  pub sizes : (n : SnapshotId) → 0 < (trace_at m.calculator n).fixed → (snapshot_at m.calculator n).size ≤ keys
  pub answers : (o : OpId) → 0 < (record_at m o).outcome.last → (record_at m o).outcome.answer ≤ keys
