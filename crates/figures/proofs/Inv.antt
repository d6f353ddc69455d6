-- What holds in every state of a run: the invariants, as records of facts. `x` is the latest step that anything so far was done at,
-- `T` the number of threads, `n` the number of operations.
use Prim.Native.Nat.{ℕ, zero, suc, ◌+◌, ◌-◌, ◌%◌, ◌^◌, ◌≤◌, ◌<◌}
use mathlib.Core.Path.{◌≡◌}
use mathlib.Core.Logic.{◌≢◌, ◌⊎◌}
use mathlib.Core.Bool.{Bool, true, false, ◌&&◌}
use lib.Dec.{eqb, ltb, leb}
use Rattle.history.specs.Tally.{tally}
use Rattle.figures.specs.declared.Kind.{Kind}
use Rattle.figures.specs.declared.Kind.TheVariants.{Insertion, Deletion}
use Rattle.figures.specs.declared.Content.{Content}
use Rattle.figures.specs.declared.Content.TheVariants.{Empty, Live, Marked}
use Rattle.figures.specs.declared.Call.{Call}
use Rattle.figures.specs.declared.Call.TheVariants.{Insert, Delete, Contains, Size}
use Rattle.figures.specs.declared.Node.{Node}
use Rattle.figures.specs.declared.Update.{Update}
use Rattle.figures.specs.declared.UpdatePoint.{UpdatePoint}
use Rattle.figures.specs.declared.UpdatePoint.TheVariants.{ReadCount, RaiseCount, ReadCurrent, ReadFlag, ReadAgain, ReadCell, Forward}
use Rattle.figures.specs.declared.SizePoint.{SizePoint}
use Rattle.figures.specs.declared.SizePoint.TheVariants.{FindCurrent, FindFlag, Announce, CollectCount, CollectCell, CollectSet, LowerFlag, SumCell, FixSize}
use Rattle.figures.specs.declared.After.{After}
use Rattle.figures.specs.declared.After.TheVariants.{Answer, ToMark, ToHelpUnlink, ToUnlink}
use Rattle.figures.specs.declared.Point.{Point}
use Rattle.figures.specs.declared.Point.TheVariants.{Idle, ReadSlot, Updating, CountInsertions, Link, HelpUnlink, CountDeletions, Mark, Unlink, Sizing}
use Rattle.figures.specs.Limits.{invalid}
use Rattle.figures.specs.Figure3.{insertion, deletion}
use Rattle.figures.proofs.World.{World, thr, key, call, cell_op, cell_no, no_of, call_for, kind_of, update_cell, update_target, update_op}

-- ---- Operations.

-- o, whose slot exchange succeeded
pub record Exchange (T n x : ℕ) (w : World) (o : ℕ) : Type 0 where
  pub inside : o < n
  pub thread : thr w o < T
  pub does : call w o ≡ call_for (kind_of (call w o))
  pub began : 0 < w.first o
  pub after : w.first o ≤ w.exch o
  pub past : w.exch o ≤ x
  pub aim : 0 < w.target o

-- o, which was raised
pub record Raising (x : ℕ) (w : World) (o : ℕ) : Type 0 where
  pub exchanged : 0 < w.exch o
  pub after : w.exch o < w.raised o
  pub past : w.raised o ≤ x

-- a step of an operation that has begun, and is not later than x
pub record Within (x first step : ℕ) : Type 0 where
  pub began : 0 < first
  pub after : first ≤ step
  pub past : step ≤ x

pub record Records (T n x : ℕ) (w : World) : Type 0 where
  pub firsts : (o : ℕ) → w.first o ≤ w.clock
  pub exchanges : (o : ℕ) → 0 < w.exch o → Exchange T n x w o
  pub raises : (o : ℕ) → 0 < w.raised o → Raising x w o
  pub reads : (o : ℕ) → 0 < w.read o → Within x (w.first o) (w.read o)
  pub ends : (o : ℕ) → 0 < w.last o → Within x (w.first o) (w.last o)

-- ---- Counters: an exchanged update is raised exactly when its target is at most its counter; one that is not raised is its
-- thread's current operation, with the counter's next target.

pub record Counters (w : World) : Type 0 where
  pub due : (u : ℕ) → 0 < w.exch u → w.raised u ≡ 0 → (w.op (thr w u) ≡ u) × (w.target u ≡ suc (w.count (cell_op w u)))
  pub done : (u : ℕ) → 0 < w.raised u → w.target u ≤ w.count (cell_op w u)
  pub own : (u : ℕ) → 0 < w.exch u → w.op (thr w u) ≡ u → w.count (cell_op w u) ≤ w.target u
  pub order : (u v : ℕ) → 0 < w.raised u → 0 < w.raised v → cell_op w u ≡ cell_op w v → w.target u ≤ w.target v → w.raised u ≤ w.raised v

-- ---- Snapshots.

-- v is a fair value of cell q for snapshot s: it has every update raised before the announcement, and none raised after the closing
pub record Fair (w : World) (s q v : ℕ) : Type 0 where
  pub low : v ≤ w.count q
  pub reach : (u : ℕ) → 0 < w.raised u → cell_op w u ≡ q → w.raised u < w.ann s → w.target u ≤ v
  pub early : (u : ℕ) → 0 < w.raised u → cell_op w u ≡ q → w.target u ≤ v → 0 < w.closed s → w.raised u < w.closed s

-- a value that was read for a sum, after the closing
pub record ReadFor (w : World) (s q v : ℕ) : Type 0 where
  pub fair : Fair w s q v
  pub since : w.held s q ≤ v

-- the sum of the first m threads' insertions, or deletions
unfoldable pub sum_by : Kind → (ℕ → ℕ) → ℕ → ℕ
sum_by k f zero = 0
sum_by k f (suc m) = f (cell_no m k) + sum_by k f m

abbrev pub total : (ℕ → ℕ) → ℕ
total f = (sum_by Insertion f 8 - sum_by Deletion f 8) % 2 ^ 32

pub record Fixed (T : ℕ) (w : World) (s : ℕ) : Type 0 where
  pub closed : 0 < w.closed s
  pub after : w.closed s < w.fixed s
  pub sum : w.size s ≡ total (w.seen s)
  pub reads : (q : ℕ) → q < T + T → ReadFor w s q (w.seen s q)
  pub rest : (q : ℕ) → T + T ≤ q → w.seen s q ≡ 0

-- an announced snapshot, record 0 not counted
pub record Known (w : World) (s : ℕ) : Type 0 where
  pub some : 0 < s
  pub there : s ≤ w.cur

pub record Snaps (T x : ℕ) (w : World) : Type 0 where
  pub none : w.flag 0 ≡ false
  pub none_closed : w.closed 0 ≡ 0
  pub future : (s : ℕ) → w.cur < s → w.closed s ≡ 0
  pub past : (s : ℕ) → s < w.cur → w.flag s ≡ false
  pub shut : (s : ℕ) → Known w s → w.flag s ≡ false → 0 < w.closed s
  pub open' : (s : ℕ) → Known w s → w.flag s ≡ true → w.closed s ≡ 0
  pub announced : (s : ℕ) → Known w s → (0 < w.ann s) × (w.ann s ≤ x)
  pub spans : (s : ℕ) → Known w s → 0 < w.closed s → (w.ann s < w.closed s) × (w.closed s ≤ x)
  pub apart : (s s' : ℕ) → Known w s → Known w s' → s < s' → w.closed s < w.ann s'
  pub whole : (s : ℕ) → Known w s → 0 < w.closed s → (q : ℕ) → q < T + T → w.cell s q ≢ invalid
  pub fair : (s : ℕ) → Known w s → (q : ℕ) → q < T + T → w.cell s q ≢ invalid → Fair w s q (w.cell s q)
  pub kept : (s : ℕ) → Known w s → 0 < w.closed s → (q : ℕ) → q < T + T → w.held s q ≤ w.cell s q
  -- a snapshot has a step of fixing, after its closing, exactly when its size is not INVALID
  pub fixed : (s : ℕ) → Known w s → w.size s ≢ invalid → Fixed T w s
  pub valid : (s : ℕ) → Known w s → 0 < w.fixed s → w.size s ≢ invalid
  pub dated : (s : ℕ) → Known w s → w.fixed s ≤ x

-- an update's window is the one snapshot that was announced and not closed at its raising, 0 if there was none
pub record InWindow (w : World) (u s : ℕ) : Type 0 where
  pub known : Known w s
  pub after : w.ann s ≤ w.raised u
  pub before : 0 < w.closed s → w.raised u < w.closed s

pub record Windows (w : World) : Type 0 where
  pub told : (u : ℕ) → 0 < w.raised u → 0 < w.window u → InWindow w u (w.window u)
  pub only : (u s : ℕ) → 0 < w.raised u → InWindow w u s → w.window u ≡ s

-- ---- Settled: u was raised before step y, and its window is none, or closed before y, or u's cell in it came to u's target while the
-- snapshot was open.

pub data Settles (w : World) (u y : ℕ) : Type 0 where
  alone : w.window u ≡ 0 → Settles w u y
  after : 0 < w.closed (w.window u) → w.closed (w.window u) < y → Settles w u y
  reached : w.closed (w.window u) ≡ 0 → w.cell (w.window u) (cell_op w u) ≢ invalid → w.target u ≤ w.cell (w.window u) (cell_op w u) → Settles w u y
  caught : 0 < w.closed (w.window u) → w.target u ≤ w.held (w.window u) (cell_op w u) → Settles w u y

pub record Settled (w : World) (u y : ℕ) : Type 0 where
  pub raised : 0 < w.raised u
  pub before : w.raised u < y
  pub how : Settles w u y

-- ---- Keys.

-- the node, or mark, d is of the update that its operation made, of kind k on this key
pub record Noted (w : World) (d : Node) (k : Kind) (on : ℕ) : Type 0 where
  pub exchanged : 0 < w.exch d.op.0
  pub does : call w d.op.0 ≡ call_for k
  pub on_key : key w d.op.0 ≡ on
  pub by_thread : thr w d.op.0 ≡ d.note.0.0
  pub aims : w.target d.op.0 ≡ d.note.1.0

-- o is the last that was exchanged on this key
abbrev pub Latest : World → ℕ → ℕ → Type 0
Latest w on o = (u : ℕ) → 0 < w.exch u → key w u ≡ on → u ≢ o → w.exch u < w.exch o

pub record HoldsLive (w : World) (on : ℕ) (d : Node) : Type 0 where
  pub noted : Noted w d Insertion on
  pub latest : Latest w on d.op.0

pub record HoldsMarked (w : World) (on : ℕ) (n d : Node) : Type 0 where
  pub under : Noted w n Insertion on
  pub noted : Noted w d Deletion on
  pub latest : Latest w on d.op.0

abbrev pub Holds : ℕ → World → ℕ → Content → Type 0
Holds x w on Empty = (u : ℕ) → 0 < w.exch u → key w u ≡ on → Settled w u (suc x)
Holds x w on (Live d) = HoldsLive w on d
Holds x w on (Marked n d) = HoldsMarked w on n d

pub record Keys (x : ℕ) (w : World) : Type 0 where
  pub pairs : (u v : ℕ) → 0 < w.exch u → 0 < w.exch v → key w u ≡ key w v → w.exch u < w.exch v → Settled w u (w.exch v)
  pub holds : (on : ℕ) → Holds x w on (w.content on)

-- ---- What the last slot read of an operation found.

pub record Found (w : World) (o : ℕ) (d : Node) (k : Kind) : Type 0 where
  pub noted : Noted w d k (key w o)
  pub before : w.exch d.op.0 < w.read o
  pub latest : (u : ℕ) → 0 < w.exch u → key w u ≡ key w o → w.exch u < w.read o → u ≢ d.op.0 → w.exch u < w.exch d.op.0

abbrev pub Finding : World → ℕ → Content → Type 0
Finding w o Empty = (u : ℕ) → 0 < w.exch u → key w u ≡ key w o → w.exch u < w.read o → Settled w u (w.read o)
Finding w o (Live d) = Found w o d Insertion
Finding w o (Marked n d) = Found w o d Deletion

abbrev pub Finders : World → Type 0
Finders w = (o : ℕ) → 0 < w.read o → Finding w o (w.found o)

-- ---- What a returned operation answered.

-- the answer that fits what was found, of an operation that changed nothing
abbrev pub Fits : Call → Content → ℕ → Type 0
Fits Insert Empty a = ⊥
Fits Insert (Live d) a = a ≡ 0
Fits Insert (Marked n d) a = ⊥
Fits Delete Empty a = a ≡ 0
Fits Delete (Live d) a = ⊥
Fits Delete (Marked n d) a = a ≡ 0
Fits Contains Empty a = a ≡ 0
Fits Contains (Live d) a = a ≡ 1
Fits Contains (Marked n d) a = a ≡ 0
Fits Size c a = ⊥

-- what was found is settled by the step y
abbrev pub FoundSettled : World → Content → ℕ → Type 0
FoundSettled w Empty y = Unit {0}
FoundSettled w (Live d) y = Settled w d.op.0 y
FoundSettled w (Marked n d) y = Settled w d.op.0 y

pub record Finder (w : World) (o : ℕ) : Type 0 where
  pub looked : 0 < w.read o
  pub in_time : w.read o ≤ w.last o
  pub fits : Fits (call w o) (w.found o) (w.answer o)
  pub settled : FoundSettled w (w.found o) (suc (w.last o))

pub record Changed (w : World) (o : ℕ) : Type 0 where
  pub answered : w.answer o ≡ 1
  pub settled : Settled w o (suc (w.last o))

pub record Sized (w : World) (o : ℕ) : Type 0 where
  pub known : Known w (w.used o)
  pub closed : 0 < w.closed (w.used o)
  pub after : w.first o ≤ w.closed (w.used o)
  pub before : w.closed (w.used o) ≤ w.last o
  pub fixed : w.size (w.used o) ≢ invalid
  pub answered : w.answer o ≡ w.size (w.used o)

pub record Returned (w : World) : Type 0 where
  pub changed : (o : ℕ) → 0 < w.last o → 0 < w.exch o → Changed w o
  pub finder : (o : ℕ) → 0 < w.last o → w.exch o ≡ 0 → call w o ≢ Size → Finder w o
  pub sized : (o : ℕ) → 0 < w.last o → call w o ≡ Size → Sized w o

-- ---- No two of these happen at one step.

pub data Event : Type 0 where
  exchanges raises reads closes : ℕ → Event

abbrev pub stamp : World → Event → ℕ
stamp w (exchanges o) = w.exch o
stamp w (raises o) = w.raised o
stamp w (reads o) = w.read o
stamp w (closes s) = w.closed s

abbrev pub Stamps : World → Type 0
Stamps w = (e e' : Event) → 0 < stamp w e → stamp w e ≡ stamp w e' → e ≡ e'

-- ---- What a thread knows where it stands. `o` is its operation.

-- inside an update of the metadata for u
pub record Raised (w : World) (u : Update) (s : ℕ) : Type 0 where
  pub raised : 0 < w.raised (update_op u)
  pub window : w.window (update_op u) ≤ s
  pub there : s ≤ w.cur

pub record Sighted (w : World) (u : Update) (s : ℕ) : Type 0 where
  pub raised : Raised w u s
  pub some : 0 < s
  pub early : 0 < w.closed s → w.raised (update_op u) < w.closed s

pub record Forwarding (w : World) (u : Update) (s : ℕ) : Type 0 where
  pub sighted : Sighted w u s
  pub reach : (v : ℕ) → 0 < w.raised v → cell_op w v ≡ update_cell u → w.raised v < w.ann s → w.target v ≤ update_target u

-- the known value is INVALID or below the target
abbrev pub Behind : Update → ℕ → Type 0
Behind u v = (v ≡ invalid) ⊎ (v < update_target u)

abbrev pub AtUpdate : World → Update → UpdatePoint → Type 0
AtUpdate w u ReadCount = Unit {0}
AtUpdate w u RaiseCount = Unit {0}
AtUpdate w u (ReadCurrent r) = 0 < w.raised (update_op u)
AtUpdate w u (ReadFlag r s) = Raised w u s.0
AtUpdate w u (ReadAgain r s) = Sighted w u s.0
AtUpdate w u (ReadCell r s) = Forwarding w u s.0
AtUpdate w u (Forward r s v) = Forwarding w u s.0 × Behind u v

-- u is what was found
abbrev pub IsFound : Content → Update → Type 0
IsFound Empty u = ⊥
IsFound (Live d) u = insertion d ≡ u
IsFound (Marked n d) u = deletion d ≡ u

-- what it will do after that fits u
pub record Helping (w : World) (o : ℕ) (u : Update) (a : ℕ) : Type 0 where
  pub fresh : w.exch o ≡ 0
  pub looked : 0 < w.read o
  pub is_found : IsFound (w.found o) u
  pub fits : Fits (call w o) (w.found o) a

pub record Owning (w : World) (o : ℕ) (u : Update) (a : ℕ) : Type 0 where
  pub own : update_op u ≡ o
  pub does : call w o ≡ Insert
  pub one : a ≡ 1

pub record Marking (w : World) (o : ℕ) (u : Update) (d : Node) : Type 0 where
  pub fresh : w.exch o ≡ 0
  pub does : call w o ≡ Delete
  pub same : insertion d ≡ u
  pub on_key : key w d.op.0 ≡ key w o

pub record Clearing (w : World) (o : ℕ) (u : Update) (d : Node) : Type 0 where
  pub fresh : w.exch o ≡ 0
  pub does : call w o ≡ Insert
  pub same : deletion d ≡ u
  pub on_key : key w d.op.0 ≡ key w o

pub record Unlinking (w : World) (o : ℕ) (u : Update) (d : Node) : Type 0 where
  pub does : call w o ≡ Delete
  pub same : deletion d ≡ u
  pub own : d.op.0 ≡ o

abbrev pub Afterwards : World → ℕ → Update → After → Type 0
Afterwards w o u (Answer a) = Owning w o u a ⊎ Helping w o u a
Afterwards w o u (ToMark d) = Marking w o u d
Afterwards w o u (ToHelpUnlink n d) = Clearing w o u d
Afterwards w o u (ToUnlink n d) = Unlinking w o u d

pub record AtUpdating (w : World) (o : ℕ) (p : UpdatePoint) (u : Update) (a : After) : Type 0 where
  pub noted : Noted w u.node u.kind (key w (update_op u))
  pub here : AtUpdate w u p
  pub then' : Afterwards w o u a

-- an insert that goes to link, or a delete that goes to mark d
pub record AtLink (w : World) (t o : ℕ) : Type 0 where
  pub fresh : w.exch o ≡ 0
  pub does : call w o ≡ Insert

pub record AtMark (x : ℕ) (w : World) (o : ℕ) (d : Node) : Type 0 where
  pub fresh : w.exch o ≡ 0
  pub does : call w o ≡ Delete
  pub noted : Noted w d Insertion (key w o)
  pub settled : Settled w d.op.0 (suc x)

-- to unlink the node with the mark d
pub record AtHelp (x : ℕ) (w : World) (o : ℕ) (d : Node) : Type 0 where
  pub fresh : w.exch o ≡ 0
  pub does : call w o ≡ Insert
  pub noted : Noted w d Deletion (key w o)
  pub settled : Settled w d.op.0 (suc x)

pub record AtUnlink (x : ℕ) (w : World) (o : ℕ) (d : Node) : Type 0 where
  pub own : d.op.0 ≡ o
  pub does : call w o ≡ Delete
  pub noted : Noted w d Deletion (key w o)
  pub settled : Settled w o (suc x)

-- a size that has read which snapshot is current: every later one was announced after it began
pub record Looking (w : World) (o s : ℕ) : Type 0 where
  pub there : s ≤ w.cur
  pub later : (s' : ℕ) → s < s' → s' ≤ w.cur → w.first o < w.ann s'

-- a size that uses snapshot s
pub record Using (w : World) (o s : ℕ) : Type 0 where
  pub known : Known w s
  pub began : 0 < w.closed s → w.first o ≤ w.closed s

pub record Collecting (T : ℕ) (w : World) (o s q : ℕ) : Type 0 where
  pub using' : Using w o s
  pub inside : q < T + T
  pub valid : (q' : ℕ) → q' < q → w.cell s q' ≢ invalid

pub record Carrying (T : ℕ) (w : World) (o s q v : ℕ) : Type 0 where
  pub collecting : Collecting T w o s q
  pub low : v ≤ w.count q
  pub reach : (u : ℕ) → 0 < w.raised u → cell_op w u ≡ q → w.raised u < w.ann s → w.target u ≤ v

pub record Lowering (T : ℕ) (w : World) (o s : ℕ) : Type 0 where
  pub using' : Using w o s
  pub valid : (q : ℕ) → q < T + T → w.cell s q ≢ invalid

pub record Summing (T : ℕ) (w : World) (t o s q : ℕ) : Type 0 where
  pub using' : Using w o s
  pub inside : q ≤ T + T
  pub closed : 0 < w.closed s
  pub reads : (q' : ℕ) → q' < q → ReadFor w s q' (w.mine t q')
  pub rest : (q' : ℕ) → q ≤ q' → w.mine t q' ≡ 0

abbrev pub AtSize : ℕ → World → ℕ → ℕ → SizePoint → Type 0
AtSize T w t o FindCurrent = Unit {0}
AtSize T w t o (FindFlag s) = Looking w o s.0
AtSize T w t o (Announce s) = Looking w o s.0 × (0 < s.0 → w.flag s.0 ≡ false)
AtSize T w t o (CollectCount s j) = Collecting T w o s.0 (no_of j)
AtSize T w t o (CollectCell s j v) = Carrying T w o s.0 (no_of j) v
AtSize T w t o (CollectSet s j v) = Carrying T w o s.0 (no_of j) v
AtSize T w t o (LowerFlag s) = Lowering T w o s.0
AtSize T w t o (SumCell s j) = (no_of j < T + T) × Summing T w t o s.0 (no_of j)
AtSize T w t o (FixSize s) = Summing T w t o s.0 (T + T)

-- whatever stands at a point of compute is a size; else it is not
abbrev pub Knows : ℕ → ℕ → World → ℕ → ℕ → Point → Type 0
Knows T x w t o Idle = Unit {0}
Knows T x w t o ReadSlot = (w.exch o ≡ 0) × (call w o ≢ Size)
Knows T x w t o (Updating p u a) = AtUpdating w o p u a
Knows T x w t o CountInsertions = AtLink w t o
Knows T x w t o (Link g) = AtLink w t o × (g.0 ≡ suc (w.count (cell_no t Insertion)))
Knows T x w t o (HelpUnlink n d) = AtHelp x w o d
Knows T x w t o (CountDeletions d) = AtMark x w o d
Knows T x w t o (Mark d g) = AtMark x w o d × (g.0 ≡ suc (w.count (cell_no t Deletion)))
Knows T x w t o (Unlink n d) = AtUnlink x w o d
Knows T x w t o (Sizing p) = (call w o ≡ Size) × AtSize T w t o p

-- ---- How many: of a cell's raised updates as many have a target up to v as v says; of a key's updates exchanged up to a step,
-- the insertions are as many as the deletions, or one more.

unfoldable pub raised_to : World → ℕ → ℕ → ℕ → Bool
raised_to w q v u = ltb 0 (w.raised u) && eqb (cell_op w u) q && leb (w.target u) v

abbrev pub Tallies : ℕ → World → Type 0
Tallies n w = (q v : ℕ) → v ≤ w.count q → tally (raised_to w q v) n ≡ v

abbrev pub is_kind : Kind → Call → Bool
is_kind Insertion Insert = true
is_kind Insertion Delete = false
is_kind Insertion Contains = false
is_kind Insertion Size = false
is_kind Deletion Insert = false
is_kind Deletion Delete = true
is_kind Deletion Contains = false
is_kind Deletion Size = false

unfoldable pub made : World → Kind → ℕ → ℕ → ℕ → Bool
made w k on y u = ltb 0 (w.exch u) && leb (w.exch u) y && is_kind k (call w u) && eqb (key w u) on

-- up to step y, key `on` is there (1) or not (0)
abbrev pub Balance : ℕ → World → ℕ → ℕ → ℕ → Type 0
Balance n w on y b = tally (made w Insertion on y) n ≡ b + tally (made w Deletion on y) n

abbrev pub present : Content → ℕ
present Empty = 0
present (Live d) = 1
present (Marked n d) = 0

-- what an exchanged update leaves
abbrev pub leaves : Kind → ℕ
leaves Insertion = 1
leaves Deletion = 0

pub record Balances (n x : ℕ) (w : World) : Type 0 where
  pub now' : (on : ℕ) → Balance n w on x (present (w.content on))
  pub updates : (u : ℕ) → 0 < w.exch u → Balance n w (key w u) (w.exch u) (leaves (kind_of (call w u)))
  pub finders : (o : ℕ) → 0 < w.read o → Balance n w (key w o) (w.read o) (present (w.found o))

-- ---- All of it: what holds of the memory and the history, and what each thread knows.

pub record Core (T n x : ℕ) (w : World) : Type 0 where
  pub records : Records T n x w
  pub counters : Counters w
  pub tallies : Tallies n w
  pub snaps : Snaps T x w
  pub windows : Windows w
  pub keys : Keys x w
  pub balances : Balances n x w
  pub finders : Finders w
  pub returned : Returned w
  pub stamps : Stamps w

pub record Inv (T n x : ℕ) (w : World) : Type 0 where
  pub core : Core T n x w
  pub knows : (t : ℕ) → t < T → Knows T x w t (w.op t) (w.point t)
