-- Document 01, "Where an operation stands in the log", in its words and order, over the steps of a run.
use Rattle.std.specs.Prelude.{ℕ, ◌≤◌, ◌<◌, ◌≡◌, ◌≢◌, ◌↔◌, true, List}
use Rattle.terms.specs.declared.OpId.{OpId}
use Rattle.terms.specs.declared.SnapshotId.{SnapshotId}
use Rattle.terms.specs.declared.Target.{Target}
use Rattle.figures.specs.declared.Content.{Content}
use Rattle.figures.specs.declared.Content.TheVariants.{Empty, Live, Marked}
use Rattle.figures.specs.declared.Call.TheVariants.{Size}
use Rattle.history.specs.declared.Place.{Place}
use Rattle.history.specs.Places.{place}
use Rattle.figures.specs.declared.Machine.{Machine}
use Rattle.figures.specs.Step.{record_at}
use Rattle.figures.specs.Places.{op, listed, own_cell, place_of, order_of}
use Rattle.figures.specs.Events.{Exchange, Raising, SlotRead, Announcement, Lowering, Fixing, SumRead, Answer, Return, At, First}

-- the insertion of a live node, the deletion of a marked one: the operation that made it
abbrev pub MadeBy : Content → OpId → Type 0
MadeBy Empty u = ⊥
MadeBy (Live d) u = d.op ≡ u
MadeBy (Marked n d) u = d.op ≡ u

module _ (start : Machine) (schedule : List ℕ) where
  -- an update is an insert or delete whose slot exchange succeeded; here with its target
  pub record IsUpdate (o : OpId) (c : Target) : Type 0 where
    pub step : ℕ
    pub exchanged : At start schedule (Exchange o c) step

  -- a snapshot closes at the first write of false, and is fixed at the first exchange of its size
  abbrev pub Closes : SnapshotId → ℕ → Type 0
  Closes n s = First start schedule (Lowering n) s

  abbrev pub Fixes : SnapshotId → ℕ → Type 0
  Fixes n s = First start schedule (Fixing n) s

  -- the exception, of the update o with target c, raised at step r
  pub record Missed (o : OpId) (c : Target) (r closing : ℕ) : Type 0 where
    -- it was raised after a snapshot's announcement and before its closing
    pub snapshot : SnapshotId
    pub announcement : ℕ
    pub announced : At start schedule (Announcement snapshot) announcement
    pub after : announcement < r
    pub closed : Closes snapshot closing
    pub before : r < closing
    -- the snapshot is fixed in this run
    pub fixing : ℕ
    pub fixed : Fixes snapshot fixing
    -- and the value its winner read from the update's cell for its sum is below the target
    pub value : ℕ
    pub reading : ℕ
    pub read : At start schedule (SumRead fixed.at.is.winner (own_cell (record_at start o)) value) reading
    pub below : value < c.0

  -- another returned operation, with its last slot read at r, which found `found`
  pub record Other (o : OpId) (r : ℕ) (found : Content) : Type 0 where
    pub step : ℕ
    pub returned : At start schedule (Return o) step
    pub no_size : (record_at start o).asked.call ≢ Size
    pub no_update : (c : Target) → IsUpdate o c → ⊥
    pub finds : At start schedule (SlotRead o found) r
    pub last : (c : Content) (r' : ℕ) → At start schedule (SlotRead o c) r' → r' ≤ r

  -- operation o stands at this place. A place is a step; there, sizes (0) come before all others (1); then by a number (thread,
  -- raising step or own read); and what stands directly after an update by its read
  pub data Stands : OpId → Place → Type 0 where
    -- size: at its snapshot's closing; several by thread number
    size : {o : OpId} {n : SnapshotId} {a closing : ℕ} → (record_at start o).asked.call ≡ Size → At start schedule (Answer o n) a
        → Closes n closing
        → Stands o (place closing 0 (record_at start o).asked.thread.0 0)
    -- successful or unfinished update: at its raising
    update : {o : OpId} {c : Target} {r : ℕ} → IsUpdate o c → At start schedule (Raising o) r → ((closing : ℕ) → Missed o c r closing → ⊥)
        → Stands o (place r 1 r 0)
    -- exception: directly after that closing and its sizes; several such go by raising step
    exception : {o : OpId} {c : Target} {r closing : ℕ} → IsUpdate o c → At start schedule (Raising o) r → Missed o c r closing
        → Stands o (place closing 1 r 0)
    -- other returned operations have a last slot read r. Empty slot: at r
    empty : {o : OpId} {r : ℕ} → Other o r Empty → Stands o (place r 1 r 0)
    -- live or marked: at r if the insertion or deletion found stands at an earlier step
    earlier : {o u : OpId} {r : ℕ} {found : Content} {p : Place} → Other o r found → MadeBy found u → Stands u p → p.step < r
        → Stands o (place r 1 r 0)
    -- otherwise directly after that update, at its step; several by r
    follows : {o u : OpId} {r : ℕ} {found : Content} {p : Place} → Other o r found → MadeBy found u → Stands u p → r ≤ p.step
        → Stands o (place p.step 1 p.tie r)

  -- only returned operations and raised updates are listed
  pub data Listed (o : OpId) : Type 0 where
    returned : (s : ℕ) → At start schedule (Return o) s → Listed o
    raised : (r : ℕ) → At start schedule (Raising o) r → Listed o

-- earlier in the log: at an earlier step; at one step sizes before all others; then by the number; then an update before what stands
-- directly after it, and these by read
pub data Before (p q : Place) : Type 0 where
  step : p.step < q.step → Before p q
  rank : p.step ≡ q.step → p.rank < q.rank → Before p q
  tie : p.step ≡ q.step → p.rank ≡ q.rank → p.tie < q.tie → Before p q
  read : p.step ≡ q.step → p.rank ≡ q.rank → p.tie ≡ q.tie → p.read < q.read → Before p q

-- what `listed`, `place_of` and `order_of` tell of the machine m after the run, of its n operations, is what these rules say, and nothing
-- else
pub record Agrees (start : Machine) (schedule : List ℕ) (n : ℕ) (m : Machine) : Type 0 where
  pub lists : (o : ℕ) → o < n → (listed m o ≡ true) ↔ Listed start schedule (op o)
  pub stands : (o : ℕ) → o < n → listed m o ≡ true → Stands start schedule (op o) (place_of m o)
  pub only : (o : ℕ) → o < n → (p : Place) → Stands start schedule (op o) p → (listed m o ≡ true) × (place_of m o ≡ p)
  pub orders : (o o' : ℕ) → o < n → o' < n → listed m o ≡ true → listed m o' ≡ true
      → (order_of m o < order_of m o') ↔ Before (place_of m o) (place_of m o')
