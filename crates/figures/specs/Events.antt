-- What a step of a run is, in document 01's words: told of the state before the step and of its thread.
use Rattle.std.specs.Prelude.{ℕ, ◌+◌, ◌-◌, ◌≤◌, ◌<◌, ◌≡◌, List, length, get_or}
use Rattle.terms.specs.declared.ThreadId.{ThreadId}
use Rattle.terms.specs.declared.OpId.{OpId}
use Rattle.terms.specs.declared.SnapshotId.{SnapshotId}
use Rattle.terms.specs.declared.Target.{Target}
use Rattle.figures.specs.declared.Cell.{Cell}
use Rattle.figures.specs.declared.UpdateDeed.TheVariants.{Raises}
use Rattle.figures.specs.declared.SizeDeed.TheVariants.{Announces, Lowers, Keeps, Fixes, Shares}
use Rattle.figures.specs.declared.Content.{Content}
use Rattle.figures.specs.declared.Node.{Node}
use Rattle.figures.specs.declared.Update.{Update}
use Rattle.figures.specs.declared.Deed.{Deed}
use Rattle.figures.specs.declared.Deed.TheVariants.{Finds, Links, Marks, Updates, Sizes}
use Rattle.figures.specs.declared.Next.TheVariants.{Returns}
use Rattle.figures.specs.declared.Machine.{Machine}
use Rattle.figures.specs.Figure4.{count_at, new_id}
use Rattle.figures.specs.Figure3.{cell_of}
use Rattle.figures.specs.Step.{local_at, move_of}
use Rattle.figures.specs.Counts.{state_before}

-- a kind of step
abbrev pub Event : Type 1
Event = Machine → ThreadId → Type 0

-- thread t, which has an operation left, goes on in operation o
pub record Inside (m : Machine) (t : ThreadId) (o : OpId) : Type 0 where
  pub left : (local_at m t).op.0 < (local_at m t).end.0
  pub here : (local_at m t).op ≡ o

-- by an access that does d
pub record Does (o : OpId) (d : Deed) (m : Machine) (t : ThreadId) : Type 0 where
  pub inside : Inside m t o
  pub deed : (move_of m t).deed ≡ d

-- the slot exchange of operation o succeeded, empty to live or live to marked, with target c
pub data Exchange (o : OpId) (c : Target) (m : Machine) (t : ThreadId) : Type 0 where
  links : (n : Node) → Does o (Links n) m t → n.note.1 ≡ c → Exchange o c m t
  marks : (n d : Node) → Does o (Marks n d) m t → d.note.1 ≡ c → Exchange o c m t

-- the counter of the update o came to its target, from one below, whoever brought it there
pub record Raising (o : OpId) (m : Machine) (t : ThreadId) : Type 0 where
  pub by : OpId
  pub update : Update
  pub does : Does by (Updates Raises update) m t
  pub own : update.node.op ≡ o
  pub below : count_at m.calculator.counters (cell_of update) + 1 ≡ update.node.note.1.0

-- operation o read its slot, and found c
abbrev pub SlotRead : OpId → Content → Event
SlotRead o c = Does o (Finds c)

-- snapshot n was announced
pub record Announcement (n : SnapshotId) (m : Machine) (t : ThreadId) : Type 0 where
  pub by : OpId
  pub does : Does by (Sizes Announces) m t
  pub new : new_id m.calculator.current ≡ n

-- the flag of snapshot n was written false
pub record Lowering (n : SnapshotId) (m : Machine) (t : ThreadId) : Type 0 where
  pub by : OpId
  pub does : Does by (Sizes (Lowers n)) m t

-- an exchange of the size of snapshot n succeeded, which the operation `winner` made
pub record Fixing (n : SnapshotId) (m : Machine) (t : ThreadId) : Type 0 where
  pub winner : OpId
  pub size : ℕ
  pub does : Does winner (Sizes (Fixes n size)) m t

-- operation o read v from cell j for its sum (not while collecting)
abbrev pub SumRead : OpId → Cell → ℕ → Event
SumRead o j v = Does o (Sizes (Keeps j v))

-- the size o took its answer from snapshot n, which it fixed or found fixed
pub data Answer (o : OpId) (n : SnapshotId) (m : Machine) (t : ThreadId) : Type 0 where
  own : (v : ℕ) → Does o (Sizes (Fixes n v)) m t → Answer o n m t
  shared : Does o (Sizes (Shares n)) m t → Answer o n m t

-- operation o returned
pub record Return (o : OpId) (m : Machine) (t : ThreadId) : Type 0 where
  pub inside : Inside m t o
  pub answer : ℕ
  pub returns : (move_of m t).next ≡ Returns answer

-- step s of the run is such a step; it is the first of them
pub record At (start : Machine) (schedule : List ℕ) (E : Event) (s : ℕ) : Type 0 where
  pub some : 0 < s
  pub there : s ≤ length schedule
  pub is : E (state_before start schedule s) (record { 0 = get_or schedule (s - 1) 0 })

pub record First (start : Machine) (schedule : List ℕ) (E : Event) (s : ℕ) : Type 0 where
  pub at : At start schedule E s
  pub least : (s' : ℕ) → At start schedule E s' → s ≤ s'
