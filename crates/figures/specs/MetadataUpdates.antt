-- One update of the metadata, over the steps of a run: from its first access, line 78 of figure 5, to the access that ends it.
use Rattle.std.specs.Prelude.{ℕ, ◌-◌, ◌≤◌, ◌<◌, ◌≡◌, Bool, List, get_or}
use Rattle.terms.specs.declared.ThreadId.{ThreadId}
use Rattle.figures.specs.declared.UpdatePoint.{UpdatePoint}
use Rattle.figures.specs.declared.UpdatePoint.TheVariants.{ReadCount}
use Rattle.figures.specs.declared.UpdateNext.TheVariants.{Done}
use Rattle.figures.specs.declared.UpdateMove.{UpdateMove}
use Rattle.figures.specs.declared.Update.{Update}
use Rattle.figures.specs.declared.After.{After}
use Rattle.figures.specs.declared.Point.TheVariants.{Updating}
use Rattle.figures.specs.declared.Machine.{Machine}
use Rattle.figures.specs.Figure4.{sight_of}
use Rattle.figures.specs.Figure5.{update_at, update_looks_at}
use Rattle.figures.specs.Figure3.{cell_of}
use Rattle.figures.specs.Step.{local_at}
use Rattle.figures.specs.Counts.{state_before}
use Rattle.figures.specs.Events.{Event, At}

-- such a step, of thread t
pub record By (t : ThreadId) (E : Event) (m : Machine) (t' : ThreadId) : Type 0 where
  pub thread : t' ≡ t
  pub is : E m t'

-- an access of the update for u at point p, in an operation that goes on with a when the metadata is up to date
pub record Access (u : Update) (a : After) (p : UpdatePoint) (m : Machine) (t : ThreadId) : Type 0 where
  pub left : (local_at m t).op.0 < (local_at m t).end.0
  pub stands : (local_at m t).point ≡ Updating p u a

abbrev pub update_move : Update → UpdatePoint → Machine → UpdateMove
update_move u p m = update_at p u.node.note.1 (sight_of m.calculator (update_looks_at p) (cell_of u))

-- the first, any, and one that ends the update with this report
abbrev pub Begins : Update → After → Event
Begins u a = Access u a ReadCount

pub record Goes (u : Update) (a : After) (m : Machine) (t : ThreadId) : Type 0 where
  pub point : UpdatePoint
  pub access : Access u a point m t

pub record Ends (u : Update) (a : After) (raised : Bool) (m : Machine) (t : ThreadId) : Type 0 where
  pub point : UpdatePoint
  pub access : Access u a point m t
  pub reports : (update_move u point m).next ≡ Done raised

-- a finished update of the metadata for u, by thread t: from step `from` to step `to` every step of t is an access of it
pub record MetadataUpdate (start : Machine) (schedule : List ℕ) (t : ThreadId) (u : Update) (from to : ℕ) (raised : Bool) : Type 0 where
  pub after : After
  pub begins : At start schedule (By t (Begins u after)) from
  pub order : from < to
  pub goes : (s : ℕ) → from ≤ s → s ≤ to → get_or schedule (s - 1) 0 ≡ t.0 → Goes u after (state_before start schedule s) t
  pub ends : At start schedule (By t (Ends u after raised)) to
