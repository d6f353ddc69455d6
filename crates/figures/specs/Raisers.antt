-- Who raised a counter, over the steps of a run.
use Rattle.std.specs.Prelude.{ℕ, ◌-◌, ◌≤◌, ◌<◌, ◌≡◌, ◌↔◌, Bool, true, List, get_or}
use Rattle.history.specs.Demand.{is_update}
use Rattle.terms.specs.declared.ThreadId.{ThreadId}
use Rattle.terms.specs.declared.OpId.{OpId}
use Rattle.figures.specs.declared.Update.{Update}
use Rattle.figures.specs.declared.After.{After}
use Rattle.figures.specs.declared.Machine.{Machine}
use Rattle.figures.specs.Limits.{invalid}
use Rattle.figures.specs.Step.{record_at}
use Rattle.figures.specs.Places.{course_of}
use Rattle.figures.specs.Events.{Raising, At}
use Rattle.figures.specs.MetadataUpdates.{By, Ends, MetadataUpdate}

module _ (start : Machine) (schedule : List ℕ) where
  -- a step of thread t, from one step to another, at which the counter of u came to its target
  pub record RaisedWithin (t : ThreadId) (u : Update) (from to : ℕ) : Type 0 where
    pub step : ℕ
    pub late : from ≤ step
    pub early : step ≤ to
    pub raising : At start schedule (By t (Raising u.node.op)) step

  -- an access that ends an update of the metadata ends one that began, and that reports true exactly when one of its own steps raised the
  -- counter
  pub record Reports : Type 0 where
    pub whole : (t : ThreadId) (u : Update) (a : After) (to : ℕ) (raised : Bool) → At start schedule (By t (Ends u a raised)) to
        → (from : ℕ) × MetadataUpdate start schedule t u from to raised
    pub honest : (t : ThreadId) (u : Update) (from to : ℕ) (raised : Bool) → MetadataUpdate start schedule t u from to raised
        → (raised ≡ true) ↔ RaisedWithin t u from to

  -- the fifth number of operation o: the thread that the schedule names at the step of its raising
  pub data RaiserIs (o : OpId) : ℕ → Type 0 where
    raised : (s : ℕ) → At start schedule (Raising o) s → RaiserIs o (get_or schedule (s - 1) 0)
    none : ((s : ℕ) → At start schedule (Raising o) s → ⊥) → RaiserIs o invalid

  -- what is told of the machine m after the run, of its n operations; there is one such step at most, and only for an insert or a delete
  pub record Raisers (n : ℕ) (m : Machine) : Type 0 where
    pub raiser : (o : OpId) → o.0 < n → RaiserIs o (record_at m o).outcome.raiser
    pub once : (o : OpId) (s s' : ℕ) → At start schedule (Raising o) s → At start schedule (Raising o) s' → s ≡ s'
    pub updates : (o : OpId) (s : ℕ) → At start schedule (Raising o) s → is_update (course_of m o.0).ask ≡ true
