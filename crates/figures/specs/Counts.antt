-- What the counts that a run hands back mean, over its schedule, and what is asked of a run: the limits of document 01.
use Rattle.std.specs.Prelude.{ℕ, zero, suc, ◌+◌, ◌-◌, ◌*◌, ◌≤◌, ◌<◌, ◌≡◌, Bool, true, false, not, ◌&&◌, List, [], ◌∷◌, length, get_or, take, leb}
use Rattle.history.specs.Steps.{steps_that}
use Rattle.history.specs.Steps as Steps
use Rattle.terms.specs.declared.OpId.{OpId}
use Rattle.figures.specs.declared.SizeDeed.{SizeDeed}
use Rattle.figures.specs.declared.SizeDeed.TheVariants.{Looks, Announces, Collects, Lowers, Keeps, Fixes, Shares}
use Rattle.figures.specs.declared.Call.TheVariants.{Size}
use Rattle.figures.specs.declared.Deed.{Deed}
use Rattle.figures.specs.declared.Deed.TheVariants.{Rests, Finds, Links, Marks, Unlinks, Updates, Sizes}
use Rattle.figures.specs.declared.Record.{Record}
use Rattle.figures.specs.declared.Machine.{Machine}
use Rattle.figures.specs.Limits.{most_threads, most_keys, most_operations, most_steps}
use Rattle.figures.specs.Step.{local_at, record_at, move_of, run_of}
use Rattle.figures.specs.Codec.{key_of}

-- how many operations the threads before thread t have: where its own begin
abbrev pub ops_before : List ℕ → ℕ → ℕ
ops_before counts zero = 0
ops_before [] (suc t) = 0
ops_before (c ∷ counts) (suc t) = c + ops_before counts t

-- what a run file that is not refused asks for
pub record Within (threads keys : ℕ) (counts ops schedule : List ℕ) : Type 0 where
  pub some_threads : 1 ≤ threads
  pub at_most_threads : threads ≤ most_threads
  pub some_keys : 1 ≤ keys
  pub at_most_keys : keys ≤ most_keys
  pub counted : length counts ≡ most_threads
  pub absent : (t : ℕ) → threads ≤ t → get_or counts t 0 ≡ 0
  pub operations : ops_before counts most_threads ≡ length ops
  pub at_most_operations : length ops ≤ most_operations
  pub bytes : (o : ℕ) → o < length ops → get_or ops o 0 < 256
  pub keyed : (o : ℕ) → o < length ops → key_of (get_or ops o 0) < keys
  pub at_most_steps : length schedule ≤ most_steps
  pub steps : (s : ℕ) → s < length schedule → get_or schedule s 0 < threads

-- own steps: the schedule's steps by that operation's thread, from its first to its last
abbrev pub own_steps : Record → List ℕ → ℕ
own_steps r schedule = Steps.own_steps r.asked.thread.0 r.outcome.first r.outcome.last schedule

-- the state before step s of a run
abbrev pub state_before : Machine → List ℕ → ℕ → Machine
state_before start schedule s = run_of start (take (s - 1) schedule)

-- thread t has no operation left
abbrev pub idle_at : Machine → ℕ → Bool
idle_at m t = leb (local_at m (record { 0 = t })).end.0 (local_at m (record { 0 = t })).op.0

abbrev pub idle_steps : Machine → List ℕ → ℕ
idle_steps start schedule = steps_that (λ s t. idle_at (state_before start schedule s) t) 1 schedule

-- thread t's next access is an announcement that succeeds
abbrev pub is_announcing : SizeDeed → Bool
is_announcing Looks = false
is_announcing Announces = true
is_announcing (Collects n j v) = false
is_announcing (Lowers n) = false
is_announcing (Keeps j v) = false
is_announcing (Fixes n v) = false
is_announcing (Shares n) = false

abbrev pub is_announcement : Deed → Bool
is_announcement Rests = false
is_announcement (Finds c) = false
is_announcement (Links n) = false
is_announcement (Marks n d) = false
is_announcement Unlinks = false
is_announcement (Updates d u) = false
is_announcement (Sizes d) = is_announcing d

abbrev pub announces_at : Machine → ℕ → Bool
announces_at m t = not (idle_at m t) && is_announcement (move_of m (record { 0 = t })).deed

abbrev pub announced_steps : Machine → List ℕ → ℕ
announced_steps start schedule = steps_that (λ s t. announces_at (state_before start schedule s) t) 1 schedule

-- own, idle and snapshot counts are what their words say
pub record Counted (start : Machine) (operations : ℕ) (schedule : List ℕ) (m : Machine) : Type 0 where
  pub own : (o : OpId) → o.0 < operations → (record_at m o).outcome.own ≡ own_steps (record_at m o) schedule
  pub idle : m.idle ≡ idle_steps start schedule
  pub snapshots : m.calculator.current.0 ≡ announced_steps start schedule
  pub clock : m.clock ≡ length schedule

-- a size takes at most 8T + 5 own steps, and at least 6T + 4 if it returned
pub record SizeSteps (threads operations : ℕ) (m : Machine) : Type 0 where
  pub most : (o : OpId) → o.0 < operations → (record_at m o).asked.call ≡ Size → (record_at m o).outcome.own ≤ 8 * threads + 5
  pub least : (o : OpId) → o.0 < operations → (record_at m o).asked.call ≡ Size → 0 < (record_at m o).outcome.last → 6 * threads + 4 ≤ (record_at m o).outcome.own
