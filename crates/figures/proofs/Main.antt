-- The invariants hold in every state of every run.
use Prim.Native.Nat.{ℕ, suc, ◌≤◌, ◌<◌}
use mathlib.Core.Path.{◌≡◌, refl, sym, ap, ◌∙◌, subst, fun_ext}
use mathlib.Core.Logic.{◌≢◌, ◌⊎◌, inl, inr}
use mathlib.Core.Bool.{true}
use mathlib.Core.List.{List, [], ◌∷◌, ◌++◌}
use native.Mathlib.Omega.{arith}
use native.Mathlib.Nat.{le_refl}
use native.Mathlib.Decide.{ℕ_discrete, dec_lt}
use lib.ListN.{length, get_or-eq_default}
use borrow.Author.Tests.{lt-ltb, ne_eqb}
use Rattle.history.proofs.Turns.{owned_apart}
use Rattle.terms.specs.declared.ThreadId.{ThreadId}
use Rattle.figures.specs.declared.Call.{Call}
use Rattle.figures.specs.declared.Call.TheVariants.{Insert, Delete, Contains, Size}
use Rattle.figures.specs.declared.Point.{Point}
use Rattle.figures.specs.declared.Point.TheVariants.{Idle, ReadSlot, Updating, CountInsertions, Link, HelpUnlink, CountDeletions, Mark, Unlink, Sizing}
use Rattle.figures.specs.declared.UpdateDeed.{UpdateDeed}
use Rattle.figures.specs.declared.UpdateDeed.TheVariants.{Reads, Raises, Forwards}
use Rattle.figures.specs.declared.SizeDeed.{SizeDeed}
use Rattle.figures.specs.declared.SizeDeed.TheVariants.{Looks, Announces, Collects, Lowers, Keeps, Fixes, Shares}
use Rattle.figures.specs.declared.Deed.{Deed}
use Rattle.figures.specs.declared.Deed.TheVariants.{Rests, Finds, Links, Marks, Unlinks, Updates, Sizes}
use Rattle.figures.specs.declared.Next.{Next}
use Rattle.figures.specs.declared.Next.TheVariants.{To, Returns}
use Rattle.figures.specs.declared.Move.{Move}
use Rattle.figures.specs.declared.Update.{Update}
use Rattle.figures.specs.declared.Record.{Record}
use Rattle.figures.specs.declared.Asked.{Asked}
use Rattle.figures.specs.declared.Machine.{Machine}
use Rattle.figures.specs.Figure4.{sight_of}
use Rattle.figures.specs.Figure3.{entry, looks_at_cell, looks_at_snapshot}
use Rattle.figures.specs.Step.{no_record, local_at, record_at, content_at, stands_at, access_of, move_of, accessed, idled, step_of, run_of}
use Rattle.figures.proofs.Laws.{eq_case}
use Rattle.figures.proofs.Shape.{Shape}
use Rattle.figures.proofs.Frame.{Moving, stands, Stands, op_of, end_of, point_of, first_of}
use Rattle.figures.proofs.Frame.Stands.{between, inside}
use Rattle.figures.specs.Counts.{Within, ops_before, is_announcing, is_announcement}
use Rattle.figures.specs.Start.{start_of}
use Rattle.figures.proofs.Begin.{Owned, before_grows, start_record}
use Rattle.figures.proofs.Runs.{step_case}
use Rattle.figures.proofs.Sound.{Sound, few_ops, run_keeps_within}
use Rattle.figures.proofs.Sizes.{current_small, current_counts, announced_step}
use Rattle.figures.proofs.Counted.{Facts, facts_start, facts_step}
use Rattle.figures.proofs.Threads.{Threads}
use Rattle.figures.proofs.World.{World, put_same, put_other, put_case, thr, key, call, update_op, tick, act, onward}
use Rattle.figures.proofs.Inv.{Core, Knows, Inv, Noted}
use Rattle.figures.proofs.Grows.{Alone, Still, Grows}
use Rattle.figures.proofs.Growth.{grows_tick, grows_act, grows_onward}
use Rattle.figures.proofs.Stable.{thr_grows, knows_grows}
use Rattle.figures.proofs.Guar.{Acting, Guar, ReturnsNow}
use Rattle.figures.proofs.Touch.{Going}
use Rattle.figures.proofs.RecordsKept.{records_tick, records_act, records_onward}
use Rattle.figures.proofs.CountersKept.{counters_tick, counters_act, counters_onward}
use Rattle.figures.proofs.TalliesKept.{tallies_tick, tallies_act, tallies_onward}
use Rattle.figures.proofs.StampsKept.{stamps_tick, stamps_act, stamps_onward}
use Rattle.figures.proofs.SnapsKept.{snaps_tick, snaps_act, snaps_onward}
use Rattle.figures.proofs.WindowsKept.{windows_tick, windows_act, windows_onward}
use Rattle.figures.proofs.KeysKept.{keys_tick, keys_act, keys_onward}
use Rattle.figures.proofs.BalancesKept.{balances_tick, balances_act, balances_onward}
use Rattle.figures.proofs.FindersKept.{finders_tick, finders_act, finders_onward}
use Rattle.figures.proofs.ReturnedKept.{returned_tick, returned_act, returned_onward, Ends}
use Rattle.figures.proofs.Quiet.{act_last}
use Rattle.figures.proofs.Pass.{core_pass, knows_pass}
use Rattle.figures.proofs.Mirror.{world_of, pass, count_at_lem, cell_at_lem, DeedInRange, UpdateInRange, SizeInRange, world_accessed, world_idled}
use Rattle.figures.proofs.MirrorStart.{total_mine, start_inv}
use Rattle.figures.proofs.OwnUpdate.{Onward, Branch, Past}
use Rattle.figures.proofs.OwnSize.{thread_in}
use Rattle.figures.proofs.OwnSet.{access_branch}

-- ---- The parts of a step keep the memory and the history.

module _ {T n x : ℕ} {w : World} (core : Core T n x w) where
  pub core_tick : (t o : ℕ) → w.last o ≡ 0 → Core T n x (tick o w)
  core_tick t o none =
      let g = grows_tick x t o w in
      record {
        records = records_tick T n x w core o;
        counters = counters_tick T n x w core o;
        tallies = tallies_tick T n x w core o;
        snaps = snaps_tick core g;
        windows = windows_tick core g;
        keys = keys_tick core g;
        balances = balances_tick core g;
        finders = finders_tick core g;
        returned = returned_tick core none g;
        stamps = stamps_tick T n x w core o;
      }

  pub core_act : (t o : ℕ) (now : Acting T n x w t o) → T ≤ 8 → (d : Deed) → Guar T x w t o d → Grows x t o w (act d t o w) → Core T n (suc x) (act d t o w)
  core_act t o now few d h g =
      record {
        records = records_act T n x w core t o now d h;
        counters = counters_act T n x w core t o now d h;
        tallies = tallies_act T n x w core t o now d h;
        snaps = snaps_act core now few d h g;
        windows = windows_act core now d g;
        keys = keys_act core now d h g;
        balances = balances_act core now d h g;
        finders = finders_act core now d h g;
        returned = returned_act core now d g;
        stamps = stamps_act T n x w core t o now d h;
      }

  pub core_onward : (t o : ℕ) (nx : Next) → w.clock ≡ x → w.last o ≡ 0 → Going x w t o nx → Ends x w o nx → Core T n x (onward nx t o w)
  core_onward t o nx now none going ends =
      let g = grows_onward x nx t o w in
      record {
        records = records_onward T n x w core now t o nx going;
        counters = counters_onward T n x w core t o nx going;
        tallies = tallies_onward T n x w core t o nx;
        snaps = snaps_onward core nx g;
        windows = windows_onward core nx g;
        keys = keys_onward core nx g;
        balances = balances_onward core nx g;
        finders = finders_onward core nx g;
        returned = returned_onward core now none nx ends g;
        stamps = stamps_onward T n x w core t o nx;
      }

-- a deed leaves the clock, and which operation a thread is in, and first steps
pub act_clock : (d : Deed) (t o : ℕ) (w : World) → ((act d t o w).clock ≡ w.clock) × ((act d t o w).op ≡ w.op) × ((act d t o w).first ≡ w.first)
act_clock Rests t o w = (refl, refl, refl)
act_clock (Finds c) t o w = (refl, refl, refl)
act_clock (Links d) t o w = (refl, refl, refl)
act_clock (Marks m d) t o w = (refl, refl, refl)
act_clock Unlinks t o w = (refl, refl, refl)
act_clock (Updates Reads u) t o w = (refl, refl, refl)
act_clock (Updates Raises u) t o w = (refl, refl, refl)
act_clock (Updates (Forwards s) u) t o w = (refl, refl, refl)
act_clock (Sizes Looks) t o w = (refl, refl, refl)
act_clock (Sizes Announces) t o w = (refl, refl, refl)
act_clock (Sizes (Collects s j v)) t o w = (refl, refl, refl)
act_clock (Sizes (Lowers s)) t o w = (refl, refl, refl)
act_clock (Sizes (Keeps j v)) t o w = (refl, refl, refl)
act_clock (Sizes (Fixes s v)) t o w = (refl, refl, refl)
act_clock (Sizes (Shares s)) t o w = (refl, refl, refl)

onward_clock : (nx : Next) (t o : ℕ) (w : World) → (onward nx t o w).clock ≡ w.clock
onward_clock (To p) t o w = refl
onward_clock (Returns a) t o w = refl

-- ---- A thread that is inside an operation keeps what it knows when the step is counted.

abbrev started : World → (ℕ → ℕ) → World
started w f = record { clock = suc w.clock; asked = w.asked; first = f; last = w.last; answer = w.answer; read = w.read; found = w.found; exch = w.exch; target = w.target; raised = w.raised; window = w.window; used = w.used; op = w.op; point = w.point; mine = w.mine; count = w.count; cur = w.cur; flag = w.flag; size = w.size; ann = w.ann; closed = w.closed; fixed = w.fixed; cell = w.cell; seen = w.seen; held = w.held; content = w.content }

tick_pass : (w : World) (o : ℕ) → 0 < w.first o → tick o w ≡ pass w
tick_pass w o h = ap (started w) (fun_ext (λ a. put_case (λ y. y ≡ w.first a) w.first o _ a (λ e. rw (ne_eqb (w.first o) 0 (λ z. omega arith)) (ap w.first (sym e))) (λ e. refl)))

stands_inside : (p : Point) (k : Call) → Moving p → stands_at p k ≡ p
stands_inside Idle k h = absurd h
stands_inside ReadSlot k h = refl
stands_inside (Updating p u b) k h = refl
stands_inside CountInsertions k h = refl
stands_inside (Link c) k h = refl
stands_inside (HelpUnlink m d) k h = refl
stands_inside (CountDeletions d) k h = refl
stands_inside (Mark d c) k h = refl
stands_inside (Unlink m d) k h = refl
stands_inside (Sizing p) k h = refl

moving_not : (p : Point) → Moving p → p ≡ Idle → ⊥
moving_not p h e = rw e at h

-- ---- A step of thread t in its operation o.

pub record Standing (T n : ℕ) (counts : List ℕ) (m : Machine) : Type 0 where
  pub shape : Shape m
  pub owners : Threads counts m
  pub threads : m.threads ≡ T
  pub few : T ≤ 8
  pub all : ops_before counts 8 ≡ n
  pub small : n ≤ 64
  pub clock : m.clock < 4096
  pub room : m.calculator.current.0 ≤ 64
  pub keyed : (o : ℕ) → o < n → (record_at m (record { 0 = o })).asked.key < 16

-- a step of thread t from m to m', as the world has it: an access, with what the thread knows of it, or an idle step
pub record Acts (T n : ℕ) (m : Machine) (t : ℕ) (m' : Machine) : Type 0 where
  pub left : op_of m t < end_of m t
  pub room : m.calculator.current.0 ≤ 64
  pub held : ℕ → ℕ → ℕ
  pub held' : ℕ → ℕ → ℕ
  pub before : Inv T n m.clock (world_of m held)
  pub acting : Acting T n m.clock (tick (op_of m t) (world_of m held)) t (op_of m t)
  pub guar : Guar T m.clock (tick (op_of m t) (world_of m held)) t (op_of m t) (move_of m (record { 0 = t })).deed
  pub returns : (a : ℕ) → (move_of m (record { 0 = t })).next ≡ Returns a
      → ReturnsNow (suc m.clock) (act (move_of m (record { 0 = t })).deed t (op_of m t) (tick (op_of m t) (world_of m held))) (op_of m t) a
  -- what is asked stays; other operations, and other threads, are left alone
  pub asked : (world_of m' held').asked ≡ (world_of m held).asked
  pub alone : (q : ℕ) → q ≢ op_of m t → Alone (world_of m held) (world_of m' held') q
  pub still : (q : ℕ) → q ≢ t → Still (world_of m held) (world_of m' held') q
  pub after : world_of m' held'
      ≡ onward (move_of m (record { 0 = t })).next t (op_of m t) (act (move_of m (record { 0 = t })).deed t (op_of m t) (tick (op_of m t) (world_of m held)))

pub record Idles (T n : ℕ) (m : Machine) (t : ℕ) (m' : Machine) : Type 0 where
  pub none : end_of m t ≤ op_of m t
  pub held : ℕ → ℕ → ℕ
  pub before : Inv T n m.clock (world_of m held)
  pub after : world_of m' held ≡ pass (world_of m held)

module _ {T n : ℕ} {counts : List ℕ} {m : Machine} (s : Standing T n counts m) (g : ℕ → ℕ → ℕ) (i : Inv T n m.clock (world_of m g)) where
  abbrev w : World
  w = world_of m g

  -- an operation below n is its thread's
  owner_is : (t o : ℕ) → Owned counts t o → o < n → thr w o ≡ t
  owner_is t o h l = go (ℕ_discrete (thr w o) t)
    where
      go : Dec (thr w o ≡ t) → thr w o ≡ t
      go (yes e) = e
      go (no e) = absurd (owned_apart (before_grows counts) h (s.owners.whose o (omega (arith, s.all))) e refl)

  -- a thread that is inside an operation
  module _ (t : ℕ) (tl : t < 8) (l : op_of m t < end_of m t) where
    owned_here : Owned counts t (op_of m t)
    owned_here = record { thread = tl; from = s.owners.from t tl; below = omega (arith, s.owners.ends t tl) }

    inside_here : op_of m t < n
    inside_here = omega (arith, s.owners.ends t tl, s.all, before_grows counts (suc t) 8 tl)

  past : Past w
  past u h e =
      let x = i.core.records.exchanges u h in
      let o = s.owners.whose u (omega (arith, x.inside, s.all)) in
      go x o (dec_lt u (op_of m (thr w u)))
    where
      go : Rattle.figures.proofs.Inv.Exchange T n m.clock w u → Owned counts (thr w u) u → Dec (u < op_of m (thr w u)) → 0 < w.last u
      go x o (yes l) = s.owners.returned (thr w u) u o.thread o.from l
      go x o (no l) =
          let b = x.began in
          let z : first_of m u ≡ 0 = s.owners.unbegun (thr w u) u o.thread (omega arith) (omega (arith, o.below, s.owners.ends (thr w u) o.thread)) in
          absurd (omega arith)

  -- ---- Thread t steps.

  module _ (t : ℕ) (runs : t < T) (l : op_of m t < end_of m t) where
    abbrev o : ℕ
    o = op_of m t

    abbrev x : ℕ
    x = m.clock

    abbrev w₀ : World
    w₀ = tick o w

    tl : t < 8
    tl = omega (arith, s.few)

    none : w.last o ≡ 0
    none = s.owners.going t tl l

    core₀ : Core T n x w₀
    core₀ = core_tick i.core t o none

    began : 0 < w₀.first o
    began = rw put_same (eq_case (λ y. 0 < y) (w.first o) 0 (suc x) (w.first o) (λ e. omega arith) (λ e. omega arith))

    acting : Acting T n x w₀ t o
    acting =
        record {
          thread = owner_is t o (owned_here t tl l) (inside_here t tl l);
          inside = inside_here t tl l;
          runs = runs;
          current = refl;
          unreturned = none;
          began = began;
          clock = refl;
        }

    abbrev p : Point
    p = stands_at (point_of m t) (call w o)

    -- it has not exchanged before it began
    unexchanged : first_of m o ≡ 0 → w.exch o ≡ 0
    unexchanged z = go (ℕ_discrete (w.exch o) 0)
      where
        go : Dec (w.exch o ≡ 0) → w.exch o ≡ 0
        go (yes e) = e
        go (no e) = absurd (omega (arith, (i.core.records.exchanges o (omega arith)).began))

    entered : (k : Call) → call w o ≡ k → w.exch o ≡ 0 → Knows T x w₀ t o (entry k) × (entry k ≡ Idle → ⊥)
    entered Insert e f = ((f, λ z. let y : ◌≡◌ {A = ℕ} 0 1 = cc in omega arith), λ z. let y : ◌≡◌ {A = ℕ} 0 1 = cc in omega arith)
    entered Delete e f = ((f, λ z. let y : ◌≡◌ {A = ℕ} 0 1 = cc in omega arith), λ z. let y : ◌≡◌ {A = ℕ} 0 1 = cc in omega arith)
    entered Contains e f = ((f, λ z. let y : ◌≡◌ {A = ℕ} 0 1 = cc in omega arith), λ z. let y : ◌≡◌ {A = ℕ} 0 1 = cc in omega arith)
    entered Size e f = ((e, tt), λ z. let y : ◌≡◌ {A = ℕ} 0 1 = cc in omega arith)

    knows₀ : Stands (point_of m t) → Knows T x w₀ t o p × (p ≡ Idle → ⊥)
    knows₀ (between e) = rw e (entered (call w o) refl (unexchanged (s.owners.resting t tl l e)))
    knows₀ (inside h) =
        let k = knows_pass i.core x t (le_refl _) (s.owners.first_past o) (point_of m t) (i.knows t runs) in
        rw (stands_inside (point_of m t) (call w o) h)
        (subst (λ (v : World). Knows T x v t o (point_of m t)) (sym (tick_pass w o (s.owners.begun t tl h).1)) k, moving_not (point_of m t) h)

    abbrev t' : ThreadId
    t' = record { 0 = t }

    abbrev v : Move
    v = move_of m t'

    -- what the thread knows at its access, and after it
    branch : Branch T x w₀ t o v
    unfolding move_of
    branch =
        let k = knows₀ (stands (point_of m t)) in
        let j = looks_at_cell t' p in
        let n' = looks_at_snapshot p in
        subst (λ (c : ℕ). Branch T x w₀ t o (access_of p t' (local_at m t').op (call w o) c (local_at m t').seen (sight_of m.calculator n' j) (content_at m (key w o)))) (sym s.threads)
        (access_branch core₀ acting s.small past s.few (omega (arith, s.room)) p (local_at m t').seen (sight_of m.calculator n' j) (content_at m (key w o))
        (total_mine m g t' s.shape tl)
        (record { count = sym (count_at_lem m g j); current = refl; collecting = refl; cell = sym (cell_at_lem m g n' j); size = refl })
        refl k.0 k.1)

    abbrev d : Deed
    d = v.deed

    abbrev nx : Next
    nx = v.next

    grows₁ : Grows x t o w₀ (act d t o w₀)
    grows₁ = grows_act core₀ acting (omega (arith, s.small)) d branch.guar

    abbrev w₁ : World
    w₁ = act d t o w₀

    core₁ : Core T n (suc x) w₁
    core₁ = core_act core₀ t o acting s.few d branch.guar grows₁

    clock₁ : w₁.clock ≡ suc x
    clock₁ = (act_clock d t o w₀).0

    op₁ : w₁.op t ≡ o
    op₁ = ap (λ (f : ℕ → ℕ). f t) (act_clock d t o w₀).1

    first₁ : (a : ℕ) → w₁.first a ≤ suc x
    first₁ a = omega (arith, core₁.records.firsts a, clock₁)

    last₁ : w₁.last o ≡ 0
    last₁ = ap (λ (f : ℕ → ℕ). f o) (act_last d t o w₀) ∙ none

    -- the thread's next operation is not exchanged
    next_fresh : thr w (suc o) ≡ t → w.exch (suc o) ≡ 0
    next_fresh e = go (ℕ_discrete (w.exch (suc o)) 0)
      where
        go : Dec (w.exch (suc o) ≡ 0) → w.exch (suc o) ≡ 0
        go (yes z) = z
        go (no z) =
            let y = i.core.records.exchanges (suc o) (omega arith) in
            let h = rw e at (s.owners.whose (suc o) (omega (arith, y.inside, s.all))) in
            let f = s.owners.unbegun t (suc o) tl (omega arith) (omega (arith, h.below, s.owners.ends t tl)) in
            absurd (omega (arith, y.began))

    going : (nx : Next) → Onward T (suc x) w₁ t o nx → Going (suc x) w₁ t o nx
    going (To q) h = tt
    going (Returns a) h =
        record {
          current = op₁;
          began = rw (ap (λ (f : ℕ → ℕ). f o) (act_clock d t o w₀).2) began;
          now' = h;
          next = λ e. (grows₁.alone (suc o) (omega arith)).exch ∙ next_fresh (sym (thr_grows core₀ grows₁ (suc o)) ∙ e);
        }

    ends : (nx : Next) → Onward T (suc x) w₁ t o nx → Ends (suc x) w₁ o nx
    ends (To q) h = tt
    ends (Returns a) h = h

    abbrev w₂ : World
    w₂ = onward nx t o w₁

    core₂ : Core T n (suc x) w₂
    core₂ = core_onward core₁ t o nx clock₁ last₁ (going nx branch.onward) (ends nx branch.onward)

    -- the thread itself
    own : (nx : Next) → Onward T (suc x) w₁ t o nx → Knows T (suc x) (onward nx t o w₁) t ((onward nx t o w₁).op t) ((onward nx t o w₁).point t)
    own (To q) h =
        rw (put_same w₁.point t q)
        (knows_grows core₁ (grows_onward (suc x) (To q) t (suc o) w₁) (le_refl _) refl refl (λ e. omega (arith, op₁)) (first₁ _) q (rw op₁ h))
    own (Returns a) h = rw (put_same w₁.point t Idle) tt

    -- another thread
    module _ (a : ℕ) (runs' : a < T) (other : a ≢ t) where
      al : a < 8
      al = omega (arith, s.few)

      point₂ : w₂.point a ≡ w.point a
      point₂ = ((grows_onward (suc x) nx t o w₁).still a other).point ∙ (grows₁.still a other).point

      elsewhere : Stands (point_of m a) → Knows T (suc x) w₂ a (w₂.op a) (w₂.point a)
      elsewhere (between e) = rw (point₂ ∙ e) tt
      elsewhere (inside h) =
          let b = s.owners.begun a al h in
          let e : w.op a ≢ o = owned_apart (before_grows counts) (owned_here t tl l) (owned_here a al b.0) other in
          let f = s.owners.first_past (w.op a) in
          let y = grows₁.still a other in
          let z = (grows_onward (suc x) nx t o w₁).still a other in
          let k₀ = knows_grows i.core (grows_tick x t o w) (le_refl _) refl refl e f (w.point a) (i.knows a runs') in
          let k₁ = knows_grows core₀ grows₁ {x' = suc x} (omega arith) y.op y.mine e (rw (put_other _ _ _ _ e) f) (w.point a) k₀ in
          let k₂ = knows_grows core₁ (grows_onward (suc x) nx t o w₁) (le_refl _) z.op z.mine (λ q. e (sym y.op ∙ q)) (first₁ _) (w.point a) k₁ in
          rw point₂ k₂

    knows₂ : (a : ℕ) → a < T → Dec (a ≡ t) → Knows T (suc x) w₂ a (w₂.op a) (w₂.point a)
    knows₂ a h (yes e) = rw e (own nx branch.onward)
    knows₂ a h (no e) = elsewhere a h e (stands (point_of m a))

    inv₂ : Inv T n (suc x) w₂
    inv₂ = record { core = core₂; knows = λ a h. knows₂ a h (ℕ_discrete a t) }

    -- ---- Back to the machine: every number that the deed names is in range.

    update_range : (e : UpdateDeed) (u : Update) → Guar T x w₀ t o (Updates e u) → UpdateInRange e u
    update_range Reads u h = tt
    update_range Raises u h =
        let y = core₀.records.exchanges (update_op u) h.noted.exchanged in
        (omega (arith, y.inside, s.small), omega (arith, y.thread, h.noted.by_thread, s.few))
    update_range (Forwards b) u h =
        let y = core₀.records.exchanges (update_op u) h.noted.exchanged in
        (omega (arith, h.forwarding.sighted.raised.there, s.room), omega (arith, y.thread, h.noted.by_thread, s.few))

    size_range : (e : SizeDeed) → (is_announcing e ≡ true → m.calculator.current.0 < 64) → Guar T x w₀ t o (Sizes e) → SizeInRange m.calculator.current.0 e
    size_range Looks r h = tt
    size_range Announces r h = r refl
    size_range (Collects b j c) r h =
        (omega (arith, h.carrying.collecting.using'.known.there, s.room), omega (arith, thread_in T j h.carrying.collecting.inside, s.few))
    size_range (Lowers b) r h = omega (arith, h.using'.known.there, s.room)
    size_range (Keeps j c) r h = omega (arith, thread_in T j h, s.few)
    size_range (Fixes b c) r h = omega (arith, h.1.summing.using'.known.there, s.room)
    size_range (Shares b) r h = tt

    deed_range : (e : Deed) → (is_announcement e ≡ true → m.calculator.current.0 < 64) → Guar T x w₀ t o e → DeedInRange (key w o) m.calculator.current.0 e
    deed_range Rests r h = tt
    deed_range (Finds c) r h = tt
    deed_range (Links b) r h = s.keyed o (inside_here t tl l)
    deed_range (Marks b c) r h = s.keyed o (inside_here t tl l)
    deed_range Unlinks r h = s.keyed o (inside_here t tl l)
    deed_range (Updates e u) r h = update_range e u h
    deed_range (Sizes e) r h = size_range e r h

    pub inv_accessed : (is_announcement d ≡ true → m.calculator.current.0 < 64) → (g' : ℕ → ℕ → ℕ) × Inv T n (accessed m t').clock (world_of (accessed m t') g')
    inv_accessed r =
        let e = world_accessed m g s.shape t' (omega (arith, s.clock)) (record { thread = tl; op = omega (arith, inside_here t tl l, s.small); deed = deed_range d r branch.guar }) in
        let c : (accessed m t').clock ≡ suc x = ap (λ (a : World). a.clock) e ∙ onward_clock nx t o w₁ ∙ clock₁ in
        (w₁.held, subst (λ (a : ℕ). Inv T n a (world_of (accessed m t') w₁.held)) (sym c) (subst (λ (a : World). Inv T n (suc x) a) (sym e) inv₂))

    -- the step as the world has it, and what the thread knows of its deed
    alone₂ : (q : ℕ) → q ≢ o → Alone w w₂ q
    alone₂ q e =
        let a = (grows_tick x t o w).alone q e in
        let b = grows₁.alone q e in
        let c = (grows_onward (suc x) nx t o w₁).alone q e in
        record {
          first = c.first ∙ b.first ∙ a.first;
          last = c.last ∙ b.last ∙ a.last;
          answer = c.answer ∙ b.answer ∙ a.answer;
          read = c.read ∙ b.read ∙ a.read;
          found = c.found ∙ b.found ∙ a.found;
          exch = c.exch ∙ b.exch ∙ a.exch;
          target = c.target ∙ b.target ∙ a.target;
          used = c.used ∙ b.used ∙ a.used;
        }

    still₂ : (q : ℕ) → q ≢ t → Still w w₂ q
    still₂ q e =
        let b = grows₁.still q e in
        let c = (grows_onward (suc x) nx t o w₁).still q e in
        record { op = c.op ∙ b.op; point = c.point ∙ b.point; mine = c.mine ∙ b.mine }

    pub acts : (is_announcement d ≡ true → m.calculator.current.0 < 64) → Acts T n m t (accessed m t')
    acts r =
        let e = world_accessed m g s.shape t' (omega (arith, s.clock)) (record { thread = tl; op = omega (arith, inside_here t tl l, s.small); deed = deed_range d r branch.guar }) in
        record {
          left = l;
          room = s.room;
          held = g;
          held' = w₁.held;
          before = i;
          acting = acting;
          guar = branch.guar;
          returns = λ a e. subst (λ (y : Next). Onward T (suc x) w₁ t o y) e branch.onward;
          asked = ap (λ (y : World). y.asked) e ∙ (grows_onward (suc x) nx t o w₁).asked ∙ grows₁.asked;
          alone = λ q k. subst (λ (y : World). Alone w y q) (sym e) (alone₂ q k);
          still = λ q k. subst (λ (y : World). Still w y q) (sym e) (still₂ q k);
          after = e;
        }

  -- ---- A thread with no operation left steps.

  pub inv_idled : Inv T n (idled m).clock (world_of (idled m) g)
  inv_idled =
      let e = world_idled m g s.shape (omega (arith, s.clock)) in
      let c : (idled m).clock ≡ suc m.clock = ap (λ (a : World). a.clock) e in
      subst (λ (a : ℕ). Inv T n a (world_of (idled m) g)) (sym c) (subst (λ (a : World). Inv T n (suc m.clock) a) (sym e)
      (record {
        core = core_pass i.core (suc m.clock) 64 (omega arith) (ap (λ (r : Record). r.outcome.last) (get_or-eq_default m.records no_record (omega (arith, s.shape.records))));
        knows = λ t h. knows_pass i.core (suc m.clock) t (omega arith) (s.owners.first_past _) (w.point t) (i.knows t h);
      }))

-- ---- Every run.

step_acts : (m : Machine) (t : ℕ) → op_of m t < end_of m t → step_of m (record { 0 = t }) ≡ accessed m (record { 0 = t })
unfolding step_of
step_acts m t h = rw (lt-ltb (op_of m t) (end_of m t) h)

module _ (threads keys : ℕ) (counts ops schedule : List ℕ) (within : Within threads keys counts ops schedule) where
  abbrev start : Machine
  start = start_of threads keys counts ops

  pub record Held (s : List ℕ) (m : Machine) : Type 0 where
    pub facts : Facts start counts s m
    pub held : ℕ → ℕ → ℕ
    pub inv : Inv threads (length ops) m.clock (world_of m held)

  standing : (s : List ℕ) (m : Machine) → length s < 4096 → Sound threads counts s m → Facts start counts s m → Standing threads (length ops) counts m
  standing s m l d f =
      record {
        shape = d.shape;
        owners = d.owners;
        threads = d.threads;
        few = within.at_most_threads;
        all = within.operations;
        small = within.at_most_operations;
        clock = omega (arith, d.clock);
        room = omega (arith, current_small counts m f.announced, within.operations, within.at_most_operations);
        keyed = λ o h. keyed o h;
      }
    where
      keyed : (o : ℕ) → o < length ops → (record_at m (record { 0 = o })).asked.key < 16
      keyed o h =
          let e = f.asked o ∙ ap (λ (r : Record). r.asked) (start_record counts threads keys ops o within.at_most_operations h) in
          rw (ap (λ (a : Asked). a.key) e) (omega (arith, within.keyed o h, within.at_most_keys))

  pub held_start : Held [] start
  held_start =
      record {
        facts = facts_start threads keys counts ops schedule within;
        held = λ s q. 0;
        inv = unfold start_of in start_inv threads keys counts ops (λ s q. 0) (length ops);
      }

  -- there is room for one snapshot more when one is announced
  room : (s : List ℕ) (t : ℕ) (m : Machine) → length s < 4096 → Sound threads counts s m → Facts start counts s m
      → op_of m t < end_of m t → is_announcement (move_of m (record { 0 = t })).deed ≡ true → m.calculator.current.0 < 64
  room s t m l d f a b =
      let few = few_ops threads keys counts ops schedule within in
      let c : m.clock < 4096 = omega (arith, d.clock) in
      let r = f.ranks in
      let y = f.announced in
      let q = current_counts counts few threads within.some_threads within.at_most_threads s m d r c y (record { 0 = t }) a in
      let p = current_small counts (step_of m (record { 0 = t })) (announced_step counts few threads within.some_threads within.at_most_threads s m d r c y (record { 0 = t })) in
      omega (arith, rw b at q, ap (λ (x : Machine). x.calculator.current.0) (step_acts m t a), p)

  pub held_step : (s : List ℕ) (t : ℕ) (m : Machine) → m ≡ run_of start s → length s < 4096 → t < threads → Sound threads counts s m → Held s m → Held (s ++ t ∷ []) (step_of m (record { 0 = t }))
  held_step s t m e l h d k =
      let f = facts_step threads keys counts ops schedule within s t m e l h d k.facts in
      let i = step_case (λ (x : Machine). x ≡ step_of m (record { 0 = t }) → (g : ℕ → ℕ → ℕ) × Inv threads (length ops) x.clock (world_of x g)) m (record { 0 = t })
      (λ a z. inv_accessed (standing s m l d k.facts) k.held k.inv t h a (room s t m l d k.facts a))
      (λ a z. (k.held, inv_idled (standing s m l d k.facts) k.held k.inv)) refl in
      record { facts = f; held = i.0; inv = i.1 }

  -- what holds of the state at the end of the run
  pub inv_run : (g : ℕ → ℕ → ℕ) × Inv threads (length ops) (run_of start schedule).clock (world_of (run_of start schedule) g)
  inv_run = let k = (run_keeps_within threads keys counts ops schedule within Held held_step held_start).1 in (k.held, k.inv)

  -- what holds at the start and is kept by each step, as the world has it, holds at the end of the run
  pub run_world : (I : List ℕ → Machine → Type 0)
      → ((s : List ℕ) (t : ℕ) (m m' : Machine) → m ≡ run_of start s → t < threads → Sound threads counts s m
      → Acts threads (length ops) m t m' ⊎ Idles threads (length ops) m t m' → I s m → I (s ++ t ∷ []) m')
      → I [] start → I schedule (run_of start schedule)
  run_world I step i =
      (run_keeps_within threads keys counts ops schedule within (λ s m. Held s m × I s m)
      (λ s t m e l h d k. (held_step s t m e l h d k.0, step s t m (step_of m (record { 0 = t })) e h d (stepped s t m l h d k.0) k.1))
      (held_start, i)).1.1
    where
      stepped : (s : List ℕ) (t : ℕ) (m : Machine) → length s < 4096 → t < threads → Sound threads counts s m → Held s m
          → Acts threads (length ops) m t (step_of m (record { 0 = t })) ⊎ Idles threads (length ops) m t (step_of m (record { 0 = t }))
      stepped s t m l h d k =
          step_case (λ (x : Machine). Acts threads (length ops) m t x ⊎ Idles threads (length ops) m t x) m (record { 0 = t })
          (λ a. inl (acts (standing s m l d k.facts) k.held k.inv t h a (room s t m l d k.facts a)))
          (λ a. inr (record { none = a; held = k.held; before = k.inv; after = world_idled m k.held d.shape (omega (arith, d.clock)) }))
