-- What a step does to the state's record of events: each event of the step strikes its own record, and no other record changes.
use Prim.Native.Nat.{ℕ, suc, ◌<◌}
use mathlib.Core.Path.{◌≡◌, refl, sym, ap, ◌∙◌, subst}
use mathlib.Core.Logic.{◌≢◌}
use mathlib.Core.Bool.{Bool, false, cond}
use native.Mathlib.Omega.{arith}
use native.Mathlib.Decide.{ℕ_discrete}
use lib.Dec.{eqb}
use borrow.Author.Tests.{eqb-false}
use Rattle.terms.specs.declared.ThreadId.{ThreadId}
use Rattle.terms.specs.declared.OpId.{OpId}
use Rattle.terms.specs.declared.SnapshotId.{SnapshotId}
use Rattle.terms.specs.declared.Target.{Target}
use Rattle.figures.specs.declared.UpdateDeed.TheVariants.{Reads, Raises, Forwards}
use Rattle.figures.specs.declared.SizeDeed.TheVariants.{Looks, Announces, Collects, Lowers, Keeps, Fixes, Shares}
use Rattle.figures.specs.declared.Content.{Content}
use Rattle.figures.specs.declared.Content.TheVariants.{Live, Marked}
use Rattle.figures.specs.declared.Node.{Node}
use Rattle.figures.specs.declared.Update.{Update}
use Rattle.figures.specs.declared.Point.{Point}
use Rattle.figures.specs.declared.Deed.{Deed}
use Rattle.figures.specs.declared.Deed.TheVariants.{Rests, Finds, Links, Marks, Unlinks, Updates, Sizes}
use Rattle.figures.specs.declared.Next.{Next}
use Rattle.figures.specs.declared.Next.TheVariants.{To, Returns}
use Rattle.figures.specs.declared.Machine.{Machine}
use Rattle.figures.specs.Limits.{invalid}
use Rattle.figures.specs.Figure4.{trace_at, new_id}
use Rattle.figures.specs.Step.{local_at, record_at, move_of}
use Rattle.figures.specs.Events.{Does, Exchange, Raising, SlotRead, Announcement, Lowering, Fixing, Return}
use Rattle.figures.proofs.Laws.{test_case, more_byte_is}
use Rattle.figures.proofs.Frame.{op_of}
use Rattle.figures.proofs.World.{World, put, put_same, put_other, tick, act, exchange, onward, cell_op, update_op, update_cell, kind_call}
use Rattle.figures.proofs.Inv.{Known}
use Rattle.figures.proofs.Guar.{Guar, RaisesNow}
use Rattle.figures.proofs.Mirror.{world_of, count_update}
use Rattle.figures.proofs.Quiet.{act_last}
use Rattle.figures.proofs.Main.{Acts, act_clock}
use Rattle.figures.proofs.Events.{Strikes, Renews, Opens}

-- ---- What the state holds of events.

pub record History : Type 0 where
  pub read : ℕ → ℕ
  pub found : ℕ → Content
  pub exch : ℕ → ℕ
  pub target : ℕ → ℕ
  pub raised : ℕ → ℕ
  pub ann : ℕ → ℕ
  pub closed : ℕ → ℕ
  pub fixed : ℕ → ℕ
  pub seen : ℕ → ℕ → ℕ
  pub cur : ℕ

abbrev pub history_of : World → History
history_of w =
    record {
      read = w.read;
      found = w.found;
      exch = w.exch;
      target = w.target;
      raised = w.raised;
      ann = w.ann;
      closed = w.closed;
      fixed = w.fixed;
      seen = w.seen;
      cur = w.cur;
    }

-- the same of the machine, and single records
abbrev pub past : Machine → History
past x = history_of (world_of x (λ s q. 0))

abbrev pub read_of : OpId → Machine → ℕ
read_of x m = (record_at m x).look.read

abbrev pub found_of : OpId → Machine → Content
found_of x m = (record_at m x).look.found

abbrev pub exchanged_of : OpId → Machine → ℕ
exchanged_of x m = (record_at m x).change.exchanged

abbrev pub target_of : OpId → Machine → Target
target_of x m = (record_at m x).change.target

abbrev pub raised_of : OpId → Machine → ℕ
raised_of x m = (record_at m x).change.raised

abbrev pub announced_of : SnapshotId → Machine → ℕ
announced_of x m = (trace_at m.calculator x).announced

abbrev pub closed_of : SnapshotId → Machine → ℕ
closed_of x m = (trace_at m.calculator x).closed

abbrev pub fixed_of : SnapshotId → Machine → ℕ
fixed_of x m = (trace_at m.calculator x).fixed

abbrev pub returned_of : OpId → Machine → ℕ
returned_of x m = (record_at m x).outcome.last

-- what is not yet announced has no step of it, nor of a fixing
abbrev pub Ahead : Machine → Type 0
Ahead m = (s : ℕ) → m.calculator.current.0 < s → ((past m).ann s ≡ 0) × ((past m).fixed s ≡ 0)

-- what a step from m to m' by thread t' does to each of them
module _ (start m m' : Machine) (t' : ThreadId) where
  abbrev pub ReadNow : OpId → Type 0
  ReadNow x = Renews start (SlotRead x) (read_of x) (found_of x) m m' t'

  abbrev pub ExchangedNow : OpId → Type 0
  ExchangedNow x = Strikes start (Exchange x) (exchanged_of x) (target_of x) m m' t'

  abbrev pub RaisedNow : OpId → Type 0
  RaisedNow x = Strikes start (λ (i : Unit {0}). Raising x) (raised_of x) (λ (m : Machine). tt) m m' t'

  abbrev pub AnnouncedNow : SnapshotId → Type 0
  AnnouncedNow x = Strikes start (λ (i : Unit {0}). Announcement x) (announced_of x) (λ (m : Machine). tt) m m' t'

  abbrev pub LoweredNow : SnapshotId → Type 0
  LoweredNow x = Opens start (λ (i : Unit {0}). Lowering x) (closed_of x) (λ (m : Machine). tt) m m' t'

  abbrev pub FixedNow : SnapshotId → Type 0
  FixedNow x = Strikes start (λ (i : Unit {0}). Fixing x) (fixed_of x) (λ (m : Machine). tt) m m' t'

  abbrev pub ReturnedNow : OpId → Type 0
  ReturnedNow x = Renews start (λ (i : Unit {0}). Return x) (returned_of x) (λ (m : Machine). tt) m m' t'

onward_history : (nx : Next) (t o : ℕ) (w : World) → history_of (onward nx t o w) ≡ history_of w
onward_history (To p) t o w = refl
onward_history (Returns a) t o w = refl

-- ---- Deeds that strike a record, and the quiet ones.

abbrev pub tag_of : Deed → ℕ
tag_of Rests = 0
tag_of (Finds c) = 1
tag_of (Links n) = 2
tag_of (Marks n d) = 3
tag_of Unlinks = 0
tag_of (Updates Reads u) = 0
tag_of (Updates Raises u) = 4
tag_of (Updates (Forwards n) u) = 0
tag_of (Sizes Looks) = 0
tag_of (Sizes Announces) = 5
tag_of (Sizes (Collects n j v)) = 0
tag_of (Sizes (Lowers n)) = 6
tag_of (Sizes (Keeps j v)) = 0
tag_of (Sizes (Fixes n v)) = 7
tag_of (Sizes (Shares n)) = 0

-- one access does not do two things
pub clash : {A : Type 0} {D d d' : Deed} {k k' : ℕ} → D ≡ d → D ≡ d' → tag_of d ≡ k → tag_of d' ≡ k' → eqb k k' ≡ false → A
clash {A} {D} {d} {d'} {k} {k'} p q a b n = absurd (eqb-false k k' n (sym a ∙ ap tag_of (sym p ∙ q) ∙ b))

pub data Sort (w : World) (t o : ℕ) : Deed → Type 0 where
  finds : (c : Content) → Sort w t o (Finds c)
  links : (n : Node) → Sort w t o (Links n)
  marks : (n d : Node) → Sort w t o (Marks n d)
  raises : (u : Update) → Sort w t o (Updates Raises u)
  announces : Sort w t o (Sizes Announces)
  lowers : (n : SnapshotId) → Sort w t o (Sizes (Lowers n))
  fixes : (n : SnapshotId) (v : ℕ) → Sort w t o (Sizes (Fixes n v))
  quiet : {d : Deed} → tag_of d ≡ 0 → history_of (act d t o w) ≡ history_of w → Sort w t o d

pub sort : (w : World) (t o : ℕ) (d : Deed) → Sort w t o d
sort w t o Rests = quiet refl refl
sort w t o (Finds c) = finds c
sort w t o (Links n) = links n
sort w t o (Marks n d) = marks n d
sort w t o Unlinks = quiet refl refl
sort w t o (Updates Reads u) = quiet refl refl
sort w t o (Updates Raises u) = raises u
sort w t o (Updates (Forwards n) u) = quiet refl refl
sort w t o (Sizes Looks) = quiet refl refl
sort w t o (Sizes Announces) = announces
sort w t o (Sizes (Collects n j v)) = quiet refl refl
sort w t o (Sizes (Lowers n)) = lowers n
sort w t o (Sizes (Keeps j v)) = quiet refl refl
sort w t o (Sizes (Fixes n v)) = fixes n v
sort w t o (Sizes (Shares n)) = quiet refl refl

pub op_path : {a b : OpId} → a.0 ≡ b.0 → a ≡ b
op_path p = λ i. record { 0 = p i }

target_path : {a b : Target} → a.0 ≡ b.0 → a ≡ b
target_path p = λ i. record { 0 = p i }

pub to_not_returns : {p : Point} {b : ℕ} {A : Type 0} → To p ≡ Returns b → A
to_not_returns e = let z : ◌≡◌ {A = ℕ} 0 1 = cc in absurd (omega arith)

pub same_update : {u u' : Update} → Updates Raises u ≡ Updates Raises u' → u ≡ u'
same_update e = cc

pub snapshot_path : {a b : SnapshotId} → a.0 ≡ b.0 → a ≡ b
snapshot_path p = λ i. record { 0 = p i }

same_lowered : {n n' : SnapshotId} → Sizes (Lowers n) ≡ Sizes (Lowers n') → n ≡ n'
same_lowered e = cc

same_fixed : {n n' : SnapshotId} {v v' : ℕ} → Sizes (Fixes n v) ≡ Sizes (Fixes n' v') → n ≡ n'
same_fixed e = cc

-- ---- A step of thread t, in its operation o.

module _ {T n : ℕ} {m m' : Machine} {t : ℕ} (start : Machine) (a : Acts T n m t m') where
  abbrev o : ℕ
  o = op_of m t

  abbrev t' : ThreadId
  t' = record { 0 = t }

  abbrev w₀ : World
  w₀ = tick o (world_of m a.held)

  abbrev pub After : Deed → Type 0
  After d = past m' ≡ history_of (act d t o w₀)

  pub after : After (move_of m t').deed
  after = ap history_of a.after ∙ onward_history (move_of m t').next t o (act (move_of m t').deed t o w₀)

  does : {d : Deed} → (move_of m t').deed ≡ d → (x : OpId) → x.0 ≡ o → Does x d m t'
  does q x e = record { inside = record { left = a.left; here = op_path (sym e) }; deed = q }

  -- ---- Slot reads.

  pub reads_now : (x : OpId) → ReadNow start m m' t' x
  reads_now x = go (move_of m t').deed (sort w₀ t o (move_of m t').deed) refl a.guar after
    where
      still : {d : Deed} {k : ℕ} → (move_of m t').deed ≡ d → tag_of d ≡ k → eqb k 1 ≡ false → After d
          → (history_of (act d t o w₀)).read x.0 ≡ w₀.read x.0 → (history_of (act d t o w₀)).found x.0 ≡ w₀.found x.0
          → ReadNow start m m' t' x
      still q e n h r f =
          Renews.keeps (λ c y. clash q y.deed e refl n) (ap (λ (y : History). y.read x.0) h ∙ r)
          (ap (λ (y : History). y.found x.0) h ∙ f)

      own : (c : Content) → (move_of m t').deed ≡ Finds c → After (Finds c) → Dec (x.0 ≡ o) → ReadNow start m m' t' x
      own c q h (yes e) =
          Renews.renews (subst (λ (c' : Content). SlotRead x c' m t') (sym (ap (λ (y : History). y.found x.0) h ∙ rw (e, put_same))) (does q x e))
          (ap (λ (y : History). y.read x.0) h ∙ rw (e, put_same))
      own c q h (no k) =
          Renews.keeps (λ c' y. k (sym (ap (λ (z : OpId). z.0) y.inside.here)))
          (ap (λ (y : History). y.read x.0) h ∙ put_other _ _ _ _ k) (ap (λ (y : History). y.found x.0) h ∙ put_other _ _ _ _ k)

      go : (d : Deed) → Sort w₀ t o d → (move_of m t').deed ≡ d → Guar T m.clock w₀ t o d → After d → ReadNow start m m' t' x
      go d (finds c) q g h = own c q h (ℕ_discrete x.0 o)
      go d (links n) q g h = still q refl refl h refl refl
      go d (marks n e) q g h = still q refl refl h refl refl
      go d (raises u) q g h = still q refl refl h refl refl
      go d announces q g h = still q refl refl h refl refl
      go d (lowers n) q g h = still q refl refl h refl refl
      go d (fixes n v) q g h = still q refl refl h refl refl
      go d (quiet z s) q g h = still q z refl h (ap (λ (y : History). y.read x.0) s) (ap (λ (y : History). y.found x.0) s)

  -- ---- Slot exchanges.

  pub exchanges_now : (x : OpId) → ExchangedNow start m m' t' x
  exchanges_now x = go (move_of m t').deed (sort w₀ t o (move_of m t').deed) refl a.guar after
    where
      none : {d : Deed} {k : ℕ} {c : Target} → (move_of m t').deed ≡ d → tag_of d ≡ k → eqb k 2 ≡ false → eqb k 3 ≡ false → Exchange x c m t'
          → ⊥
      none q e n n' (Exchange.links b y z) = clash q y.deed e refl n
      none q e n n' (Exchange.marks b b' y z) = clash q y.deed e refl n'

      not_mine : {c : Target} → x.0 ≢ o → Exchange x c m t' → ⊥
      not_mine k (Exchange.links b y z) = k (sym (ap (λ (z : OpId). z.0) y.inside.here))
      not_mine k (Exchange.marks b b' y z) = k (sym (ap (λ (z : OpId). z.0) y.inside.here))

      still' : {d : Deed} {k : ℕ} → (move_of m t').deed ≡ d → tag_of d ≡ k → eqb k 2 ≡ false → eqb k 3 ≡ false → After d
          → (history_of (act d t o w₀)).exch x.0 ≡ w₀.exch x.0 → (history_of (act d t o w₀)).target x.0 ≡ w₀.target x.0
          → ExchangedNow start m m' t' x
      still' q e n n' h r f =
          Strikes.keeps (λ c y. none q e n n' y) (ap (λ (y : History). y.exch x.0) h ∙ r)
          (target_path (ap (λ (y : History). y.target x.0) h ∙ f))

      own : (g : Target) (c : Content) → ((c' : Target) → x.0 ≡ o → g ≡ c' → Exchange x c' m t') → w₀.exch o ≡ 0
          → past m' ≡ history_of (exchange o g.0 c w₀) → Dec (x.0 ≡ o) → ExchangedNow start m m' t' x
      own g c f z h (yes e) =
          Strikes.strikes (f _ e (target_path (sym (ap (λ (y : History). y.target x.0) h ∙ rw (e, put_same))))) (ap w₀.exch e ∙ z)
          (ap (λ (y : History). y.exch x.0) h ∙ rw (e, put_same))
      own g c f z h (no k) =
          Strikes.keeps (λ c' y. not_mine k y) (ap (λ (y : History). y.exch x.0) h ∙ put_other _ _ _ _ k)
          (target_path (ap (λ (y : History). y.target x.0) h ∙ put_other _ _ _ _ k))

      go : (d : Deed) → Sort w₀ t o d → (move_of m t').deed ≡ d → Guar T m.clock w₀ t o d → After d → ExchangedNow start m m' t' x
      go d (finds c) q g h = still' q refl refl refl h refl refl
      go d (links n) q g h = own n.note.1 (Live n) (λ c' i r. Exchange.links n (does q x i) r) g.fresh h (ℕ_discrete x.0 o)
      go d (marks n e) q g h =
          own e.note.1 (Marked n e) (λ c' i r. Exchange.marks n e (does q x i) r) g.fresh h (ℕ_discrete x.0 o)
      go d (raises u) q g h = still' q refl refl refl h refl refl
      go d announces q g h = still' q refl refl refl h refl refl
      go d (lowers n) q g h = still' q refl refl refl h refl refl
      go d (fixes n v) q g h = still' q refl refl refl h refl refl
      go d (quiet z s) q g h = still' q z refl refl h (ap (λ (y : History). y.exch x.0) s) (ap (λ (y : History). y.target x.0) s)

  -- ---- Raisings.

  -- an update is raised once: its counter is below its target before, and not after
  unraised : (u : Update) → RaisesNow w₀ u → w₀.raised (update_op u) ≡ 0
  unraised u g = rise (ℕ_discrete (w₀.raised (update_op u)) 0)
    where
      cell : cell_op w₀ (update_op u) ≡ update_cell u
      cell = rw (g.noted.by_thread, g.noted.does, kind_call u.kind)

      rise : Dec (w₀.raised (update_op u) ≡ 0) → w₀.raised (update_op u) ≡ 0
      rise (yes e) = e
      rise (no k) =
          let d = a.before.core.counters.done (update_op u) (omega arith) in
          absurd (omega (arith, ap w₀.count cell, g.noted.aims, g.below, d))

  pub raises_now : (x : OpId) → RaisedNow start m m' t' x
  raises_now x = go (move_of m t').deed (sort w₀ t o (move_of m t').deed) refl a.guar after
    where
      still : {d : Deed} {k : ℕ} → (move_of m t').deed ≡ d → tag_of d ≡ k → eqb k 4 ≡ false → After d
          → (history_of (act d t o w₀)).raised x.0 ≡ w₀.raised x.0 → RaisedNow start m m' t' x
      still q e n h r = Strikes.keeps (λ i y. clash q y.does.deed e refl n) (ap (λ (y : History). y.raised x.0) h ∙ r) refl

      own : (u : Update) → (move_of m t').deed ≡ Updates Raises u → RaisesNow w₀ u → After (Updates Raises u) → Dec (x.0 ≡ update_op u)
          → RaisedNow start m m' t' x
      own u q g h (yes e) =
          Strikes.strikes
          (record { by = (local_at m t').op; update = u; does = does q _ refl; own = op_path (sym e); below = omega (arith, count_update m a.held u, g.below) })
          (ap w₀.raised e ∙ unraised u g)
          (ap (λ (y : History). y.raised x.0) h ∙ rw (e, put_same))
      own u q g h (no k) =
          Strikes.keeps (λ i y. k (sym (ap (λ (z : OpId). z.0) y.own) ∙ ap (λ (v : Update). update_op v) (same_update (sym y.does.deed ∙ q))))
          (ap (λ (y : History). y.raised x.0) h ∙ put_other _ _ _ _ k) refl

      go : (d : Deed) → Sort w₀ t o d → (move_of m t').deed ≡ d → Guar T m.clock w₀ t o d → After d → RaisedNow start m m' t' x
      go d (finds c) q g h = still q refl refl h refl
      go d (links n) q g h = still q refl refl h refl
      go d (marks n e) q g h = still q refl refl h refl
      go d (raises u) q g h = own u q g h (ℕ_discrete x.0 (update_op u))
      go d announces q g h = still q refl refl h refl
      go d (lowers n) q g h = still q refl refl h refl
      go d (fixes n v) q g h = still q refl refl h refl
      go d (quiet z s) q g h = still q z refl h (ap (λ (y : History). y.raised x.0) s)

  -- ---- Announcements.

  pub known : {s : ℕ} → Known w₀ s → Known (world_of m a.held) s
  known k = record { some = k.some; there = k.there }

  pub announces_now : Ahead m → (x : SnapshotId) → AnnouncedNow start m m' t' x
  announces_now ahead x = go (move_of m t').deed (sort w₀ t o (move_of m t').deed) refl a.guar after
    where
      new_is : (new_id m.calculator.current).0 ≡ suc m.calculator.current.0
      new_is = more_byte_is m.calculator.current.0 (omega (arith, a.room))

      still : {d : Deed} {k : ℕ} → (move_of m t').deed ≡ d → tag_of d ≡ k → eqb k 5 ≡ false → After d
          → (history_of (act d t o w₀)).ann x.0 ≡ w₀.ann x.0 → AnnouncedNow start m m' t' x
      still q e n h r = Strikes.keeps (λ i y. clash q y.does.deed e refl n) (ap (λ (y : History). y.ann x.0) h ∙ r) refl

      own : (move_of m t').deed ≡ Sizes Announces → After (Sizes Announces) → Dec (x.0 ≡ suc m.calculator.current.0)
          → AnnouncedNow start m m' t' x
      own q h (yes e) =
          Strikes.strikes (record { by = (local_at m t').op; does = does q _ refl; new = snapshot_path (new_is ∙ sym e) })
          (ahead x.0 (omega arith)).0
          (ap (λ (y : History). y.ann x.0) h ∙ rw (e, put_same))
      own q h (no k) =
          Strikes.keeps (λ i y. k (sym (ap (λ (z : SnapshotId). z.0) y.new) ∙ new_is))
          (ap (λ (y : History). y.ann x.0) h ∙ put_other _ _ _ _ k) refl

      go : (d : Deed) → Sort w₀ t o d → (move_of m t').deed ≡ d → Guar T m.clock w₀ t o d → After d → AnnouncedNow start m m' t' x
      go d (finds c) q g h = still q refl refl h refl
      go d (links n) q g h = still q refl refl h refl
      go d (marks n e) q g h = still q refl refl h refl
      go d (raises u) q g h = still q refl refl h refl
      go d announces q g h = own q h (ℕ_discrete x.0 (suc m.calculator.current.0))
      go d (lowers n) q g h = still q refl refl h refl
      go d (fixes n v) q g h = still q refl refl h refl
      go d (quiet z s) q g h = still q z refl h (ap (λ (y : History). y.ann x.0) s)

  pub ahead_now : Ahead m → Ahead m'
  ahead_now ahead s l = go (move_of m t').deed (sort w₀ t o (move_of m t').deed) a.guar after
    where
      same : (d : Deed) → After d → (history_of (act d t o w₀)).cur ≡ w₀.cur → (history_of (act d t o w₀)).ann s ≡ w₀.ann s
          → (history_of (act d t o w₀)).fixed s ≡ w₀.fixed s → ((past m').ann s ≡ 0) × ((past m').fixed s ≡ 0)
      same d h c r f =
          let z = ahead s (omega (arith, ap (λ (y : History). y.cur) h, c)) in
          (ap (λ (y : History). y.ann s) h ∙ r ∙ z.0, ap (λ (y : History). y.fixed s) h ∙ f ∙ z.1)

      go : (d : Deed) → Sort w₀ t o d → Guar T m.clock w₀ t o d → After d → ((past m').ann s ≡ 0) × ((past m').fixed s ≡ 0)
      go d (finds c) g h = same d h refl refl refl
      go d (links n) g h = same d h refl refl refl
      go d (marks n e) g h = same d h refl refl refl
      go d (raises u) g h = same d h refl refl refl
      go d announces g h =
          let c : m'.calculator.current.0 ≡ suc m.calculator.current.0 = ap (λ (y : History). y.cur) h in
          let z = ahead s (omega arith) in (
            ap (λ (y : History). y.ann s) h ∙ put_other _ _ _ _ (λ e. omega arith) ∙ z.0,
            ap (λ (y : History). y.fixed s) h ∙ put_other _ _ _ _ (λ e. omega arith) ∙ z.1,
          )
      go d (lowers n) g h = same d h refl refl refl
      go d (fixes n v) g h =
          let c : m'.calculator.current.0 ≡ m.calculator.current.0 = ap (λ (y : History). y.cur) h in
          same d h refl refl (put_other _ _ _ _ (λ e. omega (arith, g.1.summing.using'.known.there)))
      go d (quiet z r) g h =
          same d h (ap (λ (y : History). y.cur) r) (ap (λ (y : History). y.ann s) r) (ap (λ (y : History). y.fixed s) r)

  -- ---- Writes of false.

  pub lowers_now : (x : SnapshotId) → LoweredNow start m m' t' x
  lowers_now x = go (move_of m t').deed (sort w₀ t o (move_of m t').deed) refl a.guar after
    where
      still : {d : Deed} {k : ℕ} → (move_of m t').deed ≡ d → tag_of d ≡ k → eqb k 6 ≡ false → After d
          → (history_of (act d t o w₀)).closed x.0 ≡ w₀.closed x.0 → LoweredNow start m m' t' x
      still q e n h r = Opens.keeps (λ i y. clash q y.does.deed e refl n) (ap (λ (y : History). y.closed x.0) h ∙ r) refl

      -- the first of them closes it
      flagged : (n : SnapshotId) → (move_of m t').deed ≡ Sizes (Lowers n) → Known w₀ n.0 → x.0 ≡ n.0
          → closed_of x m' ≡ cond (w₀.flag x.0) (suc m.clock) (w₀.closed x.0) → LoweredNow start m m' t' x
      flagged n q k e r =
          test_case (λ (b : Bool). w₀.flag x.0 ≡ b → closed_of x m' ≡ cond b (suc m.clock) (w₀.closed x.0) → LoweredNow start m m' t' x) (w₀.flag x.0)
          (λ f g c. Opens.opens (record { by = (local_at m t').op; does = subst (λ (y : SnapshotId). Does (local_at m t').op (Sizes (Lowers y)) m t') (snapshot_path (sym e)) (does q _ refl) })
          (a.before.core.snaps.open' x.0 (rw e (known k)) g) c)
          (λ f g c. Opens.keeps (λ i y. a.before.core.snaps.shut x.0 (rw e (known k)) g) c refl)
          refl r

      own : (n : SnapshotId) → (move_of m t').deed ≡ Sizes (Lowers n) → Known w₀ n.0 → After (Sizes (Lowers n)) → Dec (x.0 ≡ n.0)
          → LoweredNow start m m' t' x
      own n q k h (yes e) = flagged n q k e (ap (λ (y : History). y.closed x.0) h ∙ rw (e, put_same))
      own n q k h (no j) =
          Opens.keeps (λ i y. absurd (j (ap (λ (z : SnapshotId). z.0) (same_lowered (sym y.does.deed ∙ q)))))
          (ap (λ (y : History). y.closed x.0) h ∙ put_other _ _ _ _ j) refl

      -- a new snapshot is not closed
      news : (move_of m t').deed ≡ Sizes Announces → After (Sizes Announces) → Dec (x.0 ≡ suc m.calculator.current.0)
          → LoweredNow start m m' t' x
      news q h (yes e) =
          still q refl refl h (rw (e, put_same) (sym (a.before.core.snaps.future (suc m.calculator.current.0) (omega arith))))
      news q h (no k) = still q refl refl h (put_other _ _ _ _ k)

      go : (d : Deed) → Sort w₀ t o d → (move_of m t').deed ≡ d → Guar T m.clock w₀ t o d → After d → LoweredNow start m m' t' x
      go d (finds c) q g h = still q refl refl h refl
      go d (links n) q g h = still q refl refl h refl
      go d (marks n e) q g h = still q refl refl h refl
      go d (raises u) q g h = still q refl refl h refl
      go d announces q g h = news q h (ℕ_discrete x.0 (suc m.calculator.current.0))
      go d (lowers n) q g h = own n q g.using'.known h (ℕ_discrete x.0 n.0)
      go d (fixes n v) q g h = still q refl refl h refl
      go d (quiet z s) q g h = still q z refl h (ap (λ (y : History). y.closed x.0) s)

  -- ---- Exchanges of a size.

  pub fixes_now : Ahead m → (x : SnapshotId) → FixedNow start m m' t' x
  fixes_now ahead x = go (move_of m t').deed (sort w₀ t o (move_of m t').deed) refl a.guar after
    where
      still : {d : Deed} {k : ℕ} → (move_of m t').deed ≡ d → tag_of d ≡ k → eqb k 7 ≡ false → After d
          → (history_of (act d t o w₀)).fixed x.0 ≡ w₀.fixed x.0 → FixedNow start m m' t' x
      still q e n h r = Strikes.keeps (λ i y. clash q y.does.deed e refl n) (ap (λ (y : History). y.fixed x.0) h ∙ r) refl

      unfixed : (s : ℕ) → Known w₀ s → w₀.size s ≡ invalid → Dec (w₀.fixed s ≡ 0) → w₀.fixed s ≡ 0
      unfixed s k z (yes e) = e
      unfixed s k z (no e) = absurd (a.before.core.snaps.valid s (known k) (omega arith) z)

      own : (n : SnapshotId) (v : ℕ) → (move_of m t').deed ≡ Sizes (Fixes n v) → w₀.fixed n.0 ≡ 0 → After (Sizes (Fixes n v))
          → Dec (x.0 ≡ n.0) → FixedNow start m m' t' x
      own n v q z h (yes e) =
          Strikes.strikes (record { winner = (local_at m t').op; size = v; does = subst (λ (y : SnapshotId). Does (local_at m t').op (Sizes (Fixes y v)) m t') (snapshot_path (sym e)) (does q _ refl) })
          (ap w₀.fixed e ∙ z) (ap (λ (y : History). y.fixed x.0) h ∙ rw (e, put_same))
      own n v q z h (no j) =
          Strikes.keeps (λ i y. j (ap (λ (z : SnapshotId). z.0) (same_fixed (sym y.does.deed ∙ q))))
          (ap (λ (y : History). y.fixed x.0) h ∙ put_other _ _ _ _ j) refl

      -- a new snapshot is not fixed
      news : (move_of m t').deed ≡ Sizes Announces → After (Sizes Announces) → Dec (x.0 ≡ suc m.calculator.current.0)
          → FixedNow start m m' t' x
      news q h (yes e) = still q refl refl h (rw (e, put_same) (sym (ahead (suc m.calculator.current.0) (omega arith)).1))
      news q h (no k) = still q refl refl h (put_other _ _ _ _ k)

      go : (d : Deed) → Sort w₀ t o d → (move_of m t').deed ≡ d → Guar T m.clock w₀ t o d → After d → FixedNow start m m' t' x
      go d (finds c) q g h = still q refl refl h refl
      go d (links n) q g h = still q refl refl h refl
      go d (marks n e) q g h = still q refl refl h refl
      go d (raises u) q g h = still q refl refl h refl
      go d announces q g h = news q h (ℕ_discrete x.0 (suc m.calculator.current.0))
      go d (lowers n) q g h = still q refl refl h refl
      go d (fixes n v) q g h =
          let k = g.1.summing.using'.known in own n v q (unfixed n.0 k g.1.unfixed (ℕ_discrete (w₀.fixed n.0) 0)) h
          (ℕ_discrete x.0 n.0)
      go d (quiet z s) q g h = still q z refl h (ap (λ (y : History). y.fixed x.0) s)

  -- ---- Returns.

  pub returns_now : (x : OpId) → ReturnedNow start m m' t' x
  returns_now x = go (move_of m t').next refl (ap (λ (w : World). w.last x.0) a.after)
    where
      own : (b : ℕ) → (move_of m t').next ≡ Returns b
          → returned_of x m' ≡ put (act (move_of m t').deed t o w₀).last o (act (move_of m t').deed t o w₀).clock x.0
          → Dec (x.0 ≡ o) → ReturnedNow start m m' t' x
      own b q h (yes e) =
          Renews.renews (record { inside = record { left = a.left; here = op_path (sym e) }; answer = b; returns = q })
          (h ∙ rw (e, put_same) (act_clock (move_of m t').deed t o w₀).0)
      own b q h (no k) =
          Renews.keeps (λ i y. k (sym (ap (λ (z : OpId). z.0) y.inside.here)))
          (h ∙ put_other _ _ _ _ k ∙ ap (λ (f : ℕ → ℕ). f x.0) (act_last (move_of m t').deed t o w₀)) refl

      go : (nx : Next) → (move_of m t').next ≡ nx → returned_of x m' ≡ (onward nx t o (act (move_of m t').deed t o w₀)).last x.0
          → ReturnedNow start m m' t' x
      go (To p) q h =
          Renews.keeps (λ i y. to_not_returns (sym q ∙ y.returns))
          (h ∙ ap (λ (f : ℕ → ℕ). f x.0) (act_last (move_of m t').deed t o w₀)) refl
      go (Returns b) q h = own b q h (ℕ_discrete x.0 o)
