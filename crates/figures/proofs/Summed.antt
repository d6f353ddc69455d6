-- Over the run: a size took its answer from the snapshot that its record tells, and the values that a trace has as seen are those that
-- the snapshot's winner read for its sum.
use Prim.Native.Nat.{ℕ, suc, ◌+◌, ◌≤◌, ◌<◌}
use mathlib.Core.Path.{◌≡◌, refl, sym, ap, ◌∙◌, subst}
use mathlib.Core.Logic.{◌≢◌, ◌⊎◌, inl, inr}
use mathlib.Core.Bool.{false}
use mathlib.Core.List.{List, [], ◌∷◌, ◌++◌}
use native.Mathlib.Omega.{arith}
use native.Mathlib.Decide.{ℕ_discrete}
use lib.ListN.{length}
use lib.Dec.{eqb}
use borrow.Author.Tests.{eqb-false}
use Rattle.terms.specs.declared.ThreadId.{ThreadId}
use Rattle.terms.specs.declared.OpId.{OpId}
use Rattle.terms.specs.declared.SnapshotId.{SnapshotId}
use Rattle.figures.specs.declared.Cell.{Cell}
use Rattle.figures.specs.declared.Asked.{Asked}
use Rattle.figures.specs.declared.Call.TheVariants.{Size}
use Rattle.figures.specs.declared.UpdateDeed.TheVariants.{Reads, Raises, Forwards}
use Rattle.figures.specs.declared.SizeDeed.TheVariants.{Looks, Announces, Collects, Lowers, Keeps, Fixes, Shares}
use Rattle.figures.specs.declared.Point.{Point}
use Rattle.figures.specs.declared.Point.TheVariants.{Idle}
use Rattle.figures.specs.declared.Deed.{Deed}
use Rattle.figures.specs.declared.Deed.TheVariants.{Rests, Finds, Links, Marks, Unlinks, Updates, Sizes}
use Rattle.figures.specs.declared.Next.{Next}
use Rattle.figures.specs.declared.Next.TheVariants.{To, Returns}
use Rattle.figures.specs.declared.Record.{Record}
use Rattle.figures.specs.declared.Machine.{Machine}
use Rattle.figures.specs.Figure4.{trace_at, sight_of}
use Rattle.figures.specs.Figure3.{looks_at_cell, looks_at_snapshot}
use Rattle.figures.specs.Step.{local_at, record_at, content_at, stands_at, access_of, move_of, run_of}
use Rattle.figures.specs.Start.{start_of}
use Rattle.figures.specs.Counts.{Within, ops_before}
use Rattle.figures.specs.Events.{Event, Inside, Does, Fixing, SumRead, Answer, At}
use Rattle.figures.proofs.Laws.{tests_differ}
use Rattle.figures.proofs.Frame.{record_of, local_of, op_of, point_of, first_of}
use Rattle.history.proofs.Turns.{owned_apart}
use Rattle.figures.proofs.Begin.{Owned, before_grows, start_records, start_point}
use Rattle.figures.proofs.Sound.{Sound}
use Rattle.figures.proofs.World.{World, put, put_same, put_other, call, no_of, tick, act, onward}
use Rattle.figures.proofs.Guar.{Guar}
use Rattle.figures.proofs.Quiet.{act_last}
use Rattle.figures.proofs.Mirror.{world_of, block}
use Rattle.figures.proofs.OwnSize.{thread_in}
use Rattle.figures.proofs.Main.{Acts, Idles, act_clock, run_world}
use Rattle.figures.proofs.Events.{Strikes, Only, at_either, only_step, only_start}
use Rattle.figures.proofs.Struck.{History, returned_of, fixed_of, op_path, snapshot_path, Sort, sort, After, after, fixes_now}
use Rattle.figures.proofs.Told.{Told, told_step, told_start}
use Rattle.figures.proofs.SizeMoves.{reach, on_reach, sum_tag, SumMove, sum_move, stands_reach, size_stands_lem}
use Rattle.figures.proofs.SumReads.{Reading, reading_none, reading_zero, reading_still, reading_on}

abbrev pub mine_of : ℕ → Machine → ℕ → ℕ
mine_of t m = block (local_of m t).seen

abbrev pub seen_of : SnapshotId → Machine → ℕ → ℕ
seen_of n m = block (trace_at m.calculator n).seen

abbrev pub used_of : OpId → Machine → SnapshotId
used_of x m = (record_at m x).snapshot

-- the size of n was fixed, by operation x
pub record FixedBy (n : SnapshotId) (x : OpId) (m : Machine) (t : ThreadId) : Type 0 where
  pub fixing : Fixing n m t
  pub by : fixing.winner ≡ x

pub record Won (start : Machine) (T : ℕ) (s : List ℕ) (m : Machine) (n : SnapshotId) (x : OpId) : Type 0 where
  pub returned : 0 < returned_of x m
  pub reads : Reading start s x (T + T) (seen_of n m)

pub record Summed (start : Machine) (counts : List ℕ) (T : ℕ) (s : List ℕ) (m : Machine) : Type 0 where
  pub asked : (o : ℕ) → (record_of m o).asked ≡ (record_of start o).asked
  pub begun : (x : OpId) (d : Deed) (k : ℕ) → At start s (Does x d) k → 0 < first_of m x.0
  pub reading : (t : ℕ) → t < T → op_of m t < ops_before counts (suc t)
      → Reading start s (record { 0 = op_of m t }) (reach T (point_of m t)) (mine_of t m)
  pub won : (n : SnapshotId) (x : OpId) (f : ℕ) → At start s (FixedBy n x) f → Won start T s m n x
  pub answers : (x : OpId) → (record_at start x).asked.call ≡ Size → Only start (Answer x) (returned_of x) (used_of x) s m

-- ---- What a deed leaves of a thread's values, and of what operations use.

tags_differ : {A : Type 0} {d d' : Deed} {k k' : ℕ} → d ≡ d' → sum_tag d ≡ k → sum_tag d' ≡ k' → eqb k k' ≡ false → A
tags_differ {A} {d} {d'} {k} {k'} p a b n = absurd (eqb-false k k' n (sym a ∙ ap sum_tag p ∙ b))

mine_same : (d : Deed) (t o : ℕ) (w : World) → sum_tag d ≡ 0 → (act d t o w).mine ≡ w.mine
mine_same Rests t o w e = refl
mine_same (Finds c) t o w e = refl
mine_same (Links n) t o w e = refl
mine_same (Marks n d) t o w e = refl
mine_same Unlinks t o w e = refl
mine_same (Updates Reads u) t o w e = refl
mine_same (Updates Raises u) t o w e = refl
mine_same (Updates (Forwards n) u) t o w e = refl
mine_same (Sizes Looks) t o w e = refl
mine_same (Sizes Announces) t o w e = refl
mine_same (Sizes (Collects n j v)) t o w e = refl
mine_same (Sizes (Lowers n)) t o w e = absurd (omega arith)
mine_same (Sizes (Keeps j v)) t o w e = absurd (omega arith)
mine_same (Sizes (Fixes n v)) t o w e = refl
mine_same (Sizes (Shares n)) t o w e = refl

used_same : (d : Deed) (t o : ℕ) (w : World) → (sum_tag d ≡ 3 → ⊥) → (sum_tag d ≡ 4 → ⊥) → (act d t o w).used ≡ w.used
used_same Rests t o w e f = refl
used_same (Finds c) t o w e f = refl
used_same (Links n) t o w e f = refl
used_same (Marks n d) t o w e f = refl
used_same Unlinks t o w e f = refl
used_same (Updates Reads u) t o w e f = refl
used_same (Updates Raises u) t o w e f = refl
used_same (Updates (Forwards n) u) t o w e f = refl
used_same (Sizes Looks) t o w e f = refl
used_same (Sizes Announces) t o w e f = refl
used_same (Sizes (Collects n j v)) t o w e f = refl
used_same (Sizes (Lowers n)) t o w e f = refl
used_same (Sizes (Keeps j v)) t o w e f = refl
used_same (Sizes (Fixes n v)) t o w e f = absurd (e refl)
used_same (Sizes (Shares n)) t o w e f = absurd (f refl)

onward_used : (nx : Next) (t o : ℕ) (w : World) → (onward nx t o w).used ≡ w.used
onward_used (To p) t o w = refl
onward_used (Returns a) t o w = refl

-- ---- A step of thread t, in its operation o.

module _ (start : Machine) {counts : List ℕ} {T n : ℕ} {s : List ℕ} {t : ℕ} {m m' : Machine} (e : m ≡ run_of start s) (few : T ≤ 8)
    (runs : t < T)
    (d : Sound T counts s m) (told : Told start s m) (h : Summed start counts T s m) (a : Acts T n m t m') where
  abbrev o : ℕ
  o = op_of m t

  abbrev t' : ThreadId
  t' = record { 0 = t }

  abbrev s' : List ℕ
  s' = s ++ t ∷ []

  abbrev w₀ : World
  w₀ = tick o (world_of m a.held)

  abbrev w₁ : World
  w₁ = act (move_of m t').deed t o w₀

  abbrev p : Point
  p = stands_at (point_of m t) (record_at m (local_at m t').op).asked.call

  tl : t < 8
  tl = omega arith

  owned : Owned counts t o
  owned = record { thread = tl; from = d.owners.from t tl; below = omega (arith, a.left, d.owners.ends t tl) }

  -- what the step is, told of m
  here : (E : Event) → E (run_of start s) t' → E m t'
  here E x = subst (λ (y : Machine). E y t') (sym e) x

  there : (E : Event) → E m t' → E (run_of start s) t'
  there E x = subst (λ (y : Machine). E y t') e x

  mine_is : {x : OpId} {f : Deed} → Does x f (run_of start s) t' → x.0 ≡ o
  mine_is {x} {f} y = sym (ap (λ (z : OpId). z.0) (here (Does x f) y).inside.here)

  -- the accesses of another operation are those before
  elsewhere : (x : OpId) (f : Deed) (k : ℕ) → x.0 ≢ o → At start s' (Does x f) k → At start s (Does x f) k
  elsewhere x f k q y = go (at_either start (Does x f) s t y)
    where
      go : ((k ≡ suc (length s)) × Does x f (run_of start s) t') ⊎ At start s (Does x f) k → At start s (Does x f) k
      go (inl z) = absurd (q (mine_is z.1))
      go (inr z) = z

  move : SumMove T p (move_of m t')
  unfolding move_of
  move =
      subst (λ (c : ℕ). SumMove T p (access_of p t' (local_at m t').op (record_at m (local_at m t').op).asked.call c (local_at m t').seen (sight_of m.calculator (looks_at_snapshot p) (looks_at_cell t' p)) (content_at m (record_at m (local_at m t').op).asked.key)))
      (sym d.threads) (sum_move T p t' (local_at m t').op _ (local_at m t').seen _ _)

  reach_is : reach T (point_of m t) ≡ reach T p
  reach_is = sym (stands_reach T (point_of m t) (record_at m (local_at m t').op).asked.call)

  -- where the thread goes on
  to_is : (q : Point) → (move_of m t').next ≡ To q → (op_of m' t ≡ o) × (point_of m' t ≡ q) × (mine_of t m' ≡ w₁.mine t)
  to_is q x =
      let y : world_of m' a.held' ≡ onward (To q) t o w₁ = a.after ∙ ap (λ (nx : Next). onward nx t o w₁) x in (
        ap (λ (w : World). w.op t) y ∙ ap (λ (f : ℕ → ℕ). f t) (act_clock (move_of m t').deed t o w₀).1,
        ap (λ (w : World). w.point t) y ∙ put_same w₁.point t q,
        ap (λ (w : World). w.mine t) y,
      )

  back_is : (b : ℕ) → (move_of m t').next ≡ Returns b → (op_of m' t ≡ suc o) × (point_of m' t ≡ Idle)
  back_is b x =
      let y : world_of m' a.held' ≡ onward (Returns b) t o w₁ = a.after ∙ ap (λ (nx : Next). onward nx t o w₁) x in
      (ap (λ (w : World). w.op t) y ∙ put_same w₁.op t (suc o), ap (λ (w : World). w.point t) y ∙ put_same w₁.point t Idle)

  asked_now : (q : ℕ) → (record_of m' q).asked ≡ (record_of start q).asked
  asked_now q = ap (λ (f : ℕ → Asked). f q) a.asked ∙ h.asked q

  -- ---- What has taken a step has begun.

  first_now : 0 < first_of m' o
  first_now = go (move_of m t').next (ap (λ (w : World). w.first o) a.after)
    where
      go : (nx : Next) → first_of m' o ≡ (onward nx t o w₁).first o → 0 < first_of m' o
      go (To q) x = omega (arith, ap (λ (f : ℕ → ℕ). f o) (act_clock (move_of m t').deed t o w₀).2, a.acting.began)
      go (Returns b) x = omega (arith, ap (λ (f : ℕ → ℕ). f o) (act_clock (move_of m t').deed t o w₀).2, a.acting.began)

  begun_now : (x : OpId) (f : Deed) (k : ℕ) → At start s' (Does x f) k → 0 < first_of m' x.0
  begun_now x f k y = go (ℕ_discrete x.0 o)
    where
      go : Dec (x.0 ≡ o) → 0 < first_of m' x.0
      go (yes q) = rw q first_now
      go (no q) = omega (arith, (a.alone x.0 q).first, h.begun x f k (elsewhere x f k q y))

  -- ---- What the threads have read.

  old : Reading start s (record { 0 = o }) (reach T p) (mine_of t m)
  old = subst (λ (r : ℕ). Reading start s (record { 0 = o }) r (mine_of t m)) reach_is (h.reading t runs owned.below)

  -- a step that is no read leaves them
  no_read : {x : OpId} {r : ℕ} {f : ℕ → ℕ} {k : ℕ} → sum_tag (move_of m t').deed ≡ k → eqb 1 k ≡ false → Reading start s x r f
      → Reading start s' x r f
  no_read {x} z n y = reading_still start s t x (λ j v q. tags_differ (sym (here (SumRead x j v) q).deed) refl z n) y

  -- as the thread goes on to a point
  reads_to : (q : Point) (f : ℕ → ℕ) → (move_of m t').next ≡ To q → w₁.mine t ≡ f → Reading start s' (record { 0 = o }) (reach T q) f
      → Reading start s' (record { 0 = op_of m' t }) (reach T (point_of m' t)) (mine_of t m')
  reads_to q f x z y =
      let i = to_is q x in
      subst (λ (b : ℕ). Reading start s' (record { 0 = b }) (reach T (point_of m' t)) (mine_of t m')) (sym i.0)
      (subst (λ (b : Point). Reading start s' (record { 0 = o }) (reach T b) (mine_of t m')) (sym i.1)
      (subst (λ (g : ℕ → ℕ). Reading start s' (record { 0 = o }) (reach T q) g) (sym (i.2 ∙ z)) y))

  -- after a return: the next operation has not begun
  reads_next : (b : ℕ) → (move_of m t').next ≡ Returns b → op_of m' t < ops_before counts (suc t)
      → Reading start s' (record { 0 = op_of m' t }) (reach T (point_of m' t)) (mine_of t m')
  reads_next b x l =
      let i = back_is b x in
      subst (λ (r : ℕ). Reading start s' (record { 0 = op_of m' t }) r (mine_of t m')) (sym (ap (reach T) i.1))
      (reading_none (λ j v k y. none i.0 j v k y))
    where
      none : op_of m' t ≡ suc o → (j : Cell) (v k : ℕ) → At start s' (SumRead (record { 0 = op_of m' t }) j v) k → ⊥
      none i j v k y =
          let z = elsewhere (record { 0 = op_of m' t }) (Sizes (Keeps j v)) k (λ q. omega arith) y in
          let b = h.begun (record { 0 = op_of m' t }) (Sizes (Keeps j v)) k z in
          let u = d.owners.unbegun t (op_of m' t) tl (omega arith) (omega (arith, d.owners.ends t tl)) in
          omega arith

  -- any other access leaves them
  reads_plain : (q : Point) → (move_of m t').next ≡ To q → sum_tag (move_of m t').deed ≡ 0 → reach T p ≡ 0 → reach T q ≡ 0
      → Reading start s' (record { 0 = op_of m' t }) (reach T (point_of m' t)) (mine_of t m')
  reads_plain q ne z rp rq =
      reads_to q (mine_of t m) ne (ap (λ (f : ℕ → ℕ → ℕ). f t) (mine_same (move_of m t').deed t o w₀ z))
      (subst (λ (r : ℕ). Reading start s' (record { 0 = o }) r (mine_of t m)) (rp ∙ sym rq) (no_read z refl old))

  reads_own : SumMove T p (move_of m t') → op_of m' t < ops_before counts (suc t)
      → Reading start s' (record { 0 = op_of m' t }) (reach T (point_of m' t)) (mine_of t m')
  reads_own (SumMove.keeps n' j c q pe de ne re) l =
      let i : no_of j < T + T = subst (λ (f : Deed). Guar T m.clock w₀ t o f) de a.guar in
      let u : j.thread.0 < 255 = omega (arith, thread_in T j i) in
      let z : Does (record { 0 = o }) (Sizes (Keeps j c)) m t' = record { inside = record { left = a.left; here = refl }; deed = de } in
      let y = reading_on start s t (record { 0 = o }) {j = j} {c = c} (there (SumRead (record { 0 = o }) j c) z)
      (subst (λ (b : Point). Reading start s (record { 0 = o }) (reach T b) (mine_of t m)) pe old) in
      reads_to q (put (mine_of t m) (no_of j) c) ne
      (ap (λ (f : Deed). (act f t o w₀).mine t) de ∙ put_same w₀.mine t (put (w₀.mine t) (no_of j) c))
      (subst (λ (r : ℕ). Reading start s' (record { 0 = o }) r (put (mine_of t m) (no_of j) c)) (sym (re u i)) y)
  reads_own (SumMove.lowers n' q de ne rp rq) l =
      let y = no_read (ap sum_tag de) refl (subst (λ (r : ℕ). Reading start s (record { 0 = o }) r (mine_of t m)) rp old) in
      reads_to q (λ i. 0) ne (ap (λ (f : Deed). (act f t o w₀).mine t) de ∙ put_same w₀.mine t (λ i. 0))
      (subst (λ (r : ℕ). Reading start s' (record { 0 = o }) r (λ i. 0)) (sym rq) (reading_zero (λ i. 0) y))
  reads_own (SumMove.answers n' b pe ne de) l = reads_next b ne l
  reads_own (SumMove.sizes q ne z rp rq) l = reads_plain q ne z rp rq
  reads_own (SumMove.sets f z rp rn) l = go (move_of m t').next refl rn
    where
      go : (nx : Next) → (move_of m t').next ≡ nx → on_reach T nx ≡ 0
          → Reading start s' (record { 0 = op_of m' t }) (reach T (point_of m' t)) (mine_of t m')
      go (To q) ne rq = reads_plain q ne z rp rq
      go (Returns b) ne rq = reads_next b ne l

  reads_other : (q : ℕ) → q < T → q ≢ t → op_of m' q < ops_before counts (suc q)
      → Reading start s' (record { 0 = op_of m' q }) (reach T (point_of m' q)) (mine_of q m')
  reads_other q ql k l =
      let i = a.still q k in
      let l' : op_of m q < ops_before counts (suc q) = omega (arith, i.op) in
      let other : Owned counts q (op_of m q) = record { thread = omega arith; from = d.owners.from q (omega arith); below = l' } in
      let y = reading_still start s t (record { 0 = op_of m q })
      (λ j v z. owned_apart (before_grows counts) owned other k (mine_is {x = record { 0 = op_of m q }} z)) (h.reading q ql l') in
      subst (λ (b : ℕ). Reading start s' (record { 0 = b }) (reach T (point_of m' q)) (mine_of q m')) (sym i.op)
      (subst (λ (b : Point). Reading start s' (record { 0 = op_of m q }) (reach T b) (mine_of q m')) (sym i.point)
      (subst (λ (g : ℕ → ℕ). Reading start s' (record { 0 = op_of m q }) (reach T (point_of m q)) g) (sym i.mine) y))

  reading_now : (q : ℕ) → q < T → op_of m' q < ops_before counts (suc q)
      → Reading start s' (record { 0 = op_of m' q }) (reach T (point_of m' q)) (mine_of q m')
  reading_now q ql l = go (ℕ_discrete q t)
    where
      go : Dec (q ≡ t) → Reading start s' (record { 0 = op_of m' q }) (reach T (point_of m' q)) (mine_of q m')
      go (yes i) =
          subst (λ (b : ℕ). Reading start s' (record { 0 = op_of m' b }) (reach T (point_of m' b)) (mine_of b m')) (sym i)
          (reads_own move (rw i at l))
      go (no i) = reads_other q ql i l

  -- ---- What a winner had read.

  -- of a snapshot that is fixed, the values seen stay
  seen_kept : (x : SnapshotId) → 0 < fixed_of x m → seen_of x m' ≡ seen_of x m
  seen_kept x l = by_strike (fixes_now start a told.ahead x)
    where
      go : (Fixing x m t' → ⊥) → (f : Deed) → Sort w₀ t o f → (move_of m t').deed ≡ f → After start a f → seen_of x m' ≡ seen_of x m
      go u f (Sort.finds c) q y = ap (λ (z : History). z.seen x.0) y
      go u f (Sort.links b) q y = ap (λ (z : History). z.seen x.0) y
      go u f (Sort.marks b c) q y = ap (λ (z : History). z.seen x.0) y
      go u f (Sort.raises b) q y = ap (λ (z : History). z.seen x.0) y
      go u f Sort.announces q y =
          ap (λ (z : History). z.seen x.0) y ∙ put_other _ _ _ _ (λ i. omega (arith, (told.ahead x.0 (omega arith)).1))
      go u f (Sort.lowers b) q y = ap (λ (z : History). z.seen x.0) y
      go u f (Sort.fixes b v) q y = ap (λ (z : History). z.seen x.0) y ∙ put_other _ _ _ _ (λ i. u (fixes i))
        where
          fixes : x.0 ≡ b.0 → Fixing x m t'
          fixes i =
              record {
                winner = (local_at m t').op;
                size = v;
                does =
                    record { inside = record { left = a.left; here = refl }; deed = q ∙ ap (λ (c : SnapshotId). Sizes (Fixes c v)) (snapshot_path (sym i)) };
              }
      go u f (Sort.quiet z r) q y = ap (λ (z : History). z.seen x.0) (y ∙ r)

      by_strike : Strikes start (λ (i : Unit {0}). Fixing x) (fixed_of x) (λ (m : Machine). tt) m m' t' → seen_of x m' ≡ seen_of x m
      by_strike (Strikes.strikes y z q) = absurd (omega arith)
      by_strike (Strikes.keeps u z q) = go (u tt) (move_of m t').deed (sort w₀ t o (move_of m t').deed) refl (after start a)

  returned_now : (b : ℕ) → (move_of m t').next ≡ Returns b → returned_of (record { 0 = o }) m' ≡ suc m.clock
  returned_now b x =
      let y : world_of m' a.held' ≡ onward (Returns b) t o w₁ = a.after ∙ ap (λ (nx : Next). onward nx t o w₁) x in
      ap (λ (w : World). w.last o) y ∙ put_same w₁.last o w₁.clock ∙ (act_clock (move_of m t').deed t o w₀).0

  won_before : (x : SnapshotId) (y : OpId) (f : ℕ) → At start s (FixedBy x y) f → Won start T s' m' x y
  won_before x y f z =
      let b = h.won x y f z in
      let i : At start s (Fixing x) f = record { some = z.some; there = z.there; is = z.is.fixing } in
      let k : y.0 ≢ o = λ q. omega (arith, b.returned, ap w₀.last q, a.acting.unreturned) in
      record {
        returned = omega (arith, (a.alone y.0 k).last, b.returned);
        reads =
            subst (λ (g : ℕ → ℕ). Reading start s' y (T + T) g) (sym (seen_kept x (omega (arith, (told.fixings x).only tt f i, z.some))))
            (reading_still start s t y (λ j v q. k (mine_is {x = y} q)) b.reads);
      }

  won_here : (x : SnapshotId) (v : ℕ) → (move_of m t').deed ≡ Sizes (Fixes x v) → SumMove T p (move_of m t')
      → Won start T s' m' x (record { 0 = o })
  won_here x v q (SumMove.keeps n' j c r pe de ne re) = tags_differ (sym q ∙ de) refl refl refl
  won_here x v q (SumMove.lowers n' r de ne rp rq) = tags_differ (sym q ∙ de) refl refl refl
  won_here x v q (SumMove.answers n' b pe ne de) =
      record {
        returned = omega (arith, returned_now b ne);
        reads =
            subst (λ (g : ℕ → ℕ). Reading start s' (record { 0 = o }) (T + T) g) (sym sees)
            (no_read (ap sum_tag q) refl (subst (λ (c : Point). Reading start s (record { 0 = o }) (reach T c) (mine_of t m)) pe old));
      }
    where
      sees : seen_of x m' ≡ mine_of t m
      sees =
          ap (λ (z : History). z.seen x.0) (subst (λ (f : Deed). After start a f) q (after start a))
          ∙ put_same w₀.seen x.0 (w₀.mine t)
  won_here x v q (SumMove.sizes r ne z rp rq) = tags_differ q z refl refl
  won_here x v q (SumMove.sets f z rp rn) = tags_differ q z refl refl

  won_now : (x : SnapshotId) (y : OpId) (f : ℕ) → At start s' (FixedBy x y) f → Won start T s' m' x y
  won_now x y f z = go (at_either start (FixedBy x y) s t z)
    where
      go : ((f ≡ suc (length s)) × FixedBy x y (run_of start s) t') ⊎ At start s (FixedBy x y) f → Won start T s' m' x y
      go (inl i) =
          let b = here (FixedBy x y) i.1 in
          let q = b.fixing.does in
          subst (λ (c : OpId). Won start T s' m' x c) (q.inside.here ∙ b.by) (won_here x b.fixing.size q.deed move)
      go (inr i) = won_before x y f i

  -- ---- What a size took its answer from.

  module _ (x : OpId) (size : (record_at start x).asked.call ≡ Size) where
    no_answer : {k : ℕ} {b : SnapshotId} → sum_tag (move_of m t').deed ≡ k → eqb k 3 ≡ false → eqb k 4 ≡ false → Answer x b m t' → ⊥
    no_answer z i j (Answer.own v y) = tags_differ y.deed z refl i
    no_answer z i j (Answer.shared y) = tags_differ y.deed z refl j

    not_own : {b : SnapshotId} → x.0 ≢ o → Answer x b m t' → ⊥
    not_own k (Answer.own v y) = k (sym (ap (λ (z : OpId). z.0) y.inside.here))
    not_own k (Answer.shared y) = k (sym (ap (λ (z : OpId). z.0) y.inside.here))

    -- an access after which it goes on
    goes : (q : Point) {k : ℕ} → (move_of m t').next ≡ To q → sum_tag (move_of m t').deed ≡ k → eqb k 3 ≡ false → eqb k 4 ≡ false
        → Strikes start (Answer x) (returned_of x) (used_of x) m m' t'
    goes q {k} ne z i j =
        let y : world_of m' a.held' ≡ onward (To q) t o w₁ = a.after ∙ ap (λ (nx : Next). onward nx t o w₁) ne in
        Strikes.keeps (λ b. no_answer z i j)
        (ap (λ (w : World). w.last x.0) y ∙ ap (λ (f : ℕ → ℕ). f x.0) (act_last (move_of m t').deed t o w₀))
        (snapshot_path (ap (λ (w : World). w.used x.0) y ∙ ap (λ (f : ℕ → ℕ). f x.0)
        (used_same (move_of m t').deed t o w₀ (λ r. eqb-false k 3 i (sym z ∙ r)) (λ r. eqb-false k 4 j (sym z ∙ r)))))

    used_is : (b : SnapshotId) → x.0 ≡ o → (act (move_of m t').deed t o w₀).used ≡ put w₀.used o b.0 → used_of x m' ≡ b
    used_is b k q =
        snapshot_path (ap (λ (w : World). w.used x.0) a.after ∙ ap (λ (f : ℕ → ℕ). f x.0) (onward_used (move_of m t').next t o w₁ ∙ q)
        ∙ rw (k, put_same))

    inside : x.0 ≡ o → Inside m t' x
    inside k = record { left = a.left; here = op_path (sym k) }

    answer_own : x.0 ≡ o → SumMove T p (move_of m t') → Strikes start (Answer x) (returned_of x) (used_of x) m m' t'
    answer_own k (SumMove.keeps n' j c q pe de ne re) = goes q ne (ap sum_tag de) refl refl
    answer_own k (SumMove.lowers n' q de ne rp rq) = goes q ne (ap sum_tag de) refl refl
    answer_own k (SumMove.answers n' b pe ne (inl de)) =
        let u = used_is n' k (ap (λ (f : Deed). (act f t o w₀).used) de) in
        Strikes.strikes (subst (λ (c : SnapshotId). Answer x c m t') (sym u) (Answer.own b (record { inside = inside k; deed = de })))
        (ap w₀.last k ∙ a.acting.unreturned) (ap (λ (c : OpId). returned_of c m') (op_path k) ∙ returned_now b ne)
    answer_own k (SumMove.answers n' b pe ne (inr de)) =
        let u = used_is n' k (ap (λ (f : Deed). (act f t o w₀).used) de) in
        Strikes.strikes (subst (λ (c : SnapshotId). Answer x c m t') (sym u) (Answer.shared (record { inside = inside k; deed = de })))
        (ap w₀.last k ∙ a.acting.unreturned) (ap (λ (c : OpId). returned_of c m') (op_path k) ∙ returned_now b ne)
    answer_own k (SumMove.sizes q ne z rp rq) = goes q ne z refl refl
    answer_own k (SumMove.sets f z rp rn) =
        let c : call (world_of m a.held) o ≡ Size = ap (λ (r : Asked). r.call)
        (ap (λ (i : ℕ). (record_of m i).asked) (sym k) ∙ h.asked x.0) ∙ size in
        tests_differ (size_stands_lem T m.clock (world_of m a.held) t o c (point_of m t) (a.before.knows t runs)) f

    answers_now : Strikes start (Answer x) (returned_of x) (used_of x) m m' t'
    answers_now = go (ℕ_discrete x.0 o)
      where
        go : Dec (x.0 ≡ o) → Strikes start (Answer x) (returned_of x) (used_of x) m m' t'
        go (yes k) = answer_own k move
        go (no k) = Strikes.keeps (λ b. not_own k) (a.alone x.0 k).last (snapshot_path (a.alone x.0 k).used)

  summed_acts : Summed start counts T s' m'
  summed_acts =
      record {
        asked = asked_now;
        begun = begun_now;
        reading = reading_now;
        won = won_now;
        answers = λ x c. only_step start (Answer x) (returned_of x) (used_of x) s t m m' e d.clock (answers_now x c) (h.answers x c);
      }

-- ---- An idle step is an access of no operation.

module _ (start : Machine) {counts : List ℕ} {T n : ℕ} {s : List ℕ} {t : ℕ} {m m' : Machine} (e : m ≡ run_of start s)
    (d : Sound T counts s m)
    (h : Summed start counts T s m) (a : Idles T n m t m') where
  abbrev i' : ThreadId
  i' = record { 0 = t }

  abbrev l' : List ℕ
  l' = s ++ t ∷ []

  none : {A : Type 0} {x : OpId} {f : Deed} → Does x f (run_of start s) i' → A
  none {A} {x} {f} y = absurd (omega (arith, a.none, (subst (λ (z : Machine). Does x f z i') (sym e) y).inside.left))

  before : (x : OpId) (f : Deed) (k : ℕ) → At start l' (Does x f) k → At start s (Does x f) k
  before x f k y = go (at_either start (Does x f) s t y)
    where
      go : ((k ≡ suc (length s)) × Does x f (run_of start s) i') ⊎ At start s (Does x f) k → At start s (Does x f) k
      go (inl z) = none z.1
      go (inr z) = z

  reading_idle : (q : ℕ) → q < T → op_of m' q < ops_before counts (suc q)
      → Reading start l' (record { 0 = op_of m' q }) (reach T (point_of m' q)) (mine_of q m')
  reading_idle q ql l =
      let i : op_of m' q ≡ op_of m q = ap (λ (w : World). w.op q) a.after in
      let y = reading_still start s t (record { 0 = op_of m q }) (λ j v z. none z) (h.reading q ql (omega arith)) in
      subst (λ (b : ℕ). Reading start l' (record { 0 = b }) (reach T (point_of m' q)) (mine_of q m')) (sym i)
      (subst (λ (b : Point). Reading start l' (record { 0 = op_of m q }) (reach T b) (mine_of q m')) (sym (ap (λ (w : World). w.point q) a.after))
      (subst (λ (g : ℕ → ℕ). Reading start l' (record { 0 = op_of m q }) (reach T (point_of m q)) g) (sym (ap (λ (w : World). w.mine q) a.after)) y))

  won_idle : (x : SnapshotId) (y : OpId) (f : ℕ) → At start l' (FixedBy x y) f → Won start T l' m' x y
  won_idle x y f z = go (at_either start (FixedBy x y) s t z)
    where
      go : ((f ≡ suc (length s)) × FixedBy x y (run_of start s) i') ⊎ At start s (FixedBy x y) f → Won start T l' m' x y
      go (inl i) = none i.1.fixing.does
      go (inr i) =
          let b = h.won x y f i in
          record {
            returned = omega (arith, ap (λ (w : World). w.last y.0) a.after, b.returned);
            reads =
                subst (λ (g : ℕ → ℕ). Reading start l' y (T + T) g) (sym (ap (λ (w : World). w.seen x.0) a.after))
                (reading_still start s t y (λ j v q. none q) b.reads);
          }

  answers_idle : (x : OpId) → Strikes start (Answer x) (returned_of x) (used_of x) m m' i'
  answers_idle x =
      Strikes.keeps (λ b. no_answer) (ap (λ (w : World). w.last x.0) a.after)
      (snapshot_path (ap (λ (w : World). w.used x.0) a.after))
    where
      no_answer : {b : SnapshotId} → Answer x b m i' → ⊥
      no_answer (Answer.own v y) = omega (arith, a.none, y.inside.left)
      no_answer (Answer.shared y) = omega (arith, a.none, y.inside.left)

  summed_idles : Summed start counts T l' m'
  summed_idles =
      record {
        asked = λ q. ap (λ (w : World). w.asked q) a.after ∙ h.asked q;
        begun = λ x f k y. omega (arith, ap (λ (w : World). w.first x.0) a.after, h.begun x f k (before x f k y));
        reading = reading_idle;
        won = won_idle;
        answers = λ x c. only_step start (Answer x) (returned_of x) (used_of x) s t m m' e d.clock (answers_idle x) (h.answers x c);
      }

-- ---- Every run.

none_yet : {A : Type 0} {start : Machine} {E : Event} {k : ℕ} → At start [] E k → A
none_yet a = absurd (omega (arith, a.some, a.there))

module _ (threads keys : ℕ) (counts ops schedule : List ℕ) (within : Within threads keys counts ops schedule) where
  abbrev start : Machine
  start = start_of threads keys counts ops

  abbrev Known : List ℕ → Machine → Type 0
  Known s m = Told start s m × Summed start counts threads s m

  known_step : (s : List ℕ) (t : ℕ) (m m' : Machine) → m ≡ run_of start s → t < threads → Sound threads counts s m
      → Acts threads (length ops) m t m' ⊎ Idles threads (length ops) m t m' → Known s m → Known (s ++ t ∷ []) m'
  known_step s t m m' e l d (inl a) h =
      (told_step threads keys counts ops schedule within s t m m' e d.clock (inl a) h.0, summed_acts start e within.at_most_threads l d h.0 h.1 a)
  known_step s t m m' e l d (inr a) h =
      (told_step threads keys counts ops schedule within s t m m' e d.clock (inr a) h.0, summed_idles start e d h.1 a)

  start_idle : (t : ℕ) → point_of start t ≡ Idle
  unfolding start_of
  start_idle t = start_point threads keys counts ops t

  summed_start : Summed start counts threads [] start
  summed_start =
      record {
        asked = λ q. refl;
        begun = λ x f k y. none_yet y;
        reading =
            λ t l i. subst (λ (b : Point). Reading start [] (record { 0 = op_of start t }) (reach threads b) (mine_of t start))
            (sym (start_idle t)) (reading_none (λ j v k y. none_yet y));
        won = λ x y f z. none_yet z;
        answers =
            λ x c. only_start start (Answer x) (returned_of x) (used_of x)
            (start_records threads keys counts ops (λ (r : Record). r.outcome.last ≡ 0) refl (λ t b. refl) x.0);
      }

  -- the events of the run are what records and traces tell
  pub known_run : Told start schedule (run_of start schedule) × Summed start counts threads schedule (run_of start schedule)
  known_run =
      run_world threads keys counts ops schedule within Known known_step
      (told_start threads keys counts ops schedule within, summed_start)
