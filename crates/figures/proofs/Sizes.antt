-- Over runs: the own steps of sizes, and the snapshots announced, at most one by each size.
use Prim.Native.Nat.{ℕ, zero, suc, ◌+◌, ◌*◌, ◌≤◌, ◌<◌}
use mathlib.Core.Path.{◌≡◌, refl, sym, ap, ◌∙◌, subst}
use mathlib.Core.Logic.{◌≢◌}
use mathlib.Core.Bool.{Bool, true, false, cond}
use mathlib.Core.List.{List, [], ◌∷◌, ◌++◌}
use native.Mathlib.Omega.{arith}
use native.Mathlib.Decide.{ℕ_discrete, dec_lt}
use lib.Dec.{eqb, leb}
use borrow.Author.Tests.{le-leb, lt-leb, leb-true}
use Rattle.history.proofs.Turns.{owned_apart}
use Rattle.terms.specs.declared.ThreadId.{ThreadId}
use Rattle.terms.specs.declared.OpId.{OpId}
use Rattle.figures.specs.declared.Counts.{Counts}
use Rattle.figures.specs.declared.Sight.{Sight}
use Rattle.figures.specs.declared.UpdateDeed.{UpdateDeed}
use Rattle.figures.specs.declared.UpdateDeed.TheVariants.{Reads, Raises, Forwards}
use Rattle.figures.specs.declared.SizePoint.{SizePoint}
use Rattle.figures.specs.declared.SizePoint.TheVariants.{FindCurrent, FindFlag, Announce, CollectCount, CollectCell, CollectSet, LowerFlag, SumCell, FixSize}
use Rattle.figures.specs.declared.SizeDeed.{SizeDeed}
use Rattle.figures.specs.declared.SizeDeed.TheVariants.{Looks, Announces, Collects, Lowers, Keeps, Fixes, Shares}
use Rattle.figures.specs.declared.SizeMove.{SizeMove}
use Rattle.figures.specs.declared.Node.{Node}
use Rattle.figures.specs.declared.Content.{Content}
use Rattle.figures.specs.declared.Content.TheVariants.{Empty, Live, Marked}
use Rattle.figures.specs.declared.Call.{Call}
use Rattle.figures.specs.declared.Call.TheVariants.{Size}
use Rattle.figures.specs.declared.Update.{Update}
use Rattle.figures.specs.declared.Point.{Point}
use Rattle.figures.specs.declared.Point.TheVariants.{Idle, ReadSlot, Updating, CountInsertions, Link, HelpUnlink, CountDeletions, Mark, Unlink, Sizing}
use Rattle.figures.specs.declared.Deed.{Deed}
use Rattle.figures.specs.declared.Deed.TheVariants.{Rests, Finds, Links, Marks, Unlinks, Updates, Sizes}
use Rattle.figures.specs.declared.Next.{Next}
use Rattle.figures.specs.declared.Next.TheVariants.{To, Returns}
use Rattle.figures.specs.declared.Move.{Move}
use Rattle.figures.specs.declared.Outcome.{Outcome}
use Rattle.figures.specs.declared.Asked.{Asked}
use Rattle.figures.specs.declared.Record.{Record}
use Rattle.figures.specs.declared.Machine.{Machine}
use Rattle.figures.specs.Limits.{invalid}
use Rattle.figures.specs.Figure4.{new_id, sight_of}
use Rattle.figures.specs.Figure5.{size_at}
use Rattle.figures.specs.Figure3.{looks_at_cell, looks_at_snapshot, link_found, node_of, is_live, is_marked}
use Rattle.figures.specs.Step.{content_at, local_at, record_at, stands_at, access_of, move_of, does, updates, sizes, goes_on, ticked, accessed, step_of, run_of}
use Rattle.figures.specs.Start.{start_of}
use Rattle.figures.specs.Counts.{ops_before, is_announcing, is_announcement, announces_at, announced_steps, SizeSteps}
use Rattle.figures.proofs.Laws.{cond_both, test_case, tests_differ, more_byte_is}
use Rattle.figures.proofs.Runs.{step_case, acting}
use Rattle.figures.proofs.Frame.{record_of, first_of, last_of, own_of, point_of, op_of, end_of, Went, went, thread_of, Moved}
use Rattle.figures.proofs.Begin.{Owned, before_grows, start_records, start_point}
use Rattle.figures.proofs.Threads.{moved}
use Rattle.figures.proofs.Sound.{Sound}
use Rattle.figures.proofs.OwnSteps.{before_snoc}
use Rattle.figures.proofs.Ranks.{Ranked, Sized-in, ranked_most, Fits, NextFits, fits_access, fits_stands}

abbrev pub call_at : Machine → ℕ → Call
call_at m o = (record_of m o).asked.call

pub record Ranks (counts : List ℕ) (m : Machine) : Type 0 where
  -- where a thread stands fits its operation, and the own steps so far
  pub fits : (t : ℕ) → t < 8 → op_of m t < end_of m t → Fits m.threads (call_at m (op_of m t)) (point_of m t) (own_of m (op_of m t))
  -- a size that returned took so many
  pub sized : (o : ℕ) → o < ops_before counts 8 → call_at m o ≡ Size → 0 < last_of m o → Sized-in m.threads (own_of m o)

fits_along : {n n' : ℕ} {k k' : Call} {p p' : Point} {own own' : ℕ} → n' ≡ n → k' ≡ k → p' ≡ p → own' ≡ own → Fits n k p own → Fits n' k' p' own'
fits_along a b c e f = rw (a, b, c, e) f

sized_along : {n n' : ℕ} {own own' : ℕ} → n' ≡ n → own' ≡ own → Sized-in n own → Sized-in n' own'
sized_along a b f = record { low = omega (arith, f.low); high = omega (arith, f.high) }

module _ (counts : List ℕ) (n : ℕ) (some : 1 ≤ n) (most : n ≤ 8) (s : List ℕ) (m : Machine) (d : Sound n counts s m) (r : Ranks counts m) where
  -- the access that thread t makes fits too
  pub fits_now : (t : ThreadId) → t.0 < 8 → (local_at m t).op.0 < (local_at m t).end.0
      → Fits m.threads (call_at m (local_at m t).op.0) (stands_at (local_at m t).point (call_at m (local_at m t).op.0)) (own_of m (local_at m t).op.0)
  fits_now t tl l =
      fits_stands m.threads (own_of m (local_at m t).op.0) (call_at m (local_at m t).op.0) (local_at m t).point (r.fits t.0 tl l)
      (λ e. d.owners.fresh (local_at m t).op.0 (d.owners.resting t.0 tl l e))

  next_fits : (t : ThreadId) → t.0 < 8 → (local_at m t).op.0 < (local_at m t).end.0
      → NextFits m.threads (call_at m (local_at m t).op.0) (move_of m t).next (suc (own_of m (local_at m t).op.0))
  unfolding move_of
  next_fits t tl l =
      let x = (record_at m (local_at m t).op).asked in
      let p = stands_at (local_at m t).point x.call in
      fits_access m.threads (omega (arith, d.threads)) (omega (arith, d.threads)) t (local_at m t).op (local_at m t).seen
      (sight_of m.calculator (looks_at_snapshot p) (looks_at_cell t p)) (content_at m x.key) (own_of m (local_at m t).op.0) x.call p (fits_now t tl l)

  -- the current operation of another thread is not this one
  module _ (m' : Machine) (t o : ℕ) (tl : t < 8) (at-o : op_of m t ≡ o) (left : o < end_of m t) (w : Moved t o m m') where
    own_owned : Owned counts t o
    own_owned = record { thread = tl; from = omega (arith, d.owners.from t tl); below = omega (arith, d.owners.ends t tl) }

    fits_other : (u : ℕ) → u < 8 → u ≢ t → op_of m' u < end_of m' u → Fits m'.threads (call_at m' (op_of m' u)) (point_of m' u) (own_of m' (op_of m' u))
    fits_other u ul n l =
        let q = w.op u n in
        let z = w.end u in
        let b : op_of m u < end_of m u = omega arith in
        let v : Owned counts u (op_of m u) = record { thread = ul; from = d.owners.from u ul; below = omega (arith, d.owners.ends u ul) } in
        let x = w.other (op_of m u) (owned_apart (before_grows counts) own_owned v n) in
        fits_along w.threads (ap (call_at m') q ∙ ap (λ (a : Asked). a.call) (w.asked (op_of m u))) (w.point u n) (ap (own_of m') q ∙ ap (λ (y : Outcome). y.own) x)
        (r.fits u ul b)

    sized_other : (a : ℕ) → a ≢ o → a < ops_before counts 8 → call_at m' a ≡ Size → 0 < last_of m' a → Sized-in m'.threads (own_of m' a)
    sized_other a n al e l =
        sized_along w.threads (ap (λ (y : Outcome). y.own) (w.other a n))
        (r.sized a al (sym (ap (λ (x : Asked). x.call) (w.asked a)) ∙ e) (subst (λ (x : Outcome). 0 < x.last) (w.other a n) l))

  ranks_went : (m' : Machine) (t : ThreadId) → t.0 < 8 → (local_at m t).op.0 < (local_at m t).end.0 → (v : Next)
      → NextFits m.threads (call_at m (local_at m t).op.0) v (suc (own_of m (local_at m t).op.0)) → Went t v m m' → Moved t.0 (local_at m t).op.0 m m' → Ranks counts m'
  ranks_went m' t tl l (To p) f h w =
      record {
        fits = λ u ul k. here u ul k (ℕ_discrete u t.0);
        sized = λ a al e k. there a al e k (ℕ_discrete a o);
      }
    where
      o : ℕ
      o = (local_at m t).op.0

      at : (local_at m' t).op.0 ≡ (local_at m t).op.0
      at = ap (λ (x : OpId). x.0) h.next

      here : (u : ℕ) → u < 8 → op_of m' u < end_of m' u → Dec (u ≡ t.0) → Fits m'.threads (call_at m' (op_of m' u)) (point_of m' u) (own_of m' (op_of m' u))
      here u ul k (yes e) =
          let q : op_of m' u ≡ o = ap (op_of m') e ∙ at in
          fits_along w.threads (ap (call_at m') q ∙ ap (λ (a : Asked). a.call) (w.asked o)) (ap (point_of m') e ∙ h.here) (ap (own_of m') q ∙ w.own) f
      here u ul k (no n) = fits_other m' t.0 o tl refl l w u ul n k

      there : (a : ℕ) → a < ops_before counts 8 → call_at m' a ≡ Size → 0 < last_of m' a → Dec (a ≡ o) → Sized-in m'.threads (own_of m' a)
      there a al e k (yes q) =
          let z : last_of m o ≡ 0 = d.owners.going t.0 tl l in
          let y : last_of m' a ≡ last_of m o = rw q (ap (λ (x : Outcome). x.last) h.mine) in
          absurd (omega arith)
      there a al e k (no n) = sized_other m' t.0 o tl refl l w a n al e k
  ranks_went m' t tl l (Returns v) f h w =
      record {
        fits = λ u ul k. here u ul k (ℕ_discrete u t.0);
        sized = λ a al e k. there a al e k (ℕ_discrete a o);
      }
    where
      o : ℕ
      o = (local_at m t).op.0

      here : (u : ℕ) → u < 8 → op_of m' u < end_of m' u → Dec (u ≡ t.0) → Fits m'.threads (call_at m' (op_of m' u)) (point_of m' u) (own_of m' (op_of m' u))
      here u ul k (yes e) = subst (λ (p : Point). Fits m'.threads (call_at m' (op_of m' u)) p (own_of m' (op_of m' u))) (sym h.here ∙ ap (point_of m') (sym e)) tt
      here u ul k (no n) = fits_other m' t.0 o tl refl l w u ul n k

      there : (a : ℕ) → a < ops_before counts 8 → call_at m' a ≡ Size → 0 < last_of m' a → Dec (a ≡ o) → Sized-in m'.threads (own_of m' a)
      there a al e k (yes q) =
          sized_along w.threads (ap (own_of m') q ∙ w.own) (f (sym (ap (λ (x : Asked). x.call) (w.asked o)) ∙ ap (call_at m') (sym q) ∙ e))
      there a al e k (no n) = sized_other m' t.0 o tl refl l w a n al e k

  pub ranks_step : ops_before counts 8 ≤ 64 → m.clock < 4096 → (t : ThreadId) → Ranks counts (step_of m t)
  ranks_step few c t = step_case (Ranks counts) m t access (λ l. record { fits = r.fits; sized = r.sized })
    where
      access : (local_at m t).op.0 < (local_at m t).end.0 → Ranks counts (accessed m t)
      access l =
          let tl : t.0 < 8 = omega (arith, acting m t l, d.shape.locals) in
          let b = before_grows counts (suc t.0) 8 tl in
          let e = d.owners.ends t.0 tl in
          ranks_went (accessed m t) t tl l (move_of m t).next (next_fits t tl l) (went m t d.shape tl (omega arith)) (moved counts few m t d.shape c d.owners l)

  -- a size's own steps, in any state
  size_most : (o : ℕ) → o < ops_before counts 8 → call_at m o ≡ Size → own_of m o ≤ 8 * n + 5
  size_most o ol e = go (dec_lt o (op_of m (thread_of m o))) (ℕ_discrete o (op_of m (thread_of m o)))
    where
      w : Owned counts (thread_of m o) o
      w = d.owners.whose o ol

      unbegun_most : first_of m o ≡ 0 → own_of m o ≤ 8 * n + 5
      unbegun_most f = omega (arith, d.owners.fresh o f)

      at : (p : Point) → point_of m (thread_of m o) ≡ p → o ≡ op_of m (thread_of m o) → op_of m (thread_of m o) < end_of m (thread_of m o)
          → Fits m.threads Size p (own_of m o) → own_of m o ≤ 8 * n + 5
      at Idle q a l f = unbegun_most (ap (first_of m) a ∙ d.owners.resting (thread_of m o) w.thread l q)
      at ReadSlot q a l f = absurd (f refl)
      at (Updating p u x) q a l f = absurd (f refl)
      at CountInsertions q a l f = absurd (f refl)
      at (Link c) q a l f = absurd (f refl)
      at (HelpUnlink x y) q a l f = absurd (f refl)
      at (CountDeletions x) q a l f = absurd (f refl)
      at (Mark x c) q a l f = absurd (f refl)
      at (Unlink x y) q a l f = absurd (f refl)
      at (Sizing p) q a l f =
          let z = ranked_most m.threads (omega (arith, d.threads)) (omega (arith, d.threads)) p (own_of m o) f.1 in
          omega (arith, d.threads)

      go : Dec (o < op_of m (thread_of m o)) → Dec (o ≡ op_of m (thread_of m o)) → own_of m o ≤ 8 * n + 5
      go (yes l) q = omega (arith, d.threads, (r.sized o ol e (d.owners.returned (thread_of m o) o w.thread w.from l)).high)
      go (no l) (yes a) =
          let b : op_of m (thread_of m o) < end_of m (thread_of m o) = omega (arith, d.owners.ends (thread_of m o) w.thread, w.below) in
          at (point_of m (thread_of m o)) refl a b (fits_along {p = point_of m (thread_of m o)} refl (sym e ∙ ap (call_at m) a) refl (ap (own_of m) a) (r.fits (thread_of m o) w.thread b))
      go (no l) (no a) =
          unbegun_most (d.owners.unbegun (thread_of m o) o w.thread (omega arith) (omega (arith, d.owners.ends (thread_of m o) w.thread, w.below)))

  pub size_steps : SizeSteps n (ops_before counts 8) m
  size_steps =
      record {
        most = λ o ol e. size_most o.0 ol e;
        least = λ o ol e l. omega (arith, d.threads, (r.sized o.0 ol e l).low);
      }

pub ranks_start : (threads keys : ℕ) (counts ops : List ℕ) → Ranks counts (start_of threads keys counts ops)
ranks_start threads keys counts ops =
    record {
      fits = λ t tl l.
          let m = start_of threads keys counts ops in
          subst (λ (p : Point). Fits m.threads (call_at m (op_of m t)) p (own_of m (op_of m t))) (sym (start_point threads keys counts ops t)) tt;
      sized = λ o ol e l. absurd (omega (arith, start_records threads keys counts ops (λ (r : Record). r.outcome.last ≡ 0) refl (λ u b. refl) o));
    }

-- ---- Announcements.

-- how many numbers below n pass a test
abbrev how_many : (ℕ → Bool) → ℕ → ℕ
how_many f zero = 0
how_many f (suc n) = cond (f n) 1 0 + how_many f n

many_most : (f : ℕ → Bool) (n : ℕ) → how_many f n ≤ n
many_most f zero = omega arith
many_most f (suc n) =
    let h = many_most f n in
    cond_both (λ (x : ℕ). x + how_many f n ≤ suc n) (f n) 1 0 (omega arith) (omega arith)

more_or_same : (f g : Bool) → (f ≡ true → g ≡ true) → ◌≤◌ (cond f 1 0) (cond g 1 0)
more_or_same true g h = rw (h refl) (omega arith)
more_or_same false g h = omega arith

many_grows : (f g : ℕ → Bool) (n : ℕ) → ((i : ℕ) → f i ≡ true → g i ≡ true) → how_many f n ≤ how_many g n
many_grows f g zero h = omega arith
many_grows f g (suc n) h = omega (arith, many_grows f g n h, more_or_same (f n) (g n) (h n))

many_more : (f g : ℕ → Bool) (n o : ℕ) → o < n → f o ≡ false → g o ≡ true → ((i : ℕ) → f i ≡ true → g i ≡ true) → suc (how_many f n) ≤ how_many g n
many_more f g zero o l a b h = absurd (omega arith)
many_more f g (suc n) o l a b h = go (λ k. many_more f g n o k a b h) (ℕ_discrete o n)
  where
    go : (o < n → suc (how_many f n) ≤ how_many g n) → Dec (o ≡ n) → suc (how_many f (suc n)) ≤ how_many g (suc n)
    go k (yes e) =
        let x : ◌≡◌ {A = ℕ} (cond (f n) 1 0) 0 = rw (← e) (rw a) in
        let y : ◌≡◌ {A = ℕ} (cond (g n) 1 0) 1 = rw (← e) (rw b) in
        omega (arith, many_grows f g n h)
    go k (no e) = omega (arith, k (omega arith), more_or_same (f n) (g n) (h n))

-- a size announces in its third own step
module _ (n : ℕ) (t : ThreadId) (o : OpId) (k : Call) (seen : List Counts) (s : Sight) (c : Content) (own : ℕ) where
  third_sizing : (p : SizePoint) → Ranked n p own → is_announcing (size_at p n seen s).deed ≡ true → own ≡ 2
  third_sizing FindCurrent r e = tests_differ e refl
  third_sizing (FindFlag i) r e = tests_differ e refl
  third_sizing (Announce i) r e = omega (arith, r.low, r.high)
  third_sizing (CollectCount i j) r e = tests_differ e refl
  third_sizing (CollectCell i j v) r e = tests_differ e refl
  third_sizing (CollectSet i j v) r e = tests_differ e (cond_both (λ (x : SizeDeed). is_announcing x ≡ false) (eqb s.cell invalid) (Collects i j v) Looks refl refl)
  third_sizing (LowerFlag i) r e = tests_differ e refl
  third_sizing (SumCell i j) r e = tests_differ e refl
  third_sizing (FixSize i) r e = tests_differ e (cond_both (λ (x : SizeMove). is_announcing x.deed ≡ false) (eqb s.size invalid) _ _ refl refl)

  third_link : (a : Node) (x : Content) → is_announcement (link_found a x).deed ≡ false
  third_link a Empty = refl
  third_link a (Live b) = refl
  third_link a (Marked b e) = refl

  third_access : (p : Point) → Fits n k p own → is_announcement (access_of p t o k n seen s c).deed ≡ true → own ≡ 2
  third_access Idle r e = tests_differ e refl
  third_access ReadSlot r e = tests_differ e refl
  third_access (Updating p u a) r e = tests_differ e refl
  third_access CountInsertions r e = tests_differ e refl
  third_access (Link g) r e = tests_differ e (third_link (node_of t g o) c)
  third_access (HelpUnlink a b) r e = tests_differ e (cond_both (λ (x : Deed). is_announcement x ≡ false) (is_marked a b c) Unlinks Rests refl refl)
  third_access (CountDeletions a) r e = tests_differ e refl
  third_access (Mark a g) r e = tests_differ e (cond_both (λ (x : Move). is_announcement x.deed ≡ false) (is_live a c) _ _ refl refl)
  third_access (Unlink a b) r e = tests_differ e (cond_both (λ (x : Deed). is_announcement x ≡ false) (is_marked a b c) Unlinks Rests refl refl)
  third_access (Sizing p) r e = third_sizing p r.1 e

-- what a step leaves as the current snapshot
module _ (t : ThreadId) (o : OpId) (m : Machine) where
  current_updates : (d : UpdateDeed) (u : Update) → (updates d u t m).calculator.current.0 ≡ m.calculator.current.0
  current_updates Reads u = refl
  current_updates Raises u = refl
  current_updates (Forwards n) u = refl

  current_sizes : (d : SizeDeed) → (sizes d t o m).calculator.current.0 ≡ cond (is_announcing d) (new_id m.calculator.current).0 m.calculator.current.0
  current_sizes Looks = refl
  current_sizes Announces = refl
  current_sizes (Collects n j v) = refl
  current_sizes (Lowers n) = refl
  current_sizes (Keeps j v) = refl
  current_sizes (Fixes n v) = refl
  current_sizes (Shares n) = refl

  current_does : (d : Deed) → (does d t o m).calculator.current.0 ≡ cond (is_announcement d) (new_id m.calculator.current).0 m.calculator.current.0
  current_does Rests = refl
  current_does (Finds c) = refl
  current_does (Links n) = refl
  current_does (Marks n d) = refl
  current_does Unlinks = refl
  current_does (Updates d u) = current_updates d u
  current_does (Sizes d) = current_sizes d

  current_goes_on : (n : Next) → (goes_on n t o m).calculator.current.0 ≡ m.calculator.current.0
  current_goes_on (To p) = refl
  current_goes_on (Returns a) = refl

pub current_accessed : (m : Machine) (t : ThreadId)
    → (accessed m t).calculator.current.0 ≡ cond (is_announcement (move_of m t).deed) (new_id m.calculator.current).0 m.calculator.current.0
unfolding accessed
current_accessed m t =
    let o = (local_at m t).op in
    current_goes_on t o (does (move_of m t).deed t o (ticked o m)) (move_of m t).next ∙ current_does t o (ticked o m) (move_of m t).deed

-- each announcement was some operation's third own step
abbrev pub Announced : List ℕ → Machine → Type 0
Announced counts m = m.calculator.current.0 ≤ how_many (λ o. leb 3 (own_of m o)) (ops_before counts 8)

pub current_small : (counts : List ℕ) (m : Machine) → Announced counts m → m.calculator.current.0 ≤ ops_before counts 8
current_small counts m a = omega (arith, many_most (λ o. leb 3 (own_of m o)) (ops_before counts 8))

module _ (counts : List ℕ) (few : ops_before counts 8 ≤ 64) (n : ℕ) (some : 1 ≤ n) (most : n ≤ 8) (s : List ℕ) (m : Machine) (d : Sound n counts s m) (r : Ranks counts m)
    (c : m.clock < 4096) (a : Announced counts m) (t : ThreadId) where
  -- the step's own addition to the count
  module _ (l : (local_at m t).op.0 < (local_at m t).end.0) where
    pub current_counts : (accessed m t).calculator.current.0 ≡ m.calculator.current.0 + cond (is_announcement (move_of m t).deed) 1 0
    current_counts =
        let b = current_small counts m a in
        let f = current_accessed m t in
        let g = more_byte_is m.calculator.current.0 (omega arith) in
        f ∙ test_case (λ (x : Bool). cond x (new_id m.calculator.current).0 m.calculator.current.0 ≡ m.calculator.current.0 + cond x 1 0) (is_announcement (move_of m t).deed)
        (λ e. omega arith) (λ e. omega arith)

    own_third : t.0 < 8 → is_announcement (move_of m t).deed ≡ true → own_of m (local_at m t).op.0 ≡ 2
    unfolding move_of
    own_third tl e =
        let x = (record_at m (local_at m t).op).asked in
        let p = stands_at (local_at m t).point x.call in
        third_access m.threads t (local_at m t).op x.call (local_at m t).seen
        (sight_of m.calculator (looks_at_snapshot p) (looks_at_cell t p)) (content_at m x.key) (own_of m (local_at m t).op.0) p (fits_now counts n some most s m d r t tl l) e

    announced_more : m.calculator.current.0 + cond (is_announcement (move_of m t).deed) 1 0 ≤ how_many (λ o. leb 3 (own_of (accessed m t) o)) (ops_before counts 8)
    announced_more =
        test_case (λ (x : Bool). m.calculator.current.0 + cond x 1 0 ≤ how_many (λ o. leb 3 (own_of (accessed m t) o)) (ops_before counts 8)) (is_announcement (move_of m t).deed)
        third (λ e. omega (arith, many_grows (λ o. leb 3 (own_of m o)) (λ o. leb 3 (own_of (accessed m t) o)) (ops_before counts 8) grows))
      where
        w : Moved t.0 (local_at m t).op.0 m (accessed m t)
        w = moved counts few m t d.shape c d.owners l

        grows : (i : ℕ) → leb 3 (own_of m i) ≡ true → leb 3 (own_of (accessed m t) i) ≡ true
        grows i e = go (ℕ_discrete i (local_at m t).op.0)
          where
            go : Dec (i ≡ (local_at m t).op.0) → leb 3 (own_of (accessed m t) i) ≡ true
            go (yes q) =
                let h = leb-true 3 (own_of m i) e in
                let x : own_of (accessed m t) i ≡ suc (own_of m i) = rw q w.own in
                le-leb 3 (own_of (accessed m t) i) (omega arith)
            go (no k) = ap (λ (x : Outcome). leb 3 x.own) (w.other i k) ∙ e

        third : is_announcement (move_of m t).deed ≡ true → m.calculator.current.0 + 1 ≤ how_many (λ o. leb 3 (own_of (accessed m t) o)) (ops_before counts 8)
        third e =
            let tl : t.0 < 8 = omega (arith, acting m t l, d.shape.locals) in
            let two = own_third tl e in
            let b = before_grows counts (suc t.0) 8 tl in
            let z = d.owners.ends t.0 tl in
            let x = w.own in
            omega (
              arith,
              many_more (λ o. leb 3 (own_of m o)) (λ o. leb 3 (own_of (accessed m t) o)) (ops_before counts 8) (local_at m t).op.0 (omega arith)
                  (lt-leb 3 (own_of m (local_at m t).op.0) (omega arith)) (le-leb 3 (own_of (accessed m t) (local_at m t).op.0) (omega arith)) grows,
            )

  pub announced_step : Announced counts (step_of m t)
  announced_step = step_case (Announced counts) m t (λ l. omega (arith, current_counts l, announced_more l)) (λ l. a)

  pub snapshots_step : (start : Machine) → m ≡ run_of start s → m.calculator.current.0 ≡ announced_steps start s
      → (step_of m t).calculator.current.0 ≡ announced_steps start (s ++ t.0 ∷ [])
  snapshots_step start e h =
      step_case (λ (m' : Machine). m'.calculator.current.0 ≡ announced_steps start (s ++ t.0 ∷ [])) m t
      (λ l.
      let q : ◌≡◌ {A = ℕ} (cond (announces_at (run_of start s) t.0) 1 0) (cond (is_announcement (move_of m t).deed) 1 0) =
      rw (← e) (rw (lt-leb (local_at m t).end.0 (local_at m t).op.0 l)) in
      current_counts l ∙ omega (arith, before_snoc announces_at start s t.0))
      (λ l.
      let q : ◌≡◌ {A = ℕ} (cond (announces_at (run_of start s) t.0) 1 0) 0 = rw (← e) (rw (le-leb (local_at m t).end.0 (local_at m t).op.0 l)) in
      h ∙ omega (arith, before_snoc announces_at start s t.0))

pub announced_start : (threads keys : ℕ) (counts ops : List ℕ) → Announced counts (start_of threads keys counts ops)
unfolding start_of
announced_start threads keys counts ops = omega arith
