-- An access that ends an update of the metadata ends one that began, and the report is true exactly when one of the update's own steps
-- raised the counter: for every run within the limits.
use Prim.Native.Nat.{ℕ, zero, suc, ◌+◌, ◌-◌, ◌≤◌, ◌<◌}
use mathlib.Core.Path.{◌≡◌, refl, sym, ap, ◌∙◌, subst}
use mathlib.Core.Logic.{◌≢◌, ◌⊎◌, inl, inr, ◌↔◌}
use mathlib.Core.Bool.{Bool, true, ◌||◌}
use mathlib.Core.List.{List}
use native.Mathlib.Omega.{arith}
use native.Mathlib.Decide.{ℕ_discrete, dec_lt}
use lib.ListN.{length, get_or, take, drop, length-append, take-append-drop, get_or-append}
use lib.Seq.{take-suc}
use Rattle.history.proofs.Split.{or_second}
use Rattle.terms.specs.declared.ThreadId.{ThreadId}
use Rattle.figures.specs.declared.Sight.{Sight}
use Rattle.figures.specs.declared.UpdatePoint.{UpdatePoint}
use Rattle.figures.specs.declared.UpdatePoint.TheVariants.{ReadCount}
use Rattle.figures.specs.declared.UpdateDeed.{UpdateDeed}
use Rattle.figures.specs.declared.UpdateDeed.TheVariants.{Raises}
use Rattle.figures.specs.declared.Update.{Update}
use Rattle.figures.specs.declared.After.{After}
use Rattle.figures.specs.declared.Point.{Point}
use Rattle.figures.specs.declared.Point.TheVariants.{Idle, Updating}
use Rattle.figures.specs.declared.Deed.TheVariants.{Updates}
use Rattle.figures.specs.declared.Move.{Move}
use Rattle.figures.specs.declared.Machine.{Machine}
use Rattle.figures.specs.Figure4.{count_at, sight_of}
use Rattle.figures.specs.Figure5.{update_looks_at}
use Rattle.figures.specs.Figure3.{cell_of}
use Rattle.figures.specs.Step.{local_at, move_of, accessed, step_of, run_of}
use Rattle.figures.specs.Start.{start_of}
use Rattle.figures.specs.Counts.{Within, state_before}
use Rattle.figures.specs.Events.{Raising, At}
use Rattle.figures.specs.MetadataUpdates.{By, Access, update_move, Begins, Goes, Ends, MetadataUpdate}
use Rattle.figures.specs.Raisers.{RaisedWithin, Reports}
use Rattle.figures.proofs.Laws.{or_first}
use Rattle.figures.proofs.Runs.{run_snoc, step_case, acting}
use Rattle.figures.proofs.Frame.{point_after, Went, went}
use Rattle.figures.proofs.Begin.{before_grows, start_point}
use Rattle.figures.proofs.Limited.{limited_run}
use Rattle.figures.proofs.Sound.{Sound, sound_run, few_ops}
use Rattle.figures.proofs.UpdateMoves.{so_far, report_of, is_raising, or_case, raising_is, raises_below, carries, move_is, same_point, next_tells, Later, first_or_later, first_later, ends_later, Source, move_source, enters, inside}

-- ---- The states of a run.

module _ (threads keys : ℕ) (counts ops schedule : List ℕ) (within : Within threads keys counts ops schedule) where
  abbrev start : Machine
  start = start_of threads keys counts ops

  abbrev before : ℕ → Machine
  before s = state_before start schedule s

  abbrev by : ℕ → ThreadId
  by s = record { 0 = get_or schedule (s - 1) 0 }

  -- where thread t stands before step s, and that it has an operation left
  abbrev point_at : ℕ → ThreadId → Point
  point_at s t = (local_at (before s) t).point

  abbrev Left : ℕ → ThreadId → Type 0
  Left s t = (local_at (before s) t).op.0 < (local_at (before s) t).end.0

  whole_length : (k : ℕ) → length (take k schedule) + length (drop k schedule) ≡ length schedule
  whole_length k = sym (length-append (take k schedule) (drop k schedule)) ∙ ap length (take-append-drop k schedule)

  pub within_take : (k : ℕ) → Within threads keys counts ops (take k schedule)
  within_take k =
      record {
        some_threads = within.some_threads;
        at_most_threads = within.at_most_threads;
        some_keys = within.some_keys;
        at_most_keys = within.at_most_keys;
        counted = within.counted;
        absent = within.absent;
        operations = within.operations;
        at_most_operations = within.at_most_operations;
        bytes = within.bytes;
        keyed = within.keyed;
        at_most_steps = omega (arith, within.at_most_steps, whole_length k);
        steps = λ s h.
            let e : get_or schedule s 0 ≡ get_or (take k schedule) s 0 =
            ap (λ (l : List ℕ). get_or l s 0) (sym (take-append-drop k schedule))
            ∙ get_or-append (take k schedule) (drop k schedule) 0 s h in
            omega (arith, within.steps s (omega (arith, whole_length k)));
      }

  pub sound_before : (s : ℕ) → Sound threads counts (take (s - 1) schedule) (before s)
  sound_before s = sound_run threads keys counts ops (take (s - 1) schedule) (within_take (s - 1))

  pub step_at : (s : ℕ) → 0 < s → s ≤ length schedule → before (suc s) ≡ step_of (before s) (by s)
  step_at s h l =
      let e : suc s - 1 ≡ suc (s - 1) = omega arith in
      ap (λ (k : ℕ). run_of start (take k schedule)) e
      ∙ ap (run_of start) (take-suc schedule (s - 1) 0 (omega arith)) ∙ run_snoc start (take (s - 1) schedule) (get_or schedule (s - 1) 0)

  went_at : (s : ℕ) (t : ThreadId) → Left s t → Went t (move_of (before s) t).next (before s) (accessed (before s) t)
  went_at s t l =
      let d = sound_before s in
      let tl : t.0 < 8 = omega (arith, acting (before s) t l, d.shape.locals) in
      let b = before_grows counts (suc t.0) 8 tl in
      went (before s) t d.shape tl (omega (arith, d.owners.ends t.0 tl, few_ops threads keys counts ops schedule within))

  -- another's step leaves a thread where it stands
  pub others_step : (s : ℕ) (t : ThreadId) → 0 < s → s ≤ length schedule → get_or schedule (s - 1) 0 ≢ t.0 → point_at (suc s) t ≡ point_at s t
  others_step s t h l n =
      ap (λ (m : Machine). (local_at m t).point) (step_at s h l)
      ∙ step_case (λ (m : Machine). (local_at m t).point ≡ point_at s t) (before s) (by s)
      (λ a. (went_at s (by s) a).point t.0 (λ e. n (sym e))) (λ i. refl)

  -- its own leads on
  pub own_step : (s : ℕ) (t : ThreadId) → 0 < s → s ≤ length schedule → get_or schedule (s - 1) 0 ≡ t.0 → Left s t
      → point_at (suc s) t ≡ point_after (move_of (before s) t).next
  own_step s t h l e a =
      let b : by s ≡ t = λ i. record { 0 = e i } in
      ap (λ (m : Machine). (local_at m t).point) (step_at s h l ∙ ap (step_of (before s)) b)
      ∙ step_case (λ (m : Machine). (local_at m t).point ≡ point_after (move_of (before s) t).next) (before s) t
      (λ i. (went_at s t i).here) (λ i. absurd (omega arith))

  -- or leaves it where it stands, if no operation is left
  pub idle_step : (s : ℕ) (t : ThreadId) → 0 < s → s ≤ length schedule → get_or schedule (s - 1) 0 ≡ t.0
      → (Left s t → ⊥) → point_at (suc s) t ≡ point_at s t
  idle_step s t h l e n =
      let b : by s ≡ t = λ i. record { 0 = e i } in
      ap (λ (m : Machine). (local_at m t).point) (step_at s h l ∙ ap (step_of (before s)) b)
      ∙ step_case (λ (m : Machine). (local_at m t).point ≡ point_at s t) (before s) t (λ i. absurd (n i)) (λ i. refl)

  -- ---- One update, from its first access to its last.

  abbrev Raised : ThreadId → Update → ℕ → ℕ → Type 0
  Raised t u from to = RaisedWithin start schedule t u from to

  raised_by_lem : {t : ThreadId} {u : Update} {from to to' : ℕ} (w : Raised t u from to) → w.step ≤ to' → Raised t u from to'
  raised_by_lem w e = record { step = w.step; late = w.late; early = e; raising = w.raising }

  -- what is told after an access is whether the update's steps up to it raised the counter
  module _ (t : ThreadId) (u : Update) (a : After) (from s : ℕ) (p : UpdatePoint) (x : Access u a p (before s) t)
      (h : 0 < s) (l : s ≤ length schedule) (e : get_or schedule (s - 1) 0 ≡ t.0) (f : from ≤ s) where
    abbrev named : by s ≡ t
    named = λ i. record { 0 = e i }

    deed_is : (move_of (before s) t).deed ≡ Updates (update_move u p (before s)).deed u
    deed_is = ap (λ (v : Move). v.deed) (move_is (before s) t u a p x.stands)

    -- the exchange found the counter one below the target, which is not 0
    below_now : (update_move u p (before s)).deed ≡ Raises → count_at (before s).calculator.counters (cell_of u) + 1 ≡ u.node.note.1.0
    below_now q =
        let i = (limited_run threads keys counts ops (take (s - 1) schedule) (within_take (s - 1))).within.points t in
        omega (arith, raises_below u.node.note.1 _ p q, (rw x.stands at i).1.target.some)

    raising_now : (update_move u p (before s)).deed ≡ Raises → At start schedule (By t (Raising u.node.op)) s
    raising_now q =
        let y : Raising u.node.op (before s) t =
        record {
          by = (local_at (before s) t).op;
          update = u;
          does = record { inside = record { left = x.left; here = refl }; deed = deed_is ∙ ap (λ (d : UpdateDeed). Updates d u) q };
          own = refl;
          below = below_now q;
        } in
        record { some = h; there = l; is = record { thread = named; is = subst (Raising u.node.op (before s)) (sym named) y } }

    raised_now : Raising u.node.op (before s) t → (update_move u p (before s)).deed ≡ Raises
    raised_now y = let q = sym deed_is ∙ y.does.deed in cc

    told_only : (so_far p ≡ true → Raised t u from (s - 1)) → report_of (update_move u p (before s)).next ≡ true → Raised t u from s
    told_only k q =
        or_case (so_far p) (is_raising (update_move u p (before s)).deed) (sym (carries u.node.note.1 _ p) ∙ q)
        (λ i. let w = k i in raised_by_lem w (omega (arith, w.early)))
        (λ i. record { step = s; late = f; early = omega arith; raising = raising_now (raising_is _ i) })

    told_if : (Raised t u from (s - 1) → so_far p ≡ true) → Raised t u from s → report_of (update_move u p (before s)).next ≡ true
    told_if k w = carries u.node.note.1 _ p ∙ go (ℕ_discrete w.step s)
      where
        go : Dec (w.step ≡ s) → (so_far p || is_raising (update_move u p (before s)).deed) ≡ true
        go (yes i) =
            let y = rw i at w.raising in
            or_second (so_far p) (ap is_raising (raised_now (subst (Raising u.node.op (before s)) y.is.thread y.is.is)))
        go (no n) = or_first _ (k (raised_by_lem w (omega (arith, w.early))))

  module _ (t : ThreadId) (u : Update) (from to : ℕ) (raised : Bool) (x : MetadataUpdate start schedule t u from to raised) where
    -- t stands in the update before each step from the first to the last: at the last it does, and others' steps leave it there
    record Stands (s : ℕ) : Type 0 where
      point : UpdatePoint
      stands : point_at s t ≡ Updating point u x.after

    last_access : Ends u x.after raised (before to) t
    last_access = subst (Ends u x.after raised (before to)) x.ends.is.thread x.ends.is.is

    stands_back : (s : ℕ) → from ≤ s → s < to → Stands (suc s) → Stands s
    stands_back s f l y = go (ℕ_discrete (get_or schedule (s - 1) 0) t.0)
      where
        go : Dec (get_or schedule (s - 1) 0 ≡ t.0) → Stands s
        go (yes i) = let z = x.goes s f (omega arith) i in record { point = z.point; stands = z.access.stands }
        go (no n) =
            let e = others_step s t (omega (arith, x.begins.some)) (omega (arith, x.ends.there)) n in
            record { point = y.point; stands = sym e ∙ y.stands }

    stands_at_lem : (left s : ℕ) → left + s ≡ to → from ≤ s → Stands s
    stands_at_lem zero s e f =
        let i : to ≡ s = omega arith in
        let y = last_access in
        subst Stands i (record { point = y.point; stands = y.access.stands })
    stands_at_lem (suc left) s e f = stands_back s f (omega arith) (stands_at_lem left (suc s) (omega arith) (omega arith))

    -- and its point tells whether its steps so far raised the counter
    record Tells (s : ℕ) : Type 0 where
      point : UpdatePoint
      stands : point_at s t ≡ Updating point u x.after
      only : so_far point ≡ true → Raised t u from (s - 1)
      if : Raised t u from (s - 1) → so_far point ≡ true

    tells_first : Tells from
    tells_first =
        let y = x.begins in
        record {
          point = ReadCount;
          stands = subst (λ (t' : ThreadId). point_at from t' ≡ Updating ReadCount u x.after) y.is.thread y.is.is.stands;
          only = λ e. let z : ◌≡◌ {A = ℕ} 0 1 = cc in absurd (omega arith);
          if = λ w. absurd (omega (arith, w.late, w.early, y.some));
        }

    tells_next : (s : ℕ) → from ≤ s → s < to → Tells s → Stands (suc s) → Tells (suc s)
    tells_next s f l k y = go (ℕ_discrete (get_or schedule (s - 1) 0) t.0)
      where
        some : 0 < s
        some = omega (arith, x.begins.some)

        there : s ≤ length schedule
        there = omega (arith, x.ends.there)

        last : suc s - 1 ≡ s
        last = omega arith

        go : Dec (get_or schedule (s - 1) 0 ≡ t.0) → Tells (suc s)
        go (yes i) =
            let z = (x.goes s f (omega arith) i).access in
            let c : Access u x.after k.point (before s) t = record { left = z.left; stands = k.stands } in
            let v = (update_move u k.point (before s)).next in
            let j = move_is (before s) t u x.after k.point k.stands in
            let n = own_step s t some there i z.left ∙ ap (λ (y : Move). point_after y.next) j in
            let q : so_far y.point ≡ report_of v = next_tells v u x.after (sym n ∙ y.stands) in
            record {
              point = y.point;
              stands = y.stands;
              only = λ e. rw last (told_only t u x.after from s k.point c some there i f k.only (sym q ∙ e));
              if = λ w. q ∙ told_if t u x.after from s k.point c some there i f k.if (rw last at w);
            }
        go (no n) =
            record {
              point = k.point;
              stands = others_step s t some there n ∙ k.stands;
              only = λ e. let w = k.only e in raised_by_lem w (omega (arith, w.early));
              if = λ w. k.if (raised_by_lem w (before_now w (ℕ_discrete w.step s)));
            }
          where
            before_now : (w : Raised t u from (suc s - 1)) → Dec (w.step ≡ s) → w.step ≤ s - 1
            before_now w (yes i) = absurd (n (ap (λ (j : ThreadId). j.0) (rw i at w.raising.is.thread)))
            before_now w (no i) = omega (arith, w.early)

    tells_at : (some s : ℕ) → some + from ≡ s → s ≤ to → Tells s
    tells_at zero s e l = subst Tells (omega arith) tells_first
    tells_at (suc some) s e l =
        subst Tells (omega arith)
        (tells_next (s - 1) (omega arith) (omega arith) (tells_at some (s - 1) (omega arith) (omega arith))
        (stands_at_lem (to - s) (suc (s - 1)) (omega arith) (omega arith)))

    honest : (raised ≡ true) ↔ Raised t u from to
    honest =
        let k = tells_at (to - from) to (omega (arith, x.order)) (omega arith) in
        let y = last_access in
        let c : Access u x.after k.point (before to) t = record { left = y.access.left; stands = k.stands } in
        let q : report_of (update_move u k.point (before to)).next ≡ raised =
        ap (λ (p : UpdatePoint). report_of (update_move u p (before to)).next) (same_point k.stands y.access.stands)
        ∙ ap report_of y.reports in
        let e = ap (λ (j : ThreadId). j.0) x.ends.is.thread in
        let f : from ≤ to = omega (arith, x.order) in (
          λ i. told_only t u x.after from to k.point c x.ends.some x.ends.there e f k.only (q ∙ i),
          λ w. sym q ∙ told_if t u x.after from to k.point c x.ends.some x.ends.there e f k.if w,
        )

  -- ---- An update that ends began.

  module _ (t : ThreadId) where
    -- where t stands past the first access of an update, that was at a step from which on each step of t was one of it
    record Begun (u : Update) (a : After) (s : ℕ) : Type 0 where
      from : ℕ
      begins : At start schedule (By t (Begins u a)) from
      order : from < s
      goes : (k : ℕ) → from ≤ k → k < s → get_or schedule (k - 1) 0 ≡ t.0 → Goes u a (before k) t

    abbrev Known : ℕ → Type 0
    Known s = (p : UpdatePoint) (u : Update) (a : After) → Later p → point_at s t ≡ Updating p u a → Begun u a s

    known_next : (s : ℕ) → 0 < s → s ≤ length schedule → Known s → Known (suc s)
    known_next s h l k p u a lt e = go (ℕ_discrete (get_or schedule (s - 1) 0) t.0)
      where
        -- its step, from an access of the update
        on : get_or schedule (s - 1) 0 ≡ t.0 → (q : UpdatePoint) → Access u a q (before s) t → (q ≡ ReadCount) ⊎ Later q → Begun u a (suc s)
        on i q c (inl f) =
            let b : by s ≡ t = λ j. record { 0 = i j } in
            record {
              from = s;
              begins = record { some = h; there = l; is = record { thread = b; is = subst (Begins u a (before s)) (sym b) (rw f at c) } };
              order = omega arith;
              goes = λ n x y z.
                  let j : s ≡ n = omega arith in
                  subst (λ (n : ℕ). Goes u a (before n) t) j (record { point = q; access = c });
            }
        on i q c (inr f) =
            let b = k q u a f c.stands in
            record { from = b.from; begins = b.begins; order = omega (arith, b.order); goes = λ n x y z. now b n x (ℕ_discrete n s) z y }
          where
            now : (b : Begun u a s) (n : ℕ) → b.from ≤ n → Dec (n ≡ s) → get_or schedule (n - 1) 0 ≡ t.0 → n < suc s → Goes u a (before n) t
            now b n x (yes j) z y = subst (λ (n : ℕ). Goes u a (before n) t) (sym j) (record { point = q; access = c })
            now b n x (no j) z y = b.goes n x (omega arith) z

        -- it has an operation left, so the step is no idle one
        moving : point_at s t ≡ Updating p u a → get_or schedule (s - 1) 0 ≡ t.0 → Left s t
        moving f i =
            let tl : t.0 < 8 = omega (arith, within.steps (s - 1) (omega arith), within.at_most_threads) in
            ((sound_before s).owners.begun t.0 tl (rw f tt)).0

        came : get_or schedule (s - 1) 0 ≡ t.0 → (y : Left s t) → Source (point_at s t) (move_of (before s) t).next
            → Begun u a (suc s)
        came i y (enters f) = absurd (first_later (rw (sym (own_step s t h l i y) ∙ e) at f) lt)
        came i y (inside q v b f g) =
            let j = g p u a (sym (own_step s t h l i y) ∙ e) in
            on i q (record { left = y; stands = f ∙ λ x. Updating q (j.0 x) (j.1 x) }) (first_or_later q)

        acted : get_or schedule (s - 1) 0 ≡ t.0 → Dec (Left s t) → Begun u a (suc s)
        acted i (yes y) = came i y (move_source (before s) t)
        acted i (no n) = absurd (n (moving (sym (idle_step s t h l i n) ∙ e) i))

        go : Dec (get_or schedule (s - 1) 0 ≡ t.0) → Begun u a (suc s)
        go (yes i) = acted i (dec_lt (local_at (before s) t).op.0 (local_at (before s) t).end.0)
        go (no n) =
            let b = k p u a lt (sym (others_step s t h l n) ∙ e) in
            record {
              from = b.from;
              begins = b.begins;
              order = omega (arith, b.order);
              goes = λ j x y z. earlier b j x y z (ℕ_discrete j s);
            }
          where
            earlier : (b : Begun u a s) (j : ℕ) → b.from ≤ j → j < suc s → get_or schedule (j - 1) 0 ≡ t.0 → Dec (j ≡ s)
                → Goes u a (before j) t
            earlier b j x y z (yes i) = absurd (n (rw i at z))
            earlier b j x y z (no i) = b.goes j x (omega arith) z

    known_at : (s : ℕ) → s ≤ length schedule → Known (suc s)
    unfolding run_of
    known_at zero l = λ p u a lt e.
        let i : Idle ≡ Updating p u a = sym (start_point threads keys counts ops t.0) ∙ e in
        let z : ◌≡◌ {A = ℕ} 0 1 = cc in
        absurd (omega arith)
    known_at (suc s) l = known_next (suc s) (omega arith) l (known_at s (omega arith))

  whole : (t : ThreadId) (u : Update) (a : After) (to : ℕ) (raised : Bool) → At start schedule (By t (Ends u a raised)) to
      → (from : ℕ) × MetadataUpdate start schedule t u from to raised
  whole t u a to raised x =
      let b = begun in
      (b.from, record { after = a; begins = b.begins; order = b.order; goes = λ s f l i. go s f l i (ℕ_discrete s to); ends = x })
    where
      last : Ends u a raised (before to) t
      last = subst (Ends u a raised (before to)) x.is.thread x.is.is

      seen : Sight
      seen = sight_of (before to).calculator (update_looks_at last.point) (cell_of u)

      begun : Begun t u a to
      begun =
          subst (Known t) (omega (arith, x.some)) (known_at t (to - 1) (omega (arith, x.there)))
          last.point u a (ends_later last.point u.node.note.1 seen last.reports) last.access.stands

      go : (s : ℕ) → begun.from ≤ s → s ≤ to → get_or schedule (s - 1) 0 ≡ t.0 → Dec (s ≡ to) → Goes u a (before s) t
      go s f l i (yes j) = subst (λ (k : ℕ). Goes u a (before k) t) (sym j) (record { point = last.point; access = last.access })
      go s f l i (no j) = begun.goes s f (omega arith) i

  pub reports_run : Reports start schedule
  reports_run = record { whole = whole; honest = honest }
