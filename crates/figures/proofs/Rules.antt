-- `place_of` gives the place that document 01's rules tell over the run, and they tell no other: for every run within the limits.
use Prim.Native.Nat.{ℕ, suc, ◌≤◌, ◌<◌}
use mathlib.Core.Path.{◌≡◌, refl, sym, ap, ◌∙◌, subst}
use mathlib.Core.Logic.{◌≢◌, ◌↔◌}
use mathlib.Core.Bool.{true, cond}
use mathlib.Core.List.{List}
use native.Mathlib.Omega.{arith}
use native.Mathlib.Decide.{ℕ_discrete, dec_lt}
use lib.ListN.{length}
use lib.Dec.{ltb}
use borrow.Author.Tests.{lt-ltb, le-ltb}
use Rattle.terms.specs.declared.OpId.{OpId}
use Rattle.terms.specs.declared.SnapshotId.{SnapshotId}
use Rattle.terms.specs.declared.Target.{Target}
use Rattle.terms.specs.declared.ThreadId.{ThreadId}
use Rattle.figures.specs.declared.Cell.{Cell}
use Rattle.figures.specs.declared.Asked.{Asked}
use Rattle.figures.specs.declared.Call.{Call}
use Rattle.figures.specs.declared.Call.TheVariants.{Insert, Delete, Contains, Size}
use Rattle.figures.specs.declared.Content.{Content}
use Rattle.figures.specs.declared.Content.TheVariants.{Empty, Live, Marked}
use Rattle.figures.specs.declared.Node.{Node}
use Rattle.figures.specs.declared.SizeDeed.TheVariants.{Fixes, Shares}
use Rattle.figures.specs.declared.Deed.TheVariants.{Finds, Links, Marks, Sizes}
use Rattle.history.specs.declared.Place.{Place}
use Rattle.history.specs.Places.{place, number_of}
use Rattle.history.specs.Courses.{Course}
use Rattle.history.specs.Courses as Courses
use Rattle.history.proofs.Places as Placed
use Rattle.history.proofs.Split.{or_second}
use Rattle.figures.specs.declared.Machine.{Machine}
use Rattle.figures.specs.Step.{record_at, run_of}
use Rattle.figures.specs.Start.{start_of}
use Rattle.figures.specs.Counts.{Within}
use Rattle.figures.specs.Places.{op, listed, own_cell, update_stands, after_stands, finder_stands, place_of, order_of}
use Rattle.figures.specs.Events.{Exchange, Raising, SlotRead, Announcement, Lowering, Fixing, SumRead, Answer, At, First}
use Rattle.figures.specs.Rules.{MadeBy, IsUpdate, Other, Stands, Listed, Before, Agrees}
use Rattle.figures.specs.Rules as Rules
use Rattle.figures.proofs.Laws.{lt_case, or_first}
use Rattle.figures.proofs.World.{World, thr, call, cell_op, no_of, kind_of}
use Rattle.figures.proofs.Inv.{Known, InWindow, FoundSettled, Finder}
use Rattle.figures.proofs.Mirror.{world_of, cell_at, at_no}
use Rattle.figures.proofs.Sound.{sound_run}
use Rattle.figures.proofs.Main.{inv_run}
use Rattle.figures.proofs.PlaceUpdates.{Ended, Missed, standing, standing_case, stands_update, exchange_of, cell_small}
use Rattle.figures.proofs.PlaceStands.{Stand, stand_of, place_of_lem, set_place, unraised_last, unexchanged, update_at_lem}
use Rattle.figures.proofs.Struck.{clash}
use Rattle.figures.proofs.Told.{Told}
use Rattle.figures.proofs.Summed.{Summed, Won, seen_of, used_of, known_run}

-- ---- One step is not two things.

same_target : {o : OpId} {c c' : Target} {m : Machine} {t : ThreadId} → Exchange o c m t → Exchange o c' m t → c ≡ c'
same_target (Exchange.links n x p) (Exchange.links n' x' p') =
    sym p ∙ ap (λ (n : Node). n.note.1) (linked (sym x.deed ∙ x'.deed)) ∙ p'
  where
    linked : {n n' : Node} → Links n ≡ Links n' → n ≡ n'
    linked e = cc
same_target (Exchange.links n x p) (Exchange.marks n' d x' p') = clash x.deed x'.deed refl refl refl
same_target (Exchange.marks n d x p) (Exchange.links n' x' p') = clash x.deed x'.deed refl refl refl
same_target (Exchange.marks n d x p) (Exchange.marks n' d' x' p') =
    sym p ∙ ap (λ (n : Node). n.note.1) (marked (sym x.deed ∙ x'.deed)) ∙ p'
  where
    marked : {n n' d d' : Node} → Marks n d ≡ Marks n' d' → d ≡ d'
    marked e = cc

same_found : {o : OpId} {c c' : Content} {m : Machine} {t : ThreadId} → SlotRead o c m t → SlotRead o c' m t → c ≡ c'
same_found x x' = found (sym x.deed ∙ x'.deed)
  where
    found : {c c' : Content} → Finds c ≡ Finds c' → c ≡ c'
    found e = cc

same_answer : {o : OpId} {n n' : SnapshotId} {m : Machine} {t : ThreadId} → Answer o n m t → Answer o n' m t → n ≡ n'
same_answer (Answer.own v x) (Answer.own v' x') = fixed (sym x.deed ∙ x'.deed)
  where
    fixed : {n n' : SnapshotId} {v v' : ℕ} → Sizes (Fixes n v) ≡ Sizes (Fixes n' v') → n ≡ n'
    fixed e = cc
same_answer (Answer.own v x) (Answer.shared x') = clash x.deed x'.deed refl refl refl
same_answer (Answer.shared x) (Answer.own v x') = clash x.deed x'.deed refl refl refl
same_answer (Answer.shared x) (Answer.shared x') = shared (sym x.deed ∙ x'.deed)
  where
    shared : {n n' : SnapshotId} → Sizes (Shares n) ≡ Sizes (Shares n') → n ≡ n'
    shared e = cc

size? : (c : Call) → Dec (c ≡ Size)
size? Insert = no (λ e. let z : ◌≡◌ {A = ℕ} 0 1 = cc in omega arith)
size? Delete = no (λ e. let z : ◌≡◌ {A = ℕ} 0 1 = cc in omega arith)
size? Contains = no (λ e. let z : ◌≡◌ {A = ℕ} 0 1 = cc in omega arith)
size? Size = yes refl

place_path : {s s' r t t' d d' : ℕ} → s ≡ s' → t ≡ t' → d ≡ d' → place s r t d ≡ place s' r t' d'
place_path {r = r} p q e = λ i. place (p i) r (q i) (e i)

-- ---- The number of a place orders places as document 01 says.

record Small (p : Place) : Type 0 where
  rank : p.rank ≤ 1
  tie : p.tie < 8192
  read : p.read < 8192

module _ (p q : Place) (a : Small p) (b : Small q) where
  number_before : number_of p < number_of q → Before p q
  number_before l = by_step (dec_lt p.step q.step) (ℕ_discrete p.rank q.rank) (ℕ_discrete p.tie q.tie)
    where
      bounds : (p.rank ≤ 1) × (p.tie < 8192) × (p.read < 8192) × (q.rank ≤ 1) × (q.tie < 8192) × (q.read < 8192)
      bounds = (a.rank, a.tie, a.read, b.rank, b.tie, b.read)

      by_step : Dec (p.step < q.step) → Dec (p.rank ≡ q.rank) → Dec (p.tie ≡ q.tie) → Before p q
      by_step (yes h) r t = Before.step h
      by_step (no h) (no r) t = Before.rank (omega (arith, bounds)) (omega (arith, bounds))
      by_step (no h) (yes r) (no t) = Before.tie (omega (arith, bounds)) r (omega (arith, bounds))
      by_step (no h) (yes r) (yes t) = Before.read (omega (arith, bounds)) r t (omega (arith, bounds))

  before_number : Before p q → number_of p < number_of q
  before_number (Before.step h) = omega (arith, a.rank, a.tie, a.read, b.rank, b.tie, b.read)
  before_number (Before.rank s h) = omega (arith, a.rank, a.tie, a.read, b.rank, b.tie, b.read)
  before_number (Before.tie s r h) = omega (arith, a.rank, a.tie, a.read, b.rank, b.tie, b.read)
  before_number (Before.read s r t h) = omega (arith, a.rank, a.tie, a.read, b.rank, b.tie, b.read)

at_small : {c : Course} {s r t d : ℕ} → Placed.At c s r t d → Small c.place
at_small a = subst Small (sym a.here) (record { rank = a.rank; tie = a.tie; read = a.read })

-- ---- The machine m after the run.

module _ {T n : ℕ} {m : Machine} {g : ℕ → ℕ → ℕ} {counts : List ℕ} (i : Ended T n m g counts) (start : Machine) (schedule : List ℕ)
    (told : Told start schedule m) (summed : Summed start counts T schedule m) where
  abbrev w : World
  w = world_of m g

  call_is : (o : ℕ) → (record_at start (op o)).asked.call ≡ call w o
  call_is o = ap (λ (a : Asked). a.call) (sym (summed.asked o))

  -- ---- Snapshots.

  closes : (x : SnapshotId) → 0 < w.closed x.0 → First start schedule (Lowering x) (w.closed x.0)
  closes x l = record { at = (told.lowerings x).told l; least = λ k a. ((told.lowerings x).first tt k a).1 }

  closed_is : (x : SnapshotId) (k : ℕ) → First start schedule (Lowering x) k → (0 < w.closed x.0) × (k ≡ w.closed x.0)
  closed_is x k c =
      let b = (told.lowerings x).first tt k c.at in
      (b.0, omega (arith, b.1, c.least (w.closed x.0) ((told.lowerings x).told b.0)))

  fixes : (x : SnapshotId) → 0 < w.fixed x.0 → First start schedule (Fixing x) (w.fixed x.0)
  fixes x l = record { at = (told.fixings x).told l; least = λ k a. omega (arith, (told.fixings x).only tt k a) }

  won : (x : SnapshotId) (k : ℕ) (f : At start schedule (Fixing x) k) → Won start T schedule m x f.is.winner
  won x k f = summed.won x f.is.winner k (record { some = f.some; there = f.there; is = record { fixing = f.is; by = refl } })

  -- ---- The exception.

  own_no : (u : ℕ) → no_of (own_cell (record_at start (op u))) ≡ cell_op w u
  own_no u = ap (λ (r : Asked). no_of (record { thread = r.thread; kind = kind_of r.call })) (sym (summed.asked u))

  -- an announcement and a raising are not one step
  not_both : {x : SnapshotId} {o : OpId} {k : ℕ} → At start schedule (Announcement x) k → At start schedule (Raising o) k → ⊥
  not_both a b = clash a.is.does.deed b.is.does.deed refl refl refl

  missed_rule : (u : ℕ) → 0 < w.raised u → Missed w u
      → Rules.Missed start schedule (op u) (record_at m (op u)).change.target (w.raised u) (w.closed (w.window u))
  missed_rule u r h =
      let x = (record_at m (op u)).change.window in
      let v = i.core.windows.told u r h.some in
      let c = (i.core.snaps.fixed x.0 v.known (i.core.snaps.valid x.0 v.known h.fixed)).closed in
      let a = (told.announcements x).told (i.core.snaps.announced x.0 v.known).0 in
      let f = fixes x h.fixed in
      let b = (won x (w.fixed x.0) f.at).reads.some (cell_op w u) (cell_small i u r) in
      record {
        snapshot = x;
        announcement = w.ann x.0;
        announced = a;
        after = earlier v.after a;
        closed = closes x c;
        before = v.before c;
        fixing = w.fixed x.0;
        fixed = f;
        value = seen_of x m (cell_op w u);
        reading = b.0;
        read =
            subst (λ (j : Cell). At start schedule (SumRead f.at.is.winner j (seen_of x m (cell_op w u))) b.0)
            (ap cell_at (sym (own_no u)) ∙ at_no (own_cell (record_at start (op u)))) b.1;
        below = h.low;
      }
    where
      earlier : {x : SnapshotId} {k : ℕ} → k ≤ w.raised u → At start schedule (Announcement x) k → k < w.raised u
      earlier {x} {k} l a = go (ℕ_discrete k (w.raised u))
        where
          go : Dec (k ≡ w.raised u) → k < w.raised u
          go (yes e) = absurd (not_both a (subst (λ (y : ℕ). At start schedule (Raising (op u)) y) (sym e) ((told.raisings (op u)).told r)))
          go (no e) = omega arith

  rule_missed : (u closing : ℕ) → 0 < w.raised u
      → Rules.Missed start schedule (op u) (record_at m (op u)).change.target (w.raised u) closing
      → Missed w u × (closing ≡ w.closed (w.window u))
  rule_missed u closing r h =
      let x = h.snapshot in
      let a = (told.announcements x).only tt h.announcement h.announced in
      let c = closed_is x closing h.closed in
      let f = (told.fixings x).only tt h.fixing h.fixed.at in
      let v = ((won x h.fixing h.fixed.at).reads.all (own_cell (record_at start (op u))) h.value h.reading h.read).1 in
      let k : Known w x.0 = record { some = some c.0 (ℕ_discrete x.0 0); there = there (omega (arith, h.announced.some)) (dec_lt w.cur x.0) } in
      let y : InWindow w u x.0 = record { known = k; after = omega (arith, h.after); before = λ l. omega (arith, h.before, c.1) } in
      let e : w.window u ≡ x.0 = i.core.windows.only u x.0 r y in (
        record {
          some = omega (arith, k.some);
          fixed = rw e (omega (arith, h.fixed.at.some));
          low = rw e (subst (λ (q : ℕ). seen_of x m q < w.target u) (own_no u) (rw v h.below));
        },
        c.1 ∙ ap w.closed (sym e),
      )
    where
      some : {y : ℕ} → 0 < w.closed y → Dec (y ≡ 0) → 0 < y
      some {y} l (yes e) = absurd (omega (arith, ap w.closed e, i.core.snaps.none_closed))
      some {y} l (no e) = omega arith

      there : {y : ℕ} → 0 < w.ann y → Dec (w.cur < y) → y ≤ w.cur
      there {y} l (yes e) = absurd (omega (arith, (told.ahead y e).0))
      there {y} l (no e) = omega arith

  -- ---- Each rule gives a place that it tells.

  update_rule : (u : ℕ) → 0 < w.raised u → Stands start schedule (op u) (place (standing m u) 1 (w.raised u) 0)
  update_rule u r =
      let x : IsUpdate start schedule (op u) (record_at m (op u)).change.target = record {
        step = w.exch u;
        exchanged = (told.exchanges (op u)).told (i.core.records.raises u r).exchanged;
      } in
      let y = (told.raisings (op u)).told r in
      standing_case m g u (λ s. Stands start schedule (op u) (place s 1 (w.raised u) 0))
      (λ h. Stands.exception x y (missed_rule u r h)) (λ h. Stands.update x y (λ c z. h (rule_missed u c r z).0))

  size_rule : (o : ℕ) → call w o ≡ Size → 0 < w.last o → Stands start schedule (op o) (place (w.closed (w.used o)) 0 (thr w o) 0)
  size_rule o e l =
      let c = (i.core.returned.sized o l e).closed in
      let k = call_is o ∙ e in
      subst (λ (t : ℕ). Stands start schedule (op o) (place (w.closed (w.used o)) 0 t 0))
      (ap (λ (a : Asked). a.thread.0) (sym (summed.asked o)))
      (Stands.size k ((summed.answers (op o) k).told l) (closes (record_at m (op o)).snapshot c))

  module _ (o : ℕ) (l : 0 < w.last o) (z : w.exch o ≡ 0) (k : call w o ≢ Size) where
    finder : Finder w o
    finder = i.core.returned.finder o l z k

    other_of : Other start schedule (op o) (w.read o) (w.found o)
    other_of =
        record {
          step = w.last o;
          returned = (told.returns (op o)).told l;
          no_size = λ e. k (sym (call_is o) ∙ e);
          no_update = λ c x. omega (arith, (told.exchanges (op o)).only c x.step x.exchanged, x.exchanged.some);
          finds = (told.reads (op o)).told finder.looked;
          last = λ c r a. (told.reads (op o)).last c r a;
        }

    after_rule : (u : OpId) (c : Content) → w.found o ≡ c → MadeBy c u → 0 < w.raised u.0
        → Stands start schedule (op o) (after_stands (update_stands m (record_at m u)) (w.read o))
    after_rule u c e b r =
        let x = subst (λ (c' : Content). Other start schedule (op o) (w.read o) c') e other_of in
        subst (λ (p : Place). Stands start schedule (op o) (after_stands p (w.read o))) (sym (stands_update m g u.0))
        (lt_case (λ (p : Place). Stands start schedule (op o) p) (standing m u.0) (w.read o) _ _
        (λ h. Stands.earlier x b (update_rule u.0 r) h) (λ h. Stands.follows x b (update_rule u.0 r) h))

    finder_rule : (c : Content) → w.found o ≡ c → FoundSettled w c (suc (w.last o))
        → Stands start schedule (op o) (finder_stands m c (w.read o))
    finder_rule Empty e s = Stands.empty (subst (λ (c : Content). Other start schedule (op o) (w.read o) c) e other_of)
    finder_rule (Live d) e s = after_rule d.op (Live d) e refl s.raised
    finder_rule (Marked b d) e s = after_rule d.op (Marked b d) e refl s.raised

  -- the place of an operation that is not a size and was not raised
  finder_place : (o : ℕ) → call w o ≢ Size → w.raised o ≡ 0 → place_of m o ≡ finder_stands m (w.found o) (w.read o)
  finder_place o k z =
      set_place i o k ∙ ap (λ b. cond b (update_stands m (record_at m (op o))) (finder_stands m (w.found o) (w.read o)))
      (le-ltb 0 (w.raised o) (omega arith))

  stands_of : (o : ℕ) → o < n → listed m o ≡ true → Stands start schedule (op o) (place_of m o)
  stands_of o h t = go (dec_lt 0 (w.raised o)) (size? (call w o))
    where
      go : Dec (0 < w.raised o) → Dec (call w o ≡ Size) → Stands start schedule (op o) (place_of m o)
      go (yes r) c = subst (Stands start schedule (op o)) (sym (update_at_lem i o r).here) (update_rule o r)
      go (no r) (yes e) =
          subst (Stands start schedule (op o)) (sym (place_of_lem i o Size e)) (size_rule o e (unraised_last i o t (omega arith)))
      go (no r) (no k) =
          let l = unraised_last i o t (omega arith) in
          let z = unexchanged i o l (omega arith) in
          subst (Stands start schedule (op o)) (sym (finder_place o k (omega arith)))
          (finder_rule o l z k (w.found o) refl (finder o l z k).settled)

  -- ---- And no other place.

  was_returned : (o : ℕ) → 0 < w.last o → listed m o ≡ true
  was_returned o l = or_first (ltb 0 (w.raised o)) (lt-ltb 0 (w.last o) l)

  was_raised_lem : (o : ℕ) → 0 < w.raised o → listed m o ≡ true
  was_raised_lem o l = or_second (ltb 0 (w.last o)) (lt-ltb 0 (w.raised o) l)

  -- what is known of an update that the rules name
  record Named (x : OpId) (c : Target) (r : ℕ) : Type 0 where
    raised : 0 < w.raised x.0
    target : c ≡ (record_at m x).change.target
    step : r ≡ w.raised x.0

  named : (x : OpId) (c : Target) (r : ℕ) → IsUpdate start schedule x c → At start schedule (Raising x) r → Named x c r
  named x c r u a =
      let e = (told.raisings x).only tt r a in
      let s = (told.exchanges x).only c u.step u.exchanged in
      let b = (told.exchanges x).told (omega (arith, u.exchanged.some)) in
      record {
        raised = omega (arith, a.some);
        target =
            same_target u.exchanged.is
            (subst (λ (k : ℕ). At start schedule (Exchange x (record_at m x).change.target) k) (sym s) b).is;
        step = e;
      }

  missed_named : {x : OpId} {c : Target} {r closing : ℕ} → Named x c r → Rules.Missed start schedule x c r closing
      → Rules.Missed start schedule x (record_at m x).change.target (w.raised x.0) closing
  missed_named {x} {c} {r} {closing} k h =
      subst (λ (b : Target). Rules.Missed start schedule x b (w.raised x.0) closing) k.target
      (subst (λ (b : ℕ). Rules.Missed start schedule x c b closing) k.step h)

  named_missed : {x : OpId} {c : Target} {r closing : ℕ} → Named x c r
      → Rules.Missed start schedule x (record_at m x).change.target (w.raised x.0) closing → Rules.Missed start schedule x c r closing
  named_missed {x} {c} {r} {closing} k h =
      subst (λ (b : Target). Rules.Missed start schedule x b r closing) (sym k.target)
      (subst (λ (b : ℕ). Rules.Missed start schedule x (record_at m x).change.target b closing) (sym k.step) h)

  -- what is known of another returned operation
  record Looked (x : OpId) (r : ℕ) (c : Content) : Type 0 where
    returned : 0 < w.last x.0
    unraised : w.raised x.0 ≡ 0
    no_size : call w x.0 ≢ Size
    found : w.found x.0 ≡ c
    step : w.read x.0 ≡ r
    finds : Finder w x.0

  looked : (x : OpId) (r : ℕ) (c : Content) → Other start schedule x r c → Looked x r c
  looked x r c h =
      let l : 0 < w.last x.0 = omega (arith, (told.returns x).last tt h.step h.returned, h.returned.some) in
      let z = still (dec_lt 0 (w.exch x.0)) in
      let k : call w x.0 ≢ Size = λ e. h.no_size (call_is x.0 ∙ e) in
      let a = (told.reads x).last c r h.finds in
      let b = (told.reads x).told (omega (arith, h.finds.some)) in
      let e : w.read x.0 ≡ r = omega (arith, h.last (w.found x.0) (w.read x.0) b) in
      record {
        returned = l;
        unraised = down (dec_lt 0 (w.raised x.0)) z;
        no_size = k;
        found = same_found (subst (λ (s : ℕ). At start schedule (SlotRead x (w.found x.0)) s) e b).is h.finds.is;
        step = e;
        finds = finder x.0 l z k;
      }
    where
      still : Dec (0 < w.exch x.0) → w.exch x.0 ≡ 0
      still (yes l) = absurd (h.no_update _ (record { step = w.exch x.0; exchanged = (told.exchanges x).told l }))
      still (no l) = omega arith

      down : Dec (0 < w.raised x.0) → w.exch x.0 ≡ 0 → w.raised x.0 ≡ 0
      down (yes l) z = absurd (omega (arith, (i.core.records.raises x.0 l).exchanged))
      down (no l) z = omega arith

  looked_place : {x : OpId} {r : ℕ} {c : Content} → Looked x r c → place_of m x.0 ≡ finder_stands m c r
  looked_place {x} {r} {c} h =
      finder_place x.0 h.no_size h.unraised ∙ ap (λ (b : Content). finder_stands m b (w.read x.0)) h.found
      ∙ ap (finder_stands m c) h.step

  -- the update that it found: it was raised, is one of the operations, and stands where `place_of` says
  record Made (u : OpId) (r : ℕ) (c : Content) : Type 0 where
    inside : u.0 < n
    place : finder_stands m c r ≡ after_stands (place_of m u.0) r

  made : {x : OpId} {r : ℕ} {c : Content} (u : OpId) → Looked x r c → MadeBy c u → Made u r c
  made {x} {r} {c} u h b =
      by_content c (subst (λ (c' : Content). FoundSettled w c' (suc (w.last x.0))) h.found h.finds.settled) b
    where
      raised_made : (c' : Content) → (0 < w.raised u.0) → finder_stands m c' r ≡ after_stands (update_stands m (record_at m u)) r
          → Made u r c'
      raised_made c' l e =
          record {
            inside = (exchange_of i u.0 l).inside;
            place = e ∙ ap (λ (p : Place). after_stands p r) (stands_update m g u.0 ∙ sym (update_at_lem i u.0 l).here);
          }

      by_content : (c' : Content) → FoundSettled w c' (suc (w.last x.0)) → MadeBy c' u → Made u r c'
      by_content Empty s q = absurd q
      by_content (Live d) s q =
          raised_made (Live d) (subst (λ (y : OpId). 0 < w.raised y.0) q s.raised)
          (ap (λ (y : OpId). after_stands (update_stands m (record_at m y)) r) q)
      by_content (Marked a d) s q =
          raised_made (Marked a d) (subst (λ (y : OpId). 0 < w.raised y.0) q s.raised)
          (ap (λ (y : OpId). after_stands (update_stands m (record_at m y)) r) q)

  only_of : (x : OpId) (p : Place) → Stands start schedule x p → x.0 < n → (listed m x.0 ≡ true) × (place_of m x.0 ≡ p)
  only_of x p (Stands.size {n = b} {a = k} {closing = c} e y z) l =
      let a = summed.answers x e in
      let q = a.only b k y in
      let r : 0 < w.last x.0 = omega (arith, y.some) in
      let u : used_of x m ≡ b = same_answer (subst (λ (s : ℕ). At start schedule (Answer x (used_of x m)) s) (sym q) (a.told r)).is
      y.is in (
        was_returned x.0 r,
        place_of_lem i x.0 Size (sym (call_is x.0) ∙ e)
            ∙ place_path (ap (λ (s : SnapshotId). w.closed s.0) u ∙ sym (closed_is b c z).1)
            (ap (λ (s : Asked). s.thread.0) (summed.asked x.0)) refl,
      )
  only_of x p (Stands.update {c = c} {r = r} u a f) l =
      let k = named x c r u a in (
        was_raised_lem x.0 k.raised,
        (update_at_lem i x.0 k.raised).here
            ∙ place_path (standing_case m g x.0 (λ s. s ≡ r) (λ h. absurd (f _ (named_missed k (missed_rule x.0 k.raised h)))) (λ h. sym k.step)) (sym k.step) refl,
      )
  only_of x p (Stands.exception {c = c} {r = r} {closing = s} u a f) l =
      let k = named x c r u a in
      let b = rule_missed x.0 s k.raised (missed_named k f) in (
        was_raised_lem x.0 k.raised,
        (update_at_lem i x.0 k.raised).here
            ∙ place_path (standing_case m g x.0 (λ y. y ≡ s) (λ h. sym b.1) (λ h. absurd (h b.0))) (sym k.step) refl,
      )
  only_of x p (Stands.empty {r = r} h) l = let k = looked x r Empty h in (was_returned x.0 k.returned, looked_place k)
  only_of x p (Stands.earlier {u = u} {r = r} {found = c} {p = p'} h b y e) l =
      let k = looked x r c h in
      let q = made u k b in
      let v = (only_of u p' y q.inside).1 in
      (was_returned x.0 k.returned, looked_place k ∙ q.place ∙ ap (λ (z : Place). after_stands z r) v ∙ rw (lt-ltb p'.step r e))
  only_of x p (Stands.follows {u = u} {r = r} {found = c} {p = p'} h b y e) l =
      let k = looked x r c h in
      let q = made u k b in
      let v = (only_of u p' y q.inside).1 in
      (was_returned x.0 k.returned, looked_place k ∙ q.place ∙ ap (λ (z : Place). after_stands z r) v ∙ rw (le-ltb p'.step r e))

  -- ---- What is listed.

  lists_of : (o : ℕ) → (listed m o ≡ true) ↔ Listed start schedule (op o)
  lists_of o = (λ t. told_of_lem t (dec_lt 0 (w.raised o)), of_told)
    where
      told_of_lem : listed m o ≡ true → Dec (0 < w.raised o) → Listed start schedule (op o)
      told_of_lem t (yes r) = Listed.raised (w.raised o) ((told.raisings (op o)).told r)
      told_of_lem t (no r) = Listed.returned (w.last o) ((told.returns (op o)).told (unraised_last i o t (omega arith)))

      of_told : Listed start schedule (op o) → listed m o ≡ true
      of_told (Listed.returned s a) = was_returned o (omega (arith, (told.returns (op o)).last tt s a, a.some))
      of_told (Listed.raised r a) = was_raised_lem o (omega (arith, (told.raisings (op o)).only tt r a, a.some))

  -- ---- How places are ordered.

  small_of : (o : ℕ) → Stand m w o → Small (place_of m o)
  small_of o (Stand.sizes e l s a) = at_small a
  small_of o (Stand.changes r a) = at_small a
  small_of o (Stand.looks r) = at_small r.at
  small_of o (Stand.follows u f) = at_small f.at

  orders_of : (o o' : ℕ) → o < n → o' < n → listed m o ≡ true → listed m o' ≡ true
      → (order_of m o < order_of m o') ↔ Before (place_of m o) (place_of m o')
  unfolding Courses.order_of
  orders_of o o' h h' t t' =
      let a = small_of o (stand_of i o h t) in
      let b = small_of o' (stand_of i o' h' t') in
      (number_before (place_of m o) (place_of m o') a b, before_number (place_of m o) (place_of m o') a b)

  pub agrees : Agrees start schedule n m
  agrees = record { lists = λ o h. lists_of o; stands = stands_of; only = λ o h p s. only_of (op o) p s h; orders = orders_of }

-- for every run within the limits
pub agrees_run : (threads keys : ℕ) (counts ops schedule : List ℕ) → Within threads keys counts ops schedule
    → Agrees (start_of threads keys counts ops) schedule (length ops) (run_of (start_of threads keys counts ops) schedule)
agrees_run threads keys counts ops schedule within =
    let j = inv_run threads keys counts ops schedule within in
    let s = sound_run threads keys counts ops schedule within in
    let k = known_run threads keys counts ops schedule within in
    let e : Ended threads (length ops) (run_of (start_of threads keys counts ops) schedule) j.0 counts = record {
      threads = within.at_most_threads;
      operations = within.at_most_operations;
      steps = omega (arith, s.clock, within.at_most_steps);
      core = j.1.core;
      owners = s.owners;
      all = within.operations;
    } in
    agrees e (start_of threads keys counts ops) schedule k.0 k.1
