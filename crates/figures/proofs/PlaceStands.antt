-- Where each listed operation stands, by what it did: within its own span, and no two at one place.
use Prim.Native.Nat.{ℕ, suc, ◌≤◌, ◌<◌}
use mathlib.Core.Path.{◌≡◌, refl, sym, ap, ◌∙◌}
use mathlib.Core.Logic.{◌≢◌}
use mathlib.Core.Bool.{true, cond}
use mathlib.Core.List.{List}
use native.Mathlib.Omega.{arith}
use native.Mathlib.Decide.{ℕ_discrete, dec_lt}
use lib.Dec.{eqb, ltb}
use borrow.Author.Tests.{ltb-true, ltb-false, lt-ltb, le-ltb, ne_eqb}
use Rattle.history.specs.Places.{place}
use Rattle.history.specs.Demand.{InSpan}
use Rattle.history.proofs.Split.{split, or_true}
use Rattle.history.proofs.Order.{Placed}
use Rattle.history.proofs.Places.{At, at_step, at_rank, at_some, same_step, same_rank, same_tie, same_read}
use Rattle.figures.specs.declared.Kind.{Kind}
use Rattle.figures.specs.declared.Node.{Node}
use Rattle.figures.specs.declared.Content.{Content}
use Rattle.figures.specs.declared.Content.TheVariants.{Empty, Live, Marked}
use Rattle.figures.specs.declared.Call.{Call}
use Rattle.figures.specs.declared.Call.TheVariants.{Insert, Delete, Contains, Size}
use Rattle.figures.specs.declared.Machine.{Machine}
use Rattle.figures.specs.Step.{record_at}
use Rattle.figures.specs.Places.{op, update_stands, after_stands, finder_stands, set_stands, stands, place_of, course_of, listed, order_of}
use Rattle.figures.proofs.World.{World, thr, key, call, kind_of, call_for}
use Rattle.figures.proofs.Inv.{Settled, Found, Finding, FoundSettled, Finder, Sized, Event, exchanges, raises, reads, closes, stamp}
use Rattle.figures.proofs.Mirror.{world_of}
use Rattle.figures.proofs.PlaceUpdates.{Ended, standing, stands_update, exchange_of, raised_standing, exchanged_standing, settled_standing, pair}

-- a returned operation that changed nothing
pub record Unchanged (w : World) (o : ℕ) : Type 0 where
  pub returned : 0 < w.last o
  pub unraised : w.raised o ≡ 0
  pub finder : Finder w o

-- it stands at its read: every update of its key that was exchanged before stands before
pub record Reads (m : Machine) (w : World) (o : ℕ) : Type 0 where
  pub unchanged : Unchanged w o
  pub at : At (course_of m o) (w.read o) 1 (w.read o) 0
  pub earlier : (u : ℕ) → 0 < w.exch u → key w u ≡ key w o → w.exch u < w.read o → (0 < w.raised u) × (standing m u < w.read o)

-- it stands directly after the update u that it found
pub record Follows (m : Machine) (w : World) (o u : ℕ) : Type 0 where
  pub unchanged : Unchanged w o
  pub at : At (course_of m o) (standing m u) 1 (w.raised u) (w.read o)
  pub raised : 0 < w.raised u
  pub on_key : key w u ≡ key w o
  pub before : w.exch u < w.read o
  pub latest : (v : ℕ) → 0 < w.exch v → key w v ≡ key w o → w.exch v < w.read o → v ≢ u → w.exch v < w.exch u
  pub late : w.read o ≤ standing m u
  pub in_time : standing m u ≤ w.last o

pub data Stand (m : Machine) (w : World) (o : ℕ) : Type 0 where
  sizes : call w o ≡ Size → 0 < w.last o → Sized w o → At (course_of m o) (w.closed (w.used o)) 0 (thr w o) 0 → Stand m w o
  changes : 0 < w.raised o → At (course_of m o) (standing m o) 1 (w.raised o) 0 → Stand m w o
  looks : Reads m w o → Stand m w o
  follows : (u : ℕ) → Follows m w o u → Stand m w o

-- whose step it is
abbrev event_op : Event → ℕ
event_op (exchanges o) = o
event_op (raises o) = o
event_op (reads o) = o
event_op (closes s) = s

-- an operation other than a size has a step of its own, which its place tells
record Mark (m : Machine) (w : World) (o : ℕ) : Type 0 where
  event : Event
  s : ℕ
  t : ℕ
  d : ℕ
  at : At (course_of m o) s 1 t d
  own : event_op event ≡ o
  some : 0 < stamp w event
  tells : stamp w event ≡ cond (eqb d 0) t d

data Marks (m : Machine) (w : World) (o : ℕ) : Type 0 where
  sized : Sized w o → At (course_of m o) (w.closed (w.used o)) 0 (thr w o) 0 → Marks m w o
  marked : Mark m w o → Marks m w o

module _ {T n : ℕ} {m : Machine} {g : ℕ → ℕ → ℕ} {counts : List ℕ} (i : Ended T n m g counts) where
  abbrev w : World
  w = world_of m g

  pub place_of_lem : (o : ℕ) (c : Call) → call w o ≡ c → place_of m o ≡ stands m c (record_at m (op o))
  unfolding place_of
  place_of_lem o c e = ap (λ (x : Call). stands m x (record_at m (op o))) e

  pub set_place : (o : ℕ) → call w o ≢ Size → place_of m o ≡ set_stands m (record_at m (op o))
  set_place o d = go (call w o) refl
    where
      go : (c : Call) → call w o ≡ c → place_of m o ≡ set_stands m (record_at m (op o))
      go Insert e = place_of_lem o Insert e
      go Delete e = place_of_lem o Delete e
      go Contains e = place_of_lem o Contains e
      go Size e = absurd (d e)

  pub exchanged_call : (o : ℕ) → 0 < w.exch o → call w o ≢ Size
  exchanged_call o h e =
      let z : call_for (kind_of (call w o)) ≡ Insert = rw e in
      let y : ◌≡◌ {A = ℕ} 0 1 = cc (i.core.records.exchanges o h).does in
      omega arith

  pub update_at_lem : (u : ℕ) → 0 < w.raised u → At (course_of m u) (standing m u) 1 (w.raised u) 0
  update_at_lem u r =
      let x = i.core.records.raises u r in
      let y = raised_standing i u r in
      record {
        here =
            set_place u (exchanged_call u x.exchanged)
            ∙ ap (λ b. cond b (update_stands m (record_at m (op u))) (finder_stands m (w.found u) (w.read u))) (lt-ltb 0 (w.raised u) r) ∙ stands_update m g u;
        some = omega arith;
        rank = omega arith;
        tie = omega (arith, i.steps);
        read = omega arith;
      }

  -- ---- What each listed operation did.

  module _ (o : ℕ) (un : Unchanged w o) (d : call w o ≢ Size) where
    read_small : w.read o < 8192
    read_small = omega (arith, (i.core.records.reads o un.finder.looked).past, i.steps)

    finder_place : (c : Content) → w.found o ≡ c → place_of m o ≡ finder_stands m c (w.read o)
    finder_place c e =
        set_place o d
        ∙ ap (λ b. cond b (update_stands m (record_at m (op o))) (finder_stands m (w.found o) (w.read o))) (le-ltb 0 (w.raised o) (omega (arith, un.unraised)))
        ∙ ap (λ (x : Content). finder_stands m x (w.read o)) e

    read_at : place_of m o ≡ place (w.read o) 1 (w.read o) 0 → At (course_of m o) (w.read o) 1 (w.read o) 0
    read_at e = record { here = e; some = un.finder.looked; rank = omega arith; tie = read_small; read = omega arith }

    stand_after : (f : Node) (k : Kind) → Found w o f k → Settled w f.op.0 (suc (w.last o)) → place_of m o ≡ after_stands (update_stands m (record_at m f.op)) (w.read o) → Stand m w o
    stand_after f k x s e =
        split (ltb (standing m f.op.0) (w.read o))
        (λ t. looks (record { unchanged = un; at = read_at (e' ∙ rw t); earlier = early (ltb-true _ _ t) }))
        (λ t. follows u (record {
          unchanged = un;
          at = record { here = e' ∙ rw t; some = omega (arith, raised_standing i u s.raised, s.raised); rank = omega arith; tie = omega (arith, (i.core.records.raises u s.raised).past, i.steps); read = read_small };
          raised = s.raised;
          on_key = x.noted.on_key;
          before = x.before;
          latest = x.latest;
          late = ltb-false _ _ t;
          in_time = omega (arith, settled_standing i u _ s);
        }))
      where
        u : ℕ
        u = f.op.0

        e' : place_of m o ≡ after_stands (place (standing m u) 1 (w.raised u) 0) (w.read o)
        e' = e ∙ ap (λ p. after_stands p (w.read o)) (stands_update m g u)

        early : standing m u < w.read o → (v : ℕ) → 0 < w.exch v → key w v ≡ key w o → w.exch v < w.read o → (0 < w.raised v) × (standing m v < w.read o)
        early l v h q b = go (ℕ_discrete v u)
          where
            go : Dec (v ≡ u) → (0 < w.raised v) × (standing m v < w.read o)
            go (yes j) = rw j (s.raised, l)
            go (no j) =
                let z = pair i v u h x.noted.exchanged (q ∙ sym x.noted.on_key) (x.latest v h q b j) in
                (z.0, omega (arith, z.1, x.before))

    stand_found : (c : Content) → w.found o ≡ c → Finding w o c → FoundSettled w c (suc (w.last o)) → Stand m w o
    stand_found Empty e x s =
        looks (record { unchanged = un; at = read_at (finder_place Empty e); earlier = λ v h q b. let z = x v h q b in (z.raised, settled_standing i v _ z) })
    stand_found (Live f) e x s = stand_after f _ x s (finder_place (Live f) e)
    stand_found (Marked a f) e x s = stand_after f _ x s (finder_place (Marked a f) e)

  stand_size : (o : ℕ) → o < n → 0 < w.last o → call w o ≡ Size → Stand m w o
  stand_size o h l e =
      let s = i.core.returned.sized o l e in
      let t = (i.owners.whose o (omega (arith, i.all))).thread in
      sizes e l s (record { here = place_of_lem o Size e; some = s.closed; rank = omega arith; tie = omega arith; read = omega arith })

  pub unraised_last : (o : ℕ) → listed m o ≡ true → w.raised o ≡ 0 → 0 < w.last o
  unraised_last o t e = go (dec_lt 0 (w.last o))
    where
      go : Dec (0 < w.last o) → 0 < w.last o
      go (yes h) = h
      go (no h) = let z = ltb-true 0 (w.raised o) (or_true (ltb 0 (w.last o)) _ (le-ltb 0 (w.last o) (omega arith)) t) in absurd (omega arith)

  -- a returned operation that was not raised was not exchanged
  pub unexchanged : (o : ℕ) → 0 < w.last o → w.raised o ≡ 0 → w.exch o ≡ 0
  unexchanged o l e = go (dec_lt 0 (w.exch o))
    where
      go : Dec (0 < w.exch o) → w.exch o ≡ 0
      go (yes h) = absurd (omega (arith, (i.core.returned.changed o l h).settled.raised))
      go (no h) = omega arith

  pub stand_of : (o : ℕ) → o < n → listed m o ≡ true → Stand m w o
  stand_of o h t = go (dec_lt 0 (w.raised o)) (size? (call w o))
    where
      size? : (c : Call) → Dec (c ≡ Size)
      size? Insert = no (λ e. let z : ◌≡◌ {A = ℕ} 0 1 = cc in omega arith)
      size? Delete = no (λ e. let z : ◌≡◌ {A = ℕ} 0 1 = cc in omega arith)
      size? Contains = no (λ e. let z : ◌≡◌ {A = ℕ} 0 1 = cc in omega arith)
      size? Size = yes refl

      go : Dec (0 < w.raised o) → Dec (call w o ≡ Size) → Stand m w o
      go (yes r) c = changes r (update_at_lem o r)
      go (no r) (yes e) = stand_size o h (unraised_last o t (omega arith)) e
      go (no r) (no d) =
          let l = unraised_last o t (omega arith) in
          let f = i.core.returned.finder o l (unexchanged o l (omega arith)) d in
          stand_found o (record { returned = l; unraised = omega arith; finder = f }) d (w.found o) refl (i.core.finders o f.looked) f.settled

  -- ---- Each stands within its span.

  within : (o : ℕ) {s : ℕ} → (place_of m o).step ≡ s → w.first o ≤ s → (0 < w.last o → s ≤ w.last o) → InSpan (course_of m o)
  within o e a b = record { begun = omega arith; ended = λ t. omega (arith, b (ltb-true 0 (w.last o) t)) }

  pub spans_of : (o : ℕ) → Stand m w o → InSpan (course_of m o)
  spans_of o (sizes e l s a) = within o (at_step a) s.after (λ h. s.before)
  spans_of o (changes r a) =
      let x = i.core.records.raises o r in
      within o (at_step a) (omega (arith, (exchange_of i o r).after, exchanged_standing i o r))
      (λ h. omega (arith, settled_standing i o _ (i.core.returned.changed o h x.exchanged).settled))
  spans_of o (looks r) =
      let f = r.unchanged.finder in within o (at_step r.at) (i.core.records.reads o f.looked).after (λ h. f.in_time)
  spans_of o (follows u f) =
      within o (at_step f.at) (omega (arith, (i.core.records.reads o f.unchanged.finder.looked).after, f.late)) (λ h. f.in_time)

  -- ---- No two stand at one place.

  marks_of : (o : ℕ) → Stand m w o → Marks m w o
  marks_of o (sizes e l s a) = sized s a
  marks_of o (changes r a) = marked (record { event = raises o; s = _; t = _; d = 0; at = a; own = refl; some = r; tells = refl })
  marks_of o (looks r) = marked (record { event = reads o; s = _; t = _; d = 0; at = r.at; own = refl; some = r.unchanged.finder.looked; tells = refl })
  marks_of o (follows u f) =
      let l = f.unchanged.finder.looked in
      marked (record { event = reads o; s = _; t = _; d = w.read o; at = f.at; own = refl; some = l; tells = rw (ne_eqb (w.read o) 0 (λ e. omega arith)) })

  -- two sizes of one thread do not use one snapshot
  sizes_apart : (o q : ℕ) → o < n → q < n → thr w o ≡ thr w q → w.closed (w.used o) ≡ w.closed (w.used q) → Sized w o → Sized w q → o < q → ⊥
  sizes_apart o q h k e c a b l =
      let x = i.owners.whose o (omega (arith, i.all)) in
      let y = i.owners.whose q (omega (arith, i.all)) in
      let z = i.owners.sequel (thr w o) o q x (rw (← e) at y) l (i.owners.order q (omega (arith, b.closed, b.before))).0 in
      omega (arith, z.1, a.before, b.after)

  same_place : (o q : ℕ) → o < n → q < n → order_of m o ≡ order_of m q → Marks m w o → Marks m w q → o ≡ q
  same_place o q h k e (sized s a) (sized z b) = go (dec_lt o q) (dec_lt q o)
    where
      go : Dec (o < q) → Dec (q < o) → o ≡ q
      go (yes l) c = absurd (sizes_apart o q h k (same_tie a b e) (same_step a b e) s z l)
      go (no l) (yes c) = absurd (sizes_apart q o k h (same_tie b a (sym e)) (same_step b a (sym e)) z s c)
      go (no l) (no c) = omega arith
  same_place o q h k e (sized s a) (marked x) = absurd (omega (arith, same_rank a x.at e))
  same_place o q h k e (marked x) (sized s a) = absurd (omega (arith, same_rank x.at a e))
  same_place o q h k e (marked x) (marked y) =
      let d = same_read x.at y.at e in
      let t = same_tie x.at y.at e in
      let z : stamp w x.event ≡ stamp w y.event = x.tells ∙ (rw (d, t)) ∙ sym y.tells in
      sym x.own ∙ ap event_op (i.core.stamps x.event y.event x.some z) ∙ y.own

  some_place : (o : ℕ) → Marks m w o → 1 ≤ order_of m o
  some_place o (sized s a) = at_some a
  some_place o (marked x) = at_some x.at

  rank_small : (o : ℕ) → Marks m w o → (place_of m o).rank ≤ 1
  rank_small o (sized s a) = at_rank a
  rank_small o (marked x) = at_rank x.at

  pub ranked : (o : ℕ) → o < n → listed m o ≡ true → (place_of m o).rank ≤ 1
  ranked o h t = rank_small o (marks_of o (stand_of o h t))

  pub placed : Placed n (listed m) (order_of m)
  placed =
      record {
        positive = λ o h t. some_place o (marks_of o (stand_of o h t));
        apart = λ o q h k t u e. same_place o q h k e (marks_of o (stand_of o h t)) (marks_of q (stand_of q k u));
      }
