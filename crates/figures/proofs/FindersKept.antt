-- What the last slot read of each operation found: a later exchange is after the read, and a new read finds what the slot holds.
use Prim.Native.Nat.{ℕ, ◌≤◌, ◌<◌}
use mathlib.Core.Path.{◌≡◌, refl, ap}
use native.Mathlib.Omega.{arith}
use native.Mathlib.Decide.{dec_lt}
use Rattle.figures.specs.declared.Kind.{Kind}
use Rattle.figures.specs.declared.Kind.TheVariants.{Insertion, Deletion}
use Rattle.figures.specs.declared.Content.{Content}
use Rattle.figures.specs.declared.Content.TheVariants.{Empty, Live, Marked}
use Rattle.figures.specs.declared.Node.{Node}
use Rattle.figures.specs.declared.Deed.{Deed}
use Rattle.figures.specs.declared.Deed.TheVariants.{Rests, Finds, Links, Marks, Unlinks, Updates, Sizes}
use Rattle.figures.specs.declared.Next.{Next}
use Rattle.figures.proofs.World.{World, key, put, put_same, put_other, put_case, tick, act, onward, find}
use Rattle.figures.proofs.Inv.{Core, Holds, Noted, Latest, Found, Finding, Finders}
use Rattle.figures.proofs.Grows.{Grows}
use Rattle.figures.proofs.Guar.{Acting, Guar}
use Rattle.figures.proofs.Stable.{settled_later, settled_grows, noted_grows, key_grows}
use Rattle.figures.proofs.Quiet.{Quiet, rests_quiet, tick_quiet, update_quiet, compute_quiet, onward_quiet}

-- what was exchanged up to x was so before
module _ {x t a : ℕ} {w w' : World} (g : Grows x t a w w') where
  pub exchanged_before : (u : ℕ) → 0 < w'.exch u → w'.exch u ≤ x → (0 < w.exch u) × (w'.exch u ≡ w.exch u)
  exchanged_before u p h = go (dec_lt 0 (w.exch u))
    where
      go : Dec (0 < w.exch u) → (0 < w.exch u) × (w'.exch u ≡ w.exch u)
      go (yes q) = (q, ((g.swap u).kept q).0)
      go (no q) = absurd (omega (arith, (g.swap u).new (omega arith) p))

module _ {T n x : ℕ} {w : World} (core : Core T n x w) where
  module _ {t a : ℕ} {w' : World} (g : Grows x t a w w') where
    -- an operation that does not read now
    module _ (o : ℕ) (looked : 0 < w.read o) (same : w'.read o ≡ w.read o) where
      before : (u : ℕ) → 0 < w'.exch u → w'.exch u < w'.read o → (0 < w.exch u) × (w'.exch u ≡ w.exch u)
      before u p l = exchanged_before g u p (omega (arith, (core.records.reads o looked).past))

      found_kept : (d : Node) (k : Kind) → Found w o d k → Found w' o d k
      found_kept d k f =
          let m = ((g.swap d.op.0).kept f.noted.exchanged).0 in
          record {
            noted = noted_grows core g (rw (key_grows core g o) f.noted);
            before = omega (arith, f.before);
            latest = λ u p i l e. let b = before u p l in omega (arith, f.latest u b.0 (rw g.asked at i) (omega arith) e);
          }

      finding_kept : (c : Content) → Finding w o c → Finding w' o c
      finding_kept Empty f =
          λ u p i l.
          let b = before u p l in
          settled_later (omega arith) (settled_grows core g (f u b.0 (rw g.asked at i) (omega arith)))
      finding_kept (Live d) f = found_kept d Insertion f
      finding_kept (Marked m d) f = found_kept d Deletion f

    finders_kept : w'.read ≡ w.read → w'.found ≡ w.found → Finders w'
    finders_kept r f o p =
        let e : w'.read o ≡ w.read o = ap (λ (f : ℕ → ℕ). f o) r in
        rw (ap (λ (f : ℕ → Content). f o) f) (finding_kept o (omega arith) e (w.found o) (core.finders o (omega arith)))

    pub finders_quiet : Quiet w w' → Finders w'
    finders_quiet q = finders_kept q.read q.found

  -- the operation o reads the slot of its key, which holds c
  module _ {t o : ℕ} (acting : Acting T n x w t o) (c : Content) (g : Grows x t o w (find o c w)) where
    found_new : (d : Node) (k : Kind) → Noted w d k (key w o) → Latest w (key w o) d.op.0 → Found (find o c w) o d k
    found_new d k m l =
        record {
          noted = noted_grows core g m;
          before = rw put_same (omega (arith, acting.clock, (core.records.exchanges d.op.0 m.exchanged).past));
          latest = λ u p i b e. l u p i e;
        }

    finding_new : (b : Content) → Holds x w (key w o) b → Finding (find o c w) o b
    finding_new Empty f = λ u p i l. settled_later (rw put_same (omega (arith, acting.clock))) (settled_grows core g (f u p i))
    finding_new (Live d) f = found_new d Insertion f.noted f.latest
    finding_new (Marked m d) f = found_new d Deletion f.noted f.latest

    finders_find : c ≡ w.content (key w o) → Finders (find o c w)
    finders_find e i p =
        put_case (λ b. Finding (find o c w) i b) w.found o c i
        (λ j. rw j (finding_new c (rw e (core.keys.holds (key w o)))))
        (λ j. let r : put w.read o w.clock i ≡ w.read i = put_other w.read o w.clock i j in
        finding_kept g i (omega arith) r (w.found i) (core.finders i (omega arith)))

  module _ {t o : ℕ} (acting : Acting T n x w t o) where
    pub finders_act : (d : Deed) → Guar T x w t o d → Grows x t o w (act d t o w) → Finders (act d t o w)
    finders_act Rests h g = finders_quiet g (rests_quiet w)
    finders_act (Finds c) h g = finders_find acting c g h
    finders_act (Links d) h g = finders_kept g refl refl
    finders_act (Marks m d) h g = finders_kept g refl refl
    finders_act Unlinks h g = finders_kept g refl refl
    finders_act (Updates e u) h g = finders_quiet g (update_quiet e u w)
    finders_act (Sizes e) h g = finders_quiet g (compute_quiet e t o w)

  pub finders_tick : {t o : ℕ} → Grows x t o w (tick o w) → Finders (tick o w)
  finders_tick {o} g = finders_quiet g (tick_quiet o w)

  pub finders_onward : {t o : ℕ} (nx : Next) → Grows x t o w (onward nx t o w) → Finders (onward nx t o w)
  finders_onward {t} {o} nx g = finders_quiet g (onward_quiet nx t o w)
