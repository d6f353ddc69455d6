-- What a returned operation answered: it takes no more steps, and what its answer says of others stays so.
use Prim.Native.Nat.{ℕ, ◌≤◌, ◌<◌}
use mathlib.Core.Path.{◌≡◌, sym, ap, ◌∙◌}
use mathlib.Core.Logic.{◌≢◌}
use native.Mathlib.Omega.{arith}
use Rattle.history.proofs.Split.{same?}
use Rattle.figures.specs.declared.Content.{Content}
use Rattle.figures.specs.declared.Content.TheVariants.{Empty, Live, Marked}
use Rattle.figures.specs.declared.Call.TheVariants.{Insert, Size}
use Rattle.figures.specs.declared.Deed.{Deed}
use Rattle.figures.specs.declared.Next.{Next}
use Rattle.figures.specs.declared.Next.TheVariants.{To, Returns}
use Rattle.figures.proofs.World.{World, call, put_same, put_other, tick, act, onward, return}
use Rattle.figures.proofs.Inv.{Core, FoundSettled, Finder, Changed, Sized, Returned}
use Rattle.figures.proofs.Grows.{Grows}
use Rattle.figures.proofs.Guar.{Acting, ReturnsNow}
use Rattle.figures.proofs.Guar.ReturnsNow.{changed, finder, sized}
use Rattle.figures.proofs.Quiet.{act_last}
use Rattle.figures.proofs.Stable.{known_grows, settled_later, settled_grows, call_grows}

-- what the end of a step needs: a return, that its answer is right
abbrev pub Ends : ℕ → World → ℕ → Next → Type 0
Ends x w o (To p) = Unit {0}
Ends x w o (Returns a) = ReturnsNow x w o a

module _ {T n x : ℕ} {w : World} (core : Core T n x w) where
  module _ {t a : ℕ} {w' : World} (g : Grows x t a w w') where
    found_settled_kept : (c : Content) {y y' : ℕ} → y ≤ y' → FoundSettled w c y → FoundSettled w' c y'
    found_settled_kept Empty h f = tt
    found_settled_kept (Live d) h f = settled_later h (settled_grows core g f)
    found_settled_kept (Marked m d) h f = settled_later h (settled_grows core g f)

    -- an operation that is not the acting one
    module _ (o : ℕ) (other : o ≢ a) where
      changed_kept : Changed w o → Changed w' o
      changed_kept c =
          let e = g.alone o other in
          record { answered = e.answer ∙ c.answered; settled = settled_later (omega arith) (settled_grows core g c.settled) }

      finder_kept : Finder w o → Finder w' o
      finder_kept f =
          let e = g.alone o other in
          record {
            looked = omega (arith, f.looked);
            in_time = omega (arith, f.in_time);
            fits = rw (call_grows core g o, e.found, e.answer) f.fits;
            settled = rw e.found (found_settled_kept (w.found o) (omega arith) f.settled);
          }

      sized_kept : Sized w o → Sized w' o
      sized_kept s =
          let e = g.alone o other in
          let old = g.ages (w.used o) s.known in
          let c : w'.closed (w'.used o) ≡ w.closed (w.used o) = ap w'.closed e.used ∙ old.closed s.closed in
          let z : w'.size (w'.used o) ≡ w.size (w.used o) = ap w'.size e.used ∙ (old.size s.fixed).0 in
          record {
            known = record { some = rw e.used s.known.some; there = rw e.used (known_grows core g s.known).there };
            closed = omega (arith, s.closed);
            after = omega (arith, s.after);
            before = omega (arith, s.before);
            fixed = rw z s.fixed;
            answered = e.answer ∙ s.answered ∙ sym z;
          }

    -- the acting operation has not returned, and does not now
    pub returned_kept : w'.last a ≡ 0 → Returned w'
    returned_kept none =
        let other : (o : ℕ) → 0 < w'.last o → o ≢ a = λ o p e. let z : w'.last o ≡ 0 = rw e none in omega arith in
        record {
          changed = λ o p q. let d = other o p in let e = g.alone o d in changed_kept o d (core.returned.changed o (omega (arith, e.last)) (omega (arith, e.exch)));
          finder = λ o p q i. let d = other o p in let e = g.alone o d in finder_kept o d (core.returned.finder o (omega (arith, e.last)) (omega (arith, e.exch)) (rw (call_grows core g o) at i));
          sized = λ o p i. let d = other o p in let e = g.alone o d in sized_kept o d (core.returned.sized o (omega (arith, e.last)) (rw (call_grows core g o) at i));
        }

  -- an exchanged operation is no size
  exchanged_call : (o : ℕ) → 0 < w.exch o → call w o ≢ Size
  exchanged_call o p e =
      let d : Size ≡ Insert = rw e at (core.records.exchanges o p).does in
      let z : ◌≡◌ {A = ℕ} 0 1 = cc in
      omega arith

  -- the operation o returns
  module _ {t o a : ℕ} (now : w.clock ≡ x) (g : Grows x t o w (return t o a w)) where
    returns_changed : ReturnsNow x w o a → 0 < w.exch o → Changed (return t o a w) o
    returns_changed (changed r) p =
        record { answered = rw put_same r.one; settled = rw put_same (settled_later (omega arith) (settled_grows core g r.settled)) }
    returns_changed (finder r) p = absurd (omega (arith, r.fresh))
    returns_changed (sized r) p = absurd (exchanged_call o p r.does)

    returns_finder : ReturnsNow x w o a → w.exch o ≡ 0 → call w o ≢ Size → Finder (return t o a w) o
    returns_finder (changed r) q i = absurd (omega (arith, r.exchanged))
    returns_finder (finder r) q i =
        record {
          looked = r.looked;
          in_time = rw put_same (omega (arith, (core.records.reads o r.looked).past));
          fits = rw put_same r.fits;
          settled = rw put_same (found_settled_kept g (w.found o) (omega arith) r.settled);
        }
    returns_finder (sized r) q i = absurd (i r.does)

    returns_sized : ReturnsNow x w o a → call w o ≡ Size → Sized (return t o a w) o
    returns_sized (changed r) i = absurd (exchanged_call o r.exchanged i)
    returns_sized (finder r) i = absurd (rw i at r.fits)
    returns_sized (sized r) i =
        record {
          known = known_grows core g r.using'.known;
          closed = r.closed;
          after = r.using'.began r.closed;
          before = rw put_same (omega (arith, (core.snaps.spans (w.used o) r.using'.known r.closed).1));
          fixed = r.fixed;
          answered = rw put_same r.answer;
        }

    returned_returns : ReturnsNow x w o a → Returned (return t o a w)
    returned_returns r =
        record {
          changed = λ u p q. same? u o (λ e. rw e (returns_changed r (rw e at q))) (λ d. changed_kept g u d (core.returned.changed u (rw (put_other w.last o w.clock u d) at p) q));
          finder = λ u p q i. same? u o (λ e. rw e (returns_finder r (rw e at q) (rw e at i))) (λ d. finder_kept g u d (core.returned.finder u (rw (put_other w.last o w.clock u d) at p) q i));
          sized = λ u p i. same? u o (λ e. rw e (returns_sized r (rw e at i))) (λ d. sized_kept g u d (core.returned.sized u (rw (put_other w.last o w.clock u d) at p) i));
        }

  module _ {t o : ℕ} where
    pub returned_tick : w.last o ≡ 0 → Grows x t o w (tick o w) → Returned (tick o w)
    returned_tick none g = returned_kept g none

    pub returned_act : Acting T n x w t o → (d : Deed) → Grows x t o w (act d t o w) → Returned (act d t o w)
    returned_act acting d g = returned_kept g (ap (λ (f : ℕ → ℕ). f o) (act_last d t o w) ∙ acting.unreturned)

    pub returned_onward : w.clock ≡ x → w.last o ≡ 0 → (nx : Next) → Ends x w o nx → Grows x t o w (onward nx t o w) → Returned (onward nx t o w)
    returned_onward now none (To p) r g = returned_kept g none
    returned_onward now none (Returns a) r g = returned_returns now g r
