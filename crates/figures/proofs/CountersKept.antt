-- The counters: each part of a step keeps what holds of them and of the updates that they count.
use Prim.Native.Nat.{ℕ, suc, ◌≤◌, ◌<◌}
use mathlib.Core.Path.{◌≡◌, refl, sym, ap, ◌∙◌}
use mathlib.Core.Logic.{◌≢◌}
use native.Mathlib.Omega.{arith}
use native.Mathlib.Decide.{ℕ_discrete}
use Rattle.figures.specs.declared.Content.{Content}
use Rattle.figures.specs.declared.Deed.{Deed}
use Rattle.figures.specs.declared.Next.{Next}
use Rattle.figures.specs.declared.Next.TheVariants.{To, Returns}
use Rattle.figures.proofs.World.{World, put, put_same, put_other, put_case, thr, call, cell_op, kind_of, tick, act, find, exchange, raise, return, onward}
use Rattle.figures.proofs.Inv.{Core, Counters}
use Rattle.figures.proofs.Guar.{Acting, Guar, ReturnsNow, changed, finder, sized}
use Rattle.figures.proofs.Stable.{cell_no_thread}
use Rattle.figures.proofs.Touch.{log, log_holds, Touch, quietly, closing, finding, exchanging, raising, ExchangesOp, RaisesOp, touch, target_kept, Returning, Going}

counters_same : (w w' : World) → log w' ≡ log w → Counters w → Counters w'
counters_same w w' e c = log_holds Counters w w' e (record { due = c.due; done = c.done; own = c.own; order = c.order })

module _ (T n x : ℕ) (w : World) (c : Core T n x w) where
  k : Counters w
  k = c.counters

  pub counters_tick : (o : ℕ) → Counters (tick o w)
  counters_tick o = record { due = k.due; done = k.done; own = k.own; order = k.order }

  counters_find : (o : ℕ) (b : Content) → Counters (find o b w)
  counters_find o b = record { due = k.due; done = k.done; own = k.own; order = k.order }

  module _ (t o g : ℕ) (b : Content) (by : Acting T n x w t o) (f : ExchangesOp w o g) where
    kept : (u : ℕ) → 0 < w.raised u → put w.target o g u ≡ w.target u
    kept u = target_kept T n x w c o g u f.fresh

    counters_exchange : Counters (exchange o g b w)
    counters_exchange =
        record {
          due = λ u h z. due u h z (ℕ_discrete u o);
          done = λ u h. rw (kept u h) (k.done u h);
          own = λ u h i. own u h i (ℕ_discrete u o);
          order = λ u v h i e l. k.order u v h i e (omega (arith, kept u h, kept v i));
        }
      where
        due : (u : ℕ) → 0 < put w.exch o w.clock u → w.raised u ≡ 0 → Dec (u ≡ o) → (w.op (thr w u) ≡ u) × (put w.target o g u ≡ suc (w.count (cell_op w u)))
        due u h z (yes e) = rw e (ap w.op by.thread ∙ by.current, put_same w.target o g ∙ f.aims)
        due u h z (no m) = let d = k.due u (rw (put_other w.exch o w.clock u m) at h) z in (d.0, put_other w.target o g u m ∙ d.1)

        own : (u : ℕ) → 0 < put w.exch o w.clock u → w.op (thr w u) ≡ u → Dec (u ≡ o) → w.count (cell_op w u) ≤ put w.target o g u
        own u h i (yes e) = rw e (omega (arith, put_same w.target o g, f.aims))
        own u h i (no m) = rw (put_other w.target o g u m) (k.own u (rw (put_other w.exch o w.clock u m) at h) i)

  module _ (a q g : ℕ) (f : RaisesOp w a q g) (now : w.clock ≡ suc x) where
    -- the current operation of the counter's thread is the one that is raised
    the_one : (u : ℕ) → cell_op w u ≡ q → w.op (thr w u) ≡ u → u ≡ a
    the_one u e i =
        let s : thr w u ≡ thr w a = cell_no_thread (thr w u) (thr w a) (kind_of (call w u)) (kind_of (call w a)) (e ∙ sym f.cell) in
        sym i ∙ ap w.op s ∙ f.current

    count_grows : (j : ℕ) → w.count j ≤ put w.count q g j
    count_grows j = put_case (λ (y : ℕ). w.count j ≤ y) w.count q g j (λ e. rw e (omega (arith, f.below))) (λ m. omega arith)

    new_raised : put w.raised a w.clock a ≡ suc x
    new_raised = put_same w.raised a w.clock ∙ now

    old_raised : (u : ℕ) → u ≢ a → put w.raised a w.clock u ≡ w.raised u
    old_raised u m = put_other w.raised a w.clock u m

    counters_raise : Counters (raise a q g w)
    counters_raise =
        record {
          due = λ u h z. due u h z (ℕ_discrete u a);
          done = λ u h. done u h (ℕ_discrete u a);
          own = λ u h i. put_case (λ (y : ℕ). y ≤ w.target u) w.count q g (cell_op w u) (λ e. rw (the_one u e i) (omega (arith, f.aims))) (λ m. k.own u h i);
          order = λ u v h i e l. order u v h i e l (ℕ_discrete u a) (ℕ_discrete v a);
        }
      where
        due : (u : ℕ) → 0 < w.exch u → put w.raised a w.clock u ≡ 0 → Dec (u ≡ a) → (w.op (thr w u) ≡ u) × (w.target u ≡ suc (put w.count q g (cell_op w u)))
        due u h z (yes e) = absurd (omega (arith, new_raised, rw e at z))
        due u h z (no m) =
            let d = k.due u h (sym (old_raised u m) ∙ z) in
            (d.0, put_case (λ (y : ℕ). w.target u ≡ suc y) w.count q g (cell_op w u) (λ e. absurd (m (the_one u e d.0))) (λ m'. d.1))

        done : (u : ℕ) → 0 < put w.raised a w.clock u → Dec (u ≡ a) → w.target u ≤ put w.count q g (cell_op w u)
        done u h (yes e) = rw (e, f.cell, put_same w.count q g) (omega (arith, f.aims))
        done u h (no m) = omega (arith, k.done u (rw (old_raised u m) at h), count_grows (cell_op w u))

        order : (u v : ℕ) → 0 < put w.raised a w.clock u → 0 < put w.raised a w.clock v → cell_op w u ≡ cell_op w v → w.target u ≤ w.target v → Dec (u ≡ a) → Dec (v ≡ a)
            → put w.raised a w.clock u ≤ put w.raised a w.clock v
        order u v h i e l (yes p) (yes r) = rw (p, r) (omega arith)
        order u v h i e l (yes p) (no r) =
            let s : cell_op w v ≡ q = sym e ∙ ap (cell_op w) p ∙ f.cell in
            let d = rw s at (k.done v (rw (old_raised v r) at i)) in
            let y : w.target u ≡ w.target a = rw p in
            absurd (omega (arith, f.aims, f.below))
        order u v h i e l (no p) (yes r) = rw (old_raised u p, r, new_raised) (omega (arith, (c.records.raises u (rw (old_raised u p) at h)).past))
        order u v h i e l (no p) (no r) = rw (old_raised u p, old_raised v r) (k.order u v (rw (old_raised u p) at h) (rw (old_raised v r) at i) e l)

  module _ (t o a : ℕ) (g : Returning x w t o a) where
    -- an exchanged operation that returns is raised
    raised_now : ReturnsNow x w o a → 0 < w.exch o → 0 < w.raised o
    raised_now (changed r) h = r.settled.raised
    raised_now (finder r) h = absurd (omega (arith, r.fresh))
    raised_now (sized r) h =
        let d = rw r.does at (c.records.exchanges o h).does in
        let z : ◌≡◌ {A = ℕ} 0 1 = cc in
        absurd (omega arith)

    counters_return : Counters (return t o a w)
    counters_return =
        record {
          due = due;
          done = k.done;
          own = λ u h i. own u h i (ℕ_discrete (thr w u) t);
          order = k.order;
        }
      where
        due : (u : ℕ) → 0 < w.exch u → w.raised u ≡ 0 → (put w.op t (suc o) (thr w u) ≡ u) × (w.target u ≡ suc (w.count (cell_op w u)))
        due u h z =
            let d = k.due u h z in
            (put_case (λ (y : ℕ). y ≡ u) w.op t (suc o) (thr w u) (λ e. let i : u ≡ o = sym d.0 ∙ ap w.op e ∙ g.current in absurd (omega (arith, raised_now g.now' (rw i at h), rw i at z))) (λ m. d.0), d.1)

        own : (u : ℕ) → 0 < w.exch u → put w.op t (suc o) (thr w u) ≡ u → Dec (thr w u ≡ t) → w.count (cell_op w u) ≤ w.target u
        own u h i (yes e) =
            let s : suc o ≡ u = sym (put_same w.op t (suc o)) ∙ ap (put w.op t (suc o)) (sym e) ∙ i in
            absurd (omega (arith, g.next (ap (thr w) s ∙ e), rw (← s) at h))
        own u h i (no m) = k.own u h (sym (put_other w.op t (suc o) (thr w u) m) ∙ i)

  module _ (t o : ℕ) (by : Acting T n x w t o) where
    counted : {w' : World} → Touch w o w' → Counters w'
    counted {w'} (quietly e h) = counters_same w w' e k
    counted {w'} (closing s e h) = counters_same w w' e k
    counted (finding b) = counters_find o b
    counted (exchanging g b f) = counters_exchange t o g b by f
    counted (raising a q g f) = counters_raise a q g f by.clock

    pub counters_act : (d : Deed) → Guar T x w t o d → Counters (act d t o w)
    counters_act d g = counted (touch T n x w c t o by d g)

  pub counters_onward : (t o : ℕ) (nx : Next) → Going x w t o nx → Counters (onward nx t o w)
  counters_onward t o (To p) g = counters_same w _ refl k
  counters_onward t o (Returns a) g = counters_return t o a g
