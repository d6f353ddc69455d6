-- The tallies: of a counter's raised updates as many have a target up to v as v says, after each part of a step.
use Prim.Native.Nat.{ℕ, suc, ◌≤◌, ◌<◌}
use mathlib.Core.Path.{◌≡◌, sym, ap, ◌∙◌}
use mathlib.Core.Logic.{◌≢◌}
use mathlib.Core.Bool.{true, false, ◌&&◌}
use native.Mathlib.Omega.{arith}
use native.Mathlib.Decide.{ℕ_discrete, dec_lt}
use lib.Dec.{eqb, ltb}
use borrow.Author.Tests.{ltb-true, eqb-true, leb-true, lt-ltb, eq-eqb, le-leb}
use Rattle.history.specs.Tally.{tally}
use Rattle.history.proofs.Tally.{tally_same, tally_one}
use Rattle.history.proofs.Split.{split, iff, and_true}
use Rattle.figures.specs.declared.Content.{Content}
use Rattle.figures.specs.declared.Deed.{Deed}
use Rattle.figures.specs.declared.Next.{Next}
use Rattle.figures.specs.declared.Next.TheVariants.{To, Returns}
use Rattle.figures.proofs.World.{World, put_same, put_other, cell_op, tick, act, find, exchange, raise, onward}
use Rattle.figures.proofs.Inv.{Core, Tallies, raised_to}
use Rattle.figures.proofs.Guar.{Acting, Guar}
use Rattle.figures.proofs.Touch.{log, log_holds, Touch, quietly, closing, finding, exchanging, raising, ExchangesOp, RaisesOp, touch, target_kept}

-- what the test says
record RaisedTo (w : World) (q v u : ℕ) : Type 0 where
  raised : 0 < w.raised u
  cell : cell_op w u ≡ q
  low : w.target u ≤ v

raised_told : (w : World) (q v u : ℕ) → raised_to w q v u ≡ true → RaisedTo w q v u
unfolding raised_to
raised_told w q v u e =
    let a = and_true (ltb 0 (w.raised u) && eqb (cell_op w u) q) _ e in
    let b = and_true (ltb 0 (w.raised u)) _ a.0 in
    record { raised = ltb-true 0 (w.raised u) b.0; cell = eqb-true (cell_op w u) q b.1; low = leb-true (w.target u) v a.1 }

raised_tells : (w : World) (q v u : ℕ) → RaisedTo w q v u → raised_to w q v u ≡ true
unfolding raised_to
raised_tells w q v u r = rw (lt-ltb 0 (w.raised u) r.raised, eq-eqb (cell_op w u) q r.cell, le-leb (w.target u) v r.low)

raised_never : (w : World) (q v u : ℕ) → (RaisedTo w q v u → ⊥) → raised_to w q v u ≡ false
raised_never w q v u f = split (raised_to w q v u) (λ e. absurd (f (raised_told w q v u e))) (λ e. e)

-- two tests that say the same
raised_same : (w w' : World) (q v v' u : ℕ) → (RaisedTo w q v u → RaisedTo w' q v' u) → (RaisedTo w' q v' u → RaisedTo w q v u) → raised_to w q v u ≡ raised_to w' q v' u
raised_same w w' q v v' u f g =
    iff (raised_to w q v u) (raised_to w' q v' u)
    (λ e. raised_tells w' q v' u (f (raised_told w q v u e))) (λ e. raised_tells w q v u (g (raised_told w' q v' u e)))

tallies_same : (n : ℕ) (w w' : World) → log w' ≡ log w → Tallies n w → Tallies n w'
unfolding raised_to
tallies_same n w w' e k = log_holds (Tallies n) w w' e k

module _ (T n x : ℕ) (w : World) (c : Core T n x w) where
  k : Tallies n w
  k = c.tallies

  pub tallies_tick : (o : ℕ) → Tallies n (tick o w)
  unfolding raised_to
  tallies_tick o = k

  tallies_find : (o : ℕ) (b : Content) → Tallies n (find o b w)
  unfolding raised_to
  tallies_find o b = k

  module _ (o g : ℕ) (b : Content) (f : ExchangesOp w o g) where
    tallies_exchange : Tallies n (exchange o g b w)
    tallies_exchange q v h = tally_same _ _ n (λ u l. raised_same (exchange o g b w) w q v v u (old u) (new u)) ∙ k q v h
      where
        old : (u : ℕ) → RaisedTo (exchange o g b w) q v u → RaisedTo w q v u
        old u r = record { raised = r.raised; cell = r.cell; low = omega (arith, target_kept T n x w c o g u f.fresh r.raised, r.low) }

        new : (u : ℕ) → RaisedTo w q v u → RaisedTo (exchange o g b w) q v u
        new u r = record { raised = r.raised; cell = r.cell; low = omega (arith, target_kept T n x w c o g u f.fresh r.raised, r.low) }

  module _ (a q g : ℕ) (f : RaisesOp w a q g) (now : w.clock ≡ suc x) where
    abbrev w' : World
    w' = raise a q g w

    old_raised : (u : ℕ) → u ≢ a → w'.raised u ≡ w.raised u
    old_raised u m = put_other w.raised a w.clock u m

    -- another update, and bounds that part no target
    other : (q' v v' u : ℕ) → u ≢ a → (RaisedTo w q' v u → w.target u ≤ v') → (RaisedTo w q' v' u → w.target u ≤ v) → raised_to w q' v u ≡ raised_to w' q' v' u
    other q' v v' u m up down =
        raised_same w w' q' v v' u
        (λ r. record { raised = rw (old_raised u m) r.raised; cell = r.cell; low = up r })
        (λ r. let h : 0 < w.raised u = rw (old_raised u m) at r.raised in record { raised = h; cell = r.cell; low = down (record { raised = h; cell = r.cell; low = r.low }) })

    -- a test that the new one does not pass
    without : (q' v : ℕ) → (RaisedTo w' q' v a → ⊥) → tally (raised_to w' q' v) n ≡ tally (raised_to w q' v) n
    without q' v f' = tally_same _ _ n (λ u l. go u (ℕ_discrete u a))
      where
        go : (u : ℕ) → Dec (u ≡ a) → raised_to w' q' v u ≡ raised_to w q' v u
        go u (yes e) = rw e (raised_never w' q' v a f' ∙ sym (raised_never w q' v a (λ r. omega (arith, r.raised, f.unraised))))
        go u (no m) = sym (other q' v v u m (λ r. r.low) (λ r. r.low))

    -- all that are counted, and the new one
    with' : tally (raised_to w' q g) n ≡ g
    with' =
        tally_one (raised_to w q (w.count q)) (raised_to w' q g) n a (c.records.exchanges a f.exchanged).inside
        (raised_never w q (w.count q) a (λ r. omega (arith, r.raised, f.unraised)))
        (raised_tells w' q g a (record { raised = rw (put_same w.raised a w.clock) (omega arith); cell = f.cell; low = omega (arith, f.aims) }))
        (λ u l m. other q (w.count q) g u m (λ r. omega (arith, r.low, f.below)) (λ r. rw r.cell at (c.counters.done u r.raised)))
        ∙ ap suc (k q (w.count q) (omega arith))
        ∙ sym f.below

    tallies_raise : Tallies n w'
    tallies_raise q' v h = go (ℕ_discrete q' q) (dec_lt v g)
      where
        go : Dec (q' ≡ q) → Dec (v < g) → tally (raised_to w' q' v) n ≡ v
        go (no m) d = without q' v (λ r. m (sym r.cell ∙ f.cell)) ∙ k q' v (rw (put_other w.count q g q' m) at h)
        go (yes e) (yes l) = without q' v (λ r. omega (arith, r.low, f.aims)) ∙ k q' v (rw e (omega (arith, f.below)))
        go (yes e) (no l) =
            let i : v ≡ g = omega (arith, rw (e, put_same w.count q g) at h) in
            rw (e, i) with'

  module _ (t o : ℕ) (by : Acting T n x w t o) where
    tallied : {w' : World} → Touch w o w' → Tallies n w'
    tallied {w'} (quietly e h) = tallies_same n w w' e k
    tallied {w'} (closing s e h) = tallies_same n w w' e k
    tallied (finding b) = tallies_find o b
    tallied (exchanging g b f) = tallies_exchange o g b f
    tallied (raising a q g f) = tallies_raise a q g f by.clock

    pub tallies_act : (d : Deed) → Guar T x w t o d → Tallies n (act d t o w)
    tallies_act d g = tallied (touch T n x w c t o by d g)

  pub tallies_onward : (t o : ℕ) (nx : Next) → Tallies n (onward nx t o w)
  unfolding raised_to
  tallies_onward t o (To p) = k
  tallies_onward t o (Returns a) = k
