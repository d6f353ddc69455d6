-- The windows of the raised updates are kept by each part of a step.
use Prim.Native.Nat.{ℕ, suc, ◌≤◌, ◌<◌}
use mathlib.Core.Path.{◌≡◌, refl, sym, ap, ◌∙◌}
use native.Mathlib.Omega.{arith}
use native.Mathlib.Decide.{ℕ_discrete, dec_le, dec_lt}
use borrow.Author.Tests.{eq-eqb}
use Rattle.figures.specs.declared.Update.{Update}
use Rattle.figures.specs.declared.UpdateDeed.{UpdateDeed}
use Rattle.figures.specs.declared.UpdateDeed.TheVariants.{Reads, Raises, Forwards}
use Rattle.figures.specs.declared.SizeDeed.{SizeDeed}
use Rattle.figures.specs.declared.SizeDeed.TheVariants.{Looks, Announces, Collects, Lowers, Keeps, Fixes, Shares}
use Rattle.figures.specs.declared.Deed.{Deed}
use Rattle.figures.specs.declared.Deed.TheVariants.{Rests, Finds, Links, Marks, Unlinks, Updates, Sizes}
use Rattle.figures.specs.declared.Next.{Next}
use Rattle.figures.specs.declared.Next.TheVariants.{To, Returns}
use Rattle.figures.proofs.Laws.{eq_case}
use Rattle.figures.proofs.World.{World, put_same, put_other, tick, act, onward, raise, update_op, update_cell, update_target}
use Rattle.figures.proofs.Inv.{Core, Known, InWindow, Windows}
use Rattle.figures.proofs.Grows.{Grows}
use Rattle.figures.proofs.Guar.{Acting}
use Rattle.figures.proofs.Stable.{in_window_grows}

-- the window of u is what it has to be
record Windowed (w : World) (u : ℕ) : Type 0 where
  told : 0 < w.window u → InWindow w u (w.window u)
  only : (s : ℕ) → InWindow w u s → w.window u ≡ s

module _ {T n x t a : ℕ} {w w' : World} (core : Core T n x w) (g : Grows x t a w w') where
  -- no later snapshot has an update that was raised before
  window_back : (u s : ℕ) → 0 < w.raised u → InWindow w' u s → InWindow w u s
  window_back u s p i = go (dec_le s w.cur)
    where
      r : w'.raised u ≡ w.raised u
      r = ((g.rise u).kept p).0

      go : Dec (s ≤ w.cur) → InWindow w u s
      go (yes h) =
          let k : Known w s = record { some = i.known.some; there = h } in
          record {
            known = k;
            after = omega (arith, r, (g.ages s k).ann, i.after);
            before = λ c. let e = (g.ages s k).closed c in omega (arith, r, e, i.before (omega arith));
          }
      go (no h) = absurd (omega (arith, r, g.new s (omega arith) i.known.there, i.after, (core.records.raises u p).past))

  windowed_old : (u : ℕ) → 0 < w.raised u → Windowed w' u
  windowed_old u p =
      record {
        told = λ z. rw e (in_window_grows core g p (core.windows.told u p (omega (arith, e))));
        only = λ s i. e ∙ core.windows.only u s p (window_back u s p i);
      }
    where
      e : w'.window u ≡ w.window u
      e = ((g.rise u).kept p).1

  -- what a part of a step leaves: the updates that it raises have to be seen to
  windows_grow : ((u : ℕ) → w.raised u ≡ 0 → 0 < w'.raised u → Windowed w' u) → Windows w'
  windows_grow new = record { told = λ u p. (each u p).told; only = λ u s p. (each u p).only s }
    where
      each : (u : ℕ) → 0 < w'.raised u → Windowed w' u
      each u p = go (ℕ_discrete (w.raised u) 0)
        where
          go : Dec (w.raised u ≡ 0) → Windowed w' u
          go (yes e) = new u e p
          go (no n) = windowed_old u (omega arith)

  -- it raises none
  pub windows_still : w'.raised ≡ w.raised → Windows w'
  windows_still same = windows_grow (λ u e p. absurd (omega (arith, ap (λ (f : ℕ → ℕ). f u) same)))

-- ---- A raising: the window is the snapshot that is announced and not closed, if there is one.

module _ {T n x t o : ℕ} {w : World} (core : Core T n x w) (now : Acting T n x w t o) where
  -- announced and not closed, so the current one
  unclosed_current : (s : ℕ) → Known w s → w.closed s ≡ 0 → s ≡ w.cur
  unclosed_current s k c = go (dec_lt s w.cur)
    where
      go : Dec (s < w.cur) → s ≡ w.cur
      go (yes h) = absurd (omega (arith, core.snaps.shut s k (core.snaps.past s h)))
      go (no h) = omega arith

  -- of the update v, raised now
  raised_now : (v q y : ℕ) → Windowed (raise v q y w) v
  raised_now v q y = record { told = told; only = only }
    where
      w' : World
      w' = raise v q y w

      at : w'.raised v ≡ suc x
      at = put_same w.raised v w.clock ∙ now.clock

      here : Known w w.cur → w.closed w.cur ≡ 0 → InWindow w' v w.cur
      here k z =
          record {
            known = record { some = k.some; there = omega arith };
            after = omega (arith, at, (core.snaps.announced w.cur k).1);
            before = λ c. absurd (omega arith);
          }

      told : 0 < w'.window v → InWindow w' v (w'.window v)
      told = rw put_same (eq_case (λ m. 0 < m → InWindow w' v m) (w.closed w.cur) 0 w.cur 0 (λ z h. here (record { some = h; there = omega arith }) z) (λ z h. absurd (omega arith)))

      only : (s : ℕ) → InWindow w' v s → w'.window v ≡ s
      only s i = rw (put_same, eq-eqb (w.closed w.cur) 0 (rw e at z)) (sym e)
        where
          k : Known w s
          k = record { some = i.known.some; there = i.known.there }

          unclosed : Dec (w.closed s ≡ 0) → w.closed s ≡ 0
          unclosed (yes z) = z
          unclosed (no z) = absurd (omega (arith, at, i.before (omega arith), (core.snaps.spans s k (omega arith)).1))

          z : w.closed s ≡ 0
          z = unclosed (ℕ_discrete (w.closed s) 0)

          e : s ≡ w.cur
          e = unclosed_current s k z

  windows_raise : (u : Update) → Grows x t o w (act (Updates Raises u) t o w) → Windows (act (Updates Raises u) t o w)
  windows_raise u g = windows_grow core g new
    where
      w' : World
      w' = act (Updates Raises u) t o w

      new : (v : ℕ) → w.raised v ≡ 0 → 0 < w'.raised v → Windowed w' v
      new v z p = go (ℕ_discrete v (update_op u))
        where
          go : Dec (v ≡ update_op u) → Windowed w' v
          go (yes e) = rw e (raised_now (update_op u) (update_cell u) (update_target u))
          go (no h) = absurd (omega (arith, put_other w.raised (update_op u) w.clock v h))

  -- ---- By deed.

  windows_update : (d : UpdateDeed) (u : Update) → Grows x t o w (act (Updates d u) t o w) → Windows (act (Updates d u) t o w)
  windows_update Reads u g = windows_still core g refl
  windows_update Raises u g = windows_raise u g
  windows_update (Forwards s) u g = windows_still core g refl

  windows_compute : (d : SizeDeed) → Grows x t o w (act (Sizes d) t o w) → Windows (act (Sizes d) t o w)
  windows_compute Looks g = windows_still core g refl
  windows_compute Announces g = windows_still core g refl
  windows_compute (Collects s j v) g = windows_still core g refl
  windows_compute (Lowers s) g = windows_still core g refl
  windows_compute (Keeps j v) g = windows_still core g refl
  windows_compute (Fixes s v) g = windows_still core g refl
  windows_compute (Shares s) g = windows_still core g refl

  pub windows_act : (d : Deed) → Grows x t o w (act d t o w) → Windows (act d t o w)
  windows_act Rests g = windows_still core g refl
  windows_act (Finds c) g = windows_still core g refl
  windows_act (Links d) g = windows_still core g refl
  windows_act (Marks m d) g = windows_still core g refl
  windows_act Unlinks g = windows_still core g refl
  windows_act (Updates d u) g = windows_update d u g
  windows_act (Sizes d) g = windows_compute d g

-- ---- The rest of a step raises none.

module _ {T n x t o : ℕ} {w : World} (core : Core T n x w) where
  pub windows_tick : Grows x t o w (tick o w) → Windows (tick o w)
  windows_tick g = windows_still core g refl

  pub windows_onward : (nx : Next) → Grows x t o w (onward nx t o w) → Windows (onward nx t o w)
  windows_onward (To p) g = windows_still core g refl
  windows_onward (Returns a) g = windows_still core g refl
