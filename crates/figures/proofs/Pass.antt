-- A step that changes nothing but the clock keeps all that holds.
use Prim.Native.Nat.{ℕ, suc, ◌≤◌}
use mathlib.Core.Path.{◌≡◌, refl, sym, ◌∙◌}
use mathlib.Core.Logic.{inl}
use native.Mathlib.Omega.{arith}
use Rattle.figures.specs.declared.Point.{Point}
use Rattle.figures.proofs.World.{World}
use Rattle.figures.proofs.Inv.{Core, Knows, raised_to, Event, stamp}
use Rattle.figures.proofs.Inv.Event.{exchanges, raises, reads, closes}
use Rattle.figures.proofs.Grows.{Grows}
use Rattle.figures.proofs.Growth.{grows_still}
use Rattle.figures.proofs.Stable.{knows_grows}
use Rattle.figures.proofs.RecordsKept.{records_kept}
use Rattle.figures.proofs.KeysKept.{keys_quiet}
use Rattle.figures.proofs.FindersKept.{finders_quiet}
use Rattle.figures.proofs.BalancesKept.{balances_quiet}
use Rattle.figures.proofs.ReturnedKept.{returned_kept}
use Rattle.figures.proofs.SnapsKept.{snaps_stand}
use Rattle.figures.proofs.WindowsKept.{windows_still}
use Rattle.figures.proofs.Mirror.{pass}

pub grows_pass : (x t a : ℕ) (w : World) → Grows x t a w (pass w)
grows_pass x t a w = grows_still x t a w (pass w) refl refl refl refl refl

stamp_pass : (w : World) (e : Event) → stamp (pass w) e ≡ stamp w e
stamp_pass w (exchanges o) = refl
stamp_pass w (raises o) = refl
stamp_pass w (reads o) = refl
stamp_pass w (closes s) = refl

module _ {T n x : ℕ} {w : World} (core : Core T n x w) where
  -- an operation that has not returned stands for the acting one
  pub core_pass : (x' a : ℕ) → x ≤ x' → w.last a ≡ 0 → Core T n x' (pass w)
  unfolding raised_to
  core_pass x' a h none =
      let g = grows_pass x 0 a w in
      let c = core.counters in
      record {
        records =
            records_kept T n x x' w (pass w) h core.records
            (record { asked = refl; clock = omega arith; first = λ o. inl refl; exch = λ o. inl (refl, refl); raised = λ o. inl refl; read = λ o. inl refl; last = λ o. inl refl });
        counters = record { due = c.due; done = c.done; own = c.own; order = c.order };
        tallies = core.tallies;
        snaps = snaps_stand core g h refl;
        windows = windows_still core g refl;
        keys = keys_quiet core g x' h (record { exch = refl; read = refl; found = refl; content = refl });
        balances = balances_quiet core g x' h (record { exch = refl; read = refl; found = refl; content = refl });
        finders = finders_quiet core g (record { exch = refl; read = refl; found = refl; content = refl });
        returned = returned_kept core g none;
        stamps = λ e e' l i. core.stamps e e' (rw (stamp_pass w e) at l) (sym (stamp_pass w e) ∙ i ∙ stamp_pass w e');
      }

  -- whatever a thread knows, it knows still
  pub knows_pass : (x' t : ℕ) → x ≤ x' → w.first (w.op t) ≤ x → (p : Point) → Knows T x w t (w.op t) p → Knows T x' (pass w) t (w.op t) p
  knows_pass x' t h f p k = knows_grows core (grows_pass x (suc t) (suc (w.op t)) w) h refl refl (omega arith) f p k
