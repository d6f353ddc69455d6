-- A run over a lent table: it leaves the announced records there and the rest as lent, and all else of the machine is as without it;
-- and the machine's own table is found again from the announced records.
use Prim.Native.Nat.{ℕ, suc, ◌≤◌, ◌<◌}
use mathlib.Core.Path.{◌≡◌, refl, ap, ◌∙◌, subst}
use mathlib.Core.Bool.{false}
use mathlib.Core.List.{List, [], ◌∷◌, ◌++◌}
use native.Mathlib.Omega.{arith}
use lib.ListN.{length, set, replicate, length-set, length-replicate}
use lib.Seq.{sets, get_or-set_same, get_or-set_other}
use Rattle.terms.specs.declared.ThreadId.{ThreadId}
use Rattle.figures.specs.declared.Snapshot.{Snapshot}
use Rattle.figures.specs.declared.Machine.{Machine}
use Rattle.figures.specs.Limits.{most_operations}
use Rattle.figures.specs.Figure4.{no_snapshot, fresh_snapshot}
use Rattle.figures.specs.Step.{local_at, step_of, run_of}
use Rattle.figures.specs.Start.{start_of}
use Rattle.figures.specs.Counts.{Within}
use Rattle.figures.proofs.Laws.{more_byte_is}
use Rattle.figures.proofs.Runs.{run_snoc}
use Rattle.figures.proofs.Frame.{own_of}
use Rattle.figures.proofs.Shape.{shape_run}
use Rattle.figures.proofs.Sizes.{call_at}
use Rattle.figures.proofs.Limited.{limited_run}
use Rattle.lent.specs.Table.{with_table, announced_in, sizes_of}
use Rattle.lent.proofs.Prefixes.{run_within, looks_now, deed_now}
pub use Rattle.lent.proofs.Few.{announced_few}
use Rattle.lent.proofs.Tables.{Along, along_step}
use Rattle.lent.proofs.Fronts.{Front, front_is, front_change, own_change}

-- the table before the first step
abbrev fresh_table : List Snapshot
fresh_table = replicate (suc most_operations) (fresh_snapshot false)

-- the machine m after the steps s, and the same run over the lent table
record Lent (start : Machine) (ys : List Snapshot) (s : List ℕ) (m : Machine) : Type 0 where
  table : List Snapshot
  same : run_of (with_table (set ys 0 (fresh_snapshot false)) start) s ≡ with_table table m
  shown : Front no_snapshot (suc m.calculator.current.0) m.calculator.snapshots ys table
  own : Front no_snapshot (suc m.calculator.current.0) m.calculator.snapshots fresh_table m.calculator.snapshots

module _ (threads keys : ℕ) (counts ops : List ℕ) (ys : List Snapshot) (room : sizes_of ops < length ys) where
  abbrev start : Machine
  start = start_of threads keys counts ops

  lent_start : Lent start ys [] start
  unfolding start_of run_of
  lent_start =
      record {
        table = set ys 0 (fresh_snapshot false);
        same = refl;
        shown =
            record {
              long = length-set ys 0 (fresh_snapshot false);
              front = λ i l. let e : i ≡ 0 = omega arith in rw e (get_or-set_same ys 0 (fresh_snapshot false) no_snapshot (omega arith));
              rest = λ i l. get_or-set_other ys 0 i (fresh_snapshot false) no_snapshot (λ e. omega arith);
            };
        own = record { long = refl; front = λ i l. refl; rest = λ i l. refl };
      }

  module _ (s : List ℕ) (w : Within threads keys counts ops s) where
    -- the current snapshot has its place in both tables
    in_lent : suc (run_of start s).calculator.current.0 ≤ length ys
    in_lent = omega (arith, announced_few threads keys counts ops s w)

    in_own : suc (run_of start s).calculator.current.0 ≤ 65
    in_own = omega (arith, (limited_run threads keys counts ops s w).current)

    own_long : length (run_of start s).calculator.snapshots ≡ 65
    own_long = (shape_run threads keys counts ops s w.counted).calculator.snapshots

  module _ (s : List ℕ) (t : ℕ) (w : Within threads keys counts ops s) (w' : Within threads keys counts ops (s ++ t ∷ [])) (h : Lent start ys s (run_of start s)) where
    abbrev m : Machine
    m = run_of start s

    abbrev id : ThreadId
    id = record { 0 = t }

    stepped : Along m h.table (step_of m id) (step_of (with_table h.table m) id)
    stepped =
        along_step m h.table (λ n l. h.shown.front n (omega arith)) (more_byte_is m.calculator.current.0 (omega (arith, in_own s w))) id
        (looks_now threads keys counts ops s w id) (call_at m (local_at m id).op.0) (own_of m (local_at m id).op.0) (deed_now threads keys counts ops s w id)

    lent_step : Lent start ys (s ++ t ∷ []) (step_of m id)
    lent_step =
        let e = run_snoc start s t in
        let in_lent' : suc (step_of m id).calculator.current.0 ≤ length ys = subst (λ (x : Machine). suc x.calculator.current.0 ≤ length ys) e (in_lent (s ++ t ∷ []) w') in
        let in_own' : suc (step_of m id).calculator.current.0 ≤ 65 = subst (λ (x : Machine). suc x.calculator.current.0 ≤ 65) e (in_own (s ++ t ∷ []) w') in
        let long = own_long s w in
        record {
          table = stepped.table;
          same = run_snoc (with_table (set ys 0 (fresh_snapshot false)) start) s t ∙ ap (λ (x : Machine). step_of x id) h.same ∙ stepped.same;
          shown = front_change _ _ _ ys _ _ _ stepped.change (omega arith) in_lent' h.shown;
          own = front_change _ _ _ fresh_table _ _ _ (own_change stepped.change) (omega arith) (omega (arith, length-replicate 65 (fresh_snapshot false))) h.own;
        }

  module _ (schedule : List ℕ) (w : Within threads keys counts ops schedule) where
    abbrev end : Machine
    end = run_of start schedule

    lent_all : Lent start ys schedule end
    lent_all = run_within threads keys counts ops (Lent start ys) lent_step lent_start schedule w

    left : lent_all.table ≡ sets ys 0 (announced_in end)
    left = front_is no_snapshot _ _ ys lent_all.table (omega (arith, in_own schedule w, own_long schedule w)) (in_lent schedule w) lent_all.shown

    -- after a run the lent table has the announced records, and the others as lent
    pub lent_run : run_of (with_table (set ys 0 (fresh_snapshot false)) start) schedule ≡ with_table (sets ys 0 (announced_in end)) end
    lent_run = lent_all.same ∙ ap (λ (z : List Snapshot). with_table z end) left
