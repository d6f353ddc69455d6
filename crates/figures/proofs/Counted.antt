-- Own, idle and snapshot counts are what their words say, and sizes take no more and no fewer own steps than document 01 says: for
-- every run within the limits.
use Prim.Native.Nat.{ℕ, ◌<◌}
use mathlib.Core.Path.{◌≡◌, refl, ◌∙◌, subst}
use mathlib.Core.List.{List, [], ◌∷◌, ◌++◌}
use native.Mathlib.Omega.{arith}
use lib.ListN.{length}
use Rattle.history.specs.Steps.{steps_that}
use Rattle.figures.specs.declared.Record.{Record}
use Rattle.figures.specs.declared.Machine.{Machine}
use Rattle.figures.specs.Step.{step_of, run_of}
use Rattle.figures.specs.Start.{start_of}
use Rattle.figures.specs.Counts.{Within, idle_steps, announced_steps, Counted, SizeSteps}
use Rattle.figures.proofs.Runs.{step_case}
use Rattle.figures.proofs.Frame.{record_of}
use Rattle.figures.proofs.Begin.{start_records}
use Rattle.figures.proofs.Threads.{moved}
use Rattle.figures.proofs.Sound.{Sound, run_keeps_within, few_ops}
use Rattle.figures.proofs.OwnSteps.{Own, own_step, idle_step}
use Rattle.figures.proofs.Sizes.{Ranks, ranks_start, ranks_step, size_steps, Announced, announced_start, announced_step, snapshots_step}

pub record Facts (start : Machine) (counts s : List ℕ) (m : Machine) : Type 0 where
  pub asked : (o : ℕ) → (record_of m o).asked ≡ (record_of start o).asked
  pub own : Own counts s m
  pub idle : m.idle ≡ idle_steps start s
  pub ranks : Ranks counts m
  pub announced : Announced counts m
  pub snapshots : m.calculator.current.0 ≡ announced_steps start s

module _ (threads keys : ℕ) (counts ops : List ℕ) (schedule : List ℕ) (w : Within threads keys counts ops schedule) where
  pub facts_start : Facts (start_of threads keys counts ops) counts [] (start_of threads keys counts ops)
  unfolding steps_that
  facts_start =
      record {
        asked = λ o. refl;
        own = λ o l. start_records threads keys counts ops (λ (r : Record). r.outcome.own ≡ 0) refl (λ u b. refl) o;
        idle = unfold start_of in refl;
        ranks = ranks_start threads keys counts ops;
        announced = announced_start threads keys counts ops;
        snapshots = unfold start_of in refl;
      }

  pub facts_step : (s : List ℕ) (t : ℕ) (m : Machine) → m ≡ run_of (start_of threads keys counts ops) s → length s < 4096 → t < threads → Sound threads counts s m
      → Facts (start_of threads keys counts ops) counts s m → Facts (start_of threads keys counts ops) counts (s ++ t ∷ []) (step_of m (record { 0 = t }))
  facts_step s t m e l h d f =
      let few = few_ops threads keys counts ops schedule w in
      let c : m.clock < 4096 = omega (arith, d.clock) in
      record {
        asked = λ o.
            step_case (λ (m' : Machine). (record_of m' o).asked ≡ (record_of (start_of threads keys counts ops) o).asked) m (record { 0 = t })
            (λ x. (moved counts few m (record { 0 = t }) d.shape c d.owners x).asked o ∙ f.asked o) (λ x. f.asked o);
        own = own_step counts few threads s t m d c f.own;
        idle = idle_step counts few threads s t m d c (start_of threads keys counts ops) e f.idle;
        ranks = ranks_step counts threads w.some_threads w.at_most_threads s m d f.ranks few c (record { 0 = t });
        announced = announced_step counts few threads w.some_threads w.at_most_threads s m d f.ranks c f.announced (record { 0 = t });
        snapshots = snapshots_step counts few threads w.some_threads w.at_most_threads s m d f.ranks c f.announced (record { 0 = t }) (start_of threads keys counts ops) e f.snapshots;
      }

  -- what is known of the state at the end
  pub facts_run : Sound threads counts schedule (run_of (start_of threads keys counts ops) schedule)
      × Facts (start_of threads keys counts ops) counts schedule (run_of (start_of threads keys counts ops) schedule)
  facts_run = run_keeps_within threads keys counts ops schedule w (Facts (start_of threads keys counts ops) counts) facts_step facts_start

  pub counted_run : Counted (start_of threads keys counts ops) (length ops) schedule (run_of (start_of threads keys counts ops) schedule)
  counted_run =
      record {
        own = λ o l. facts_run.1.own o.0 (omega (arith, w.operations));
        idle = facts_run.1.idle;
        snapshots = facts_run.1.snapshots;
        clock = facts_run.0.clock;
      }

  pub size_steps_run : SizeSteps threads (length ops) (run_of (start_of threads keys counts ops) schedule)
  size_steps_run =
      subst (λ (n : ℕ). SizeSteps threads n (run_of (start_of threads keys counts ops) schedule)) w.operations
      (size_steps counts threads w.some_threads w.at_most_threads schedule (run_of (start_of threads keys counts ops) schedule) facts_run.0 facts_run.1.ranks)
