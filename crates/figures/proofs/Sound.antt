-- Every run within the limits: what holds at the start and is kept by each step, in a state of which the shape, the threads'
-- facts and the clock are known, holds at the end.
use Prim.Native.Nat.{ℕ, suc, ◌≤◌, ◌<◌}
use mathlib.Core.Path.{◌≡◌, refl, ◌∙◌}
use mathlib.Core.List.{List, [], ◌∷◌, ◌++◌}
use native.Mathlib.Omega.{arith}
use lib.ListN.{length, get_or, length-append}
use Rattle.figures.specs.declared.Machine.{Machine}
use Rattle.figures.specs.Step.{step_of, run_of}
use Rattle.figures.specs.Start.{start_of}
use Rattle.figures.specs.Counts.{ops_before, Within}
use Rattle.figures.proofs.Laws.{more_is}
use Rattle.figures.proofs.Runs.{step_case, Below, run_holds}
use Rattle.figures.proofs.Shape.{Shape, shape_step, shape_start}
use Rattle.figures.proofs.Threads.{Threads, threads_step, threads_start, moved}

pub length_snoc : (s : List ℕ) (t : ℕ) → length (s ++ t ∷ []) ≡ suc (length s)
length_snoc s t = length-append s (t ∷ []) ∙ omega arith

-- the state m after the steps s
pub record Sound (n : ℕ) (counts s : List ℕ) (m : Machine) : Type 0 where
  pub shape : Shape m
  pub owners : Threads counts m
  pub clock : m.clock ≡ length s
  pub threads : m.threads ≡ n

below_of : (n : ℕ) (s : List ℕ) → ((i : ℕ) → i < length s → get_or s i 0 < n) → Below n s
below_of n [] f = tt
below_of n (t ∷ s) f = (f 0 (omega arith), below_of n s (λ i h. f (suc i) (omega arith)))

module _ (n : ℕ) (counts : List ℕ) (few : ops_before counts 8 ≤ 64) where
  sound_step : (s : List ℕ) (t : ℕ) (m : Machine) → length s < 4096 → Sound n counts s m → Sound n counts (s ++ t ∷ []) (step_of m (record { 0 = t }))
  sound_step s t m l d =
      let c : m.clock < 4096 = omega (arith, d.clock) in
      record {
        shape = shape_step m (record { 0 = t }) d.shape;
        owners = threads_step counts few m (record { 0 = t }) d.shape c d.owners;
        clock =
            step_case (λ (x : Machine). x.clock ≡ length (s ++ t ∷ [])) m (record { 0 = t })
            (λ h. (moved counts few m (record { 0 = t }) d.shape c d.owners h).clock ∙ omega (arith, d.clock, length_snoc s t))
            (λ h. more_is m.clock (omega arith) ∙ omega (arith, d.clock, length_snoc s t));
        threads =
            step_case (λ (x : Machine). x.threads ≡ n) m (record { 0 = t })
            (λ h. (moved counts few m (record { 0 = t }) d.shape c d.owners h).threads ∙ d.threads)
            (λ h. d.threads);
      }

module _ (threads keys : ℕ) (counts ops : List ℕ) (schedule : List ℕ) (w : Within threads keys counts ops schedule) where
  pub few_ops : ops_before counts 8 ≤ 64
  few_ops = omega (arith, w.operations, w.at_most_operations)

  sound_start : Sound threads counts [] (start_of threads keys counts ops)
  sound_start =
      record {
        shape = shape_start threads keys counts ops w.counted;
        owners = threads_start counts few_ops threads keys ops w.counted w.operations;
        clock = unfold start_of in refl;
        threads = unfold start_of in refl;
      }

  module _ (I : List ℕ → Machine → Type 0) where
    -- both at once, as long as the steps are not too many
    pub run_keeps_within :
        ((s : List ℕ) (t : ℕ) (m : Machine) → m ≡ run_of (start_of threads keys counts ops) s → length s < 4096 → t < threads
        → Sound threads counts s m → I s m → I (s ++ t ∷ []) (step_of m (record { 0 = t })))
        → I [] (start_of threads keys counts ops)
        → (Sound threads counts schedule (run_of (start_of threads keys counts ops) schedule)) × I schedule (run_of (start_of threads keys counts ops) schedule)
    run_keeps_within step i =
        run_holds threads (start_of threads keys counts ops) (λ (s : List ℕ) (m : Machine). length s ≤ 4096 → Sound threads counts s m × I s m)
        (λ s t m e l h k.
        let q : length s < 4096 = omega (arith, length_snoc s t) in
        let r = h (omega arith) in
        (sound_step threads counts few_ops s t m q r.0, step s t m e q l r.0 r.1))
        (λ l. (sound_start, i)) schedule (below_of threads schedule w.steps) w.at_most_steps

  pub sound_run : Sound threads counts schedule (run_of (start_of threads keys counts ops) schedule)
  sound_run = (run_keeps_within (λ s m. Unit {0}) (λ s t m e l h d u. tt) tt).0
