-- Own and idle steps are what their words say: the counters that the machine keeps are counts over the schedule.
use Prim.Native.Nat.{ℕ, ◌+◌, ◌-◌, ◌≤◌, ◌<◌}
use mathlib.Core.Path.{◌≡◌, ap, ap₂, ◌∙◌}
use mathlib.Core.Bool.{Bool, cond}
use mathlib.Core.List.{List, [], ◌∷◌, ◌++◌}
use native.Mathlib.Omega.{arith}
use lib.ListN.{length, take}
use lib.Seq.{take-append-le, take-append_seam}
use borrow.Author.Tests.{le-leb, lt-leb}
use Rattle.history.specs.Steps.{steps_that}
use Rattle.history.proofs.OwnSteps.{steps_snoc, steps_same, own_taken, own_rested}
use Rattle.history.proofs.OwnSteps as OwnSteps
use Rattle.figures.specs.declared.Machine.{Machine}
use Rattle.figures.specs.Figure4.{more}
use Rattle.figures.specs.Step.{accessed, idled, step_of, run_of}
use Rattle.figures.specs.Counts.{ops_before, state_before, idle_at, idle_steps}
use Rattle.figures.proofs.Laws.{more_is}
use Rattle.figures.proofs.Runs.{step_case, acting}
use Rattle.figures.proofs.Frame.{op_of, end_of, board_of, turn-of}
use Rattle.figures.proofs.Begin.{before_grows}
use Rattle.figures.proofs.Threads.{moved}
use Rattle.figures.proofs.Sound.{Sound}

-- one step more, of a test on the state before it
pub before_snoc : (q : Machine → ℕ → Bool) (start : Machine) (s : List ℕ) (t : ℕ)
    → steps_that (λ i u. q (state_before start (s ++ t ∷ []) i) u) 1 (s ++ t ∷ [])
    ≡ steps_that (λ i u. q (state_before start s i) u) 1 s + cond (q (run_of start s) t) 1 0
before_snoc q start s t =
    let f : ℕ → ℕ → Bool = λ i u. q (state_before start (s ++ t ∷ []) i) u in
    let k : 1 + length s - 1 ≡ length s = omega arith in
    let e : take (1 + length s - 1) (s ++ t ∷ []) ≡ s = rw k (take-append_seam s (t ∷ [])) in
    steps_snoc f 1 s t
    ∙ ap₂ (λ (a b : ℕ). a + b)
    (steps_same f (λ i u. q (state_before start s i) u) 1 s (λ k u a b. ap (λ (l : List ℕ). q (run_of start l) u) (take-append-le (k - 1) s (t ∷ []) (omega arith))))
    (ap (λ (l : List ℕ). cond (q (run_of start l) t) 1 0) e)

abbrev pub Own : List ℕ → List ℕ → Machine → Type 0
Own counts s m = OwnSteps.Own (ops_before counts 8) s (board_of m)

module _ (counts : List ℕ) (few : ops_before counts 8 ≤ 64) (n : ℕ) (s : List ℕ) (t : ℕ) (m : Machine)
    (d : Sound n counts s m) (c : m.clock < 4096) where
  pub own_step : Own counts s m → Own counts (s ++ t ∷ []) (step_of m (record { 0 = t }))
  own_step h = step_case (Own counts (s ++ t ∷ [])) m (record { 0 = t }) access idle
    where
      access : op_of m t < end_of m t → Own counts (s ++ t ∷ []) (accessed m (record { 0 = t }))
      access l =
          own_taken 8 (ops_before counts) (before_grows counts) s t (board_of m) d.owners d.clock
          (board_of (accessed m (record { 0 = t }))) (omega (arith, acting m (record { 0 = t }) l, d.shape.locals)) l
          (turn-of (moved counts few m (record { 0 = t }) d.shape c d.owners l)) h

      idle : end_of m t ≤ op_of m t → Own counts (s ++ t ∷ []) (idled m)
      idle l =
          own_rested 8 (ops_before counts) (before_grows counts) s t (board_of m) d.owners d.clock
          (more m.clock) (more m.idle) l h

  -- ---- Idle steps.

  pub idle_step : (start : Machine) → m ≡ run_of start s → m.idle ≡ idle_steps start s → (step_of m (record { 0 = t })).idle ≡ idle_steps start (s ++ t ∷ [])
  idle_step start e h =
      step_case (λ (m' : Machine). m'.idle ≡ idle_steps start (s ++ t ∷ [])) m (record { 0 = t })
      (λ l.
      let q : ◌≡◌ {A = ℕ} (cond (idle_at (run_of start s) t) 1 0) 0 = rw (← e) (rw (lt-leb (end_of m t) (op_of m t) l)) in
      (moved counts few m (record { 0 = t }) d.shape c d.owners l).idle ∙ omega (arith, before_snoc idle_at start s t))
      (λ l.
      let q : ◌≡◌ {A = ℕ} (cond (idle_at (run_of start s) t) 1 0) 1 = rw (← e) (rw (le-leb (end_of m t) (op_of m t) l)) in
      more_is m.idle (omega (arith, d.owners.idles)) ∙ omega (arith, before_snoc idle_at start s t))
