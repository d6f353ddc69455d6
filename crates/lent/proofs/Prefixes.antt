-- A run within the limits, step by step: the steps before any step are a run within the limits too, so all that is known of such
-- runs is known of the state that a step finds.
use Prim.Native.Nat.{ℕ, ◌≤◌, ◌<◌}
use mathlib.Core.Path.{sym, subst}
use mathlib.Core.List.{List, [], ◌∷◌, ◌++◌}
use native.Mathlib.Omega.{arith}
use native.Mathlib.Decide.{dec_lt}
use lib.ListN.{length, get_or, get_or-append}
use lib.Seq.{get_or_at}
use Rattle.terms.specs.declared.ThreadId.{ThreadId}
use Rattle.figures.specs.declared.Point.{Point}
use Rattle.figures.specs.declared.Machine.{Machine}
use Rattle.figures.specs.Figure4.{sight_of}
use Rattle.figures.specs.Figure3.{looks_at_cell, looks_at_snapshot}
use Rattle.figures.specs.Step.{content_at, local_at, record_at, stands_at, move_of, step_of, run_of}
use Rattle.figures.specs.Start.{start_of}
use Rattle.figures.specs.Counts.{Within}
use Rattle.figures.specs.Ranges.{bounds_of, PointIn}
use Rattle.figures.proofs.Runs.{acting}
use Rattle.figures.proofs.Frame.{own_of}
use Rattle.figures.proofs.Sound.{length_snoc, run_keeps_within}
use Rattle.figures.proofs.Sizes.{fits_now, call_at}
use Rattle.figures.proofs.Counted.{facts_run}
use Rattle.figures.proofs.Limited.{limited_run}
use Rattle.figures.proofs.Ranges.{stands_in}
use Rattle.lent.proofs.Deeds.{DeedFits, deed_fits, looks_in}

module _ (threads keys : ℕ) (counts ops : List ℕ) where
  -- what is asked of a run asks of its schedule only this
  within_steps : (s s' : List ℕ) → Within threads keys counts ops s → length s' ≤ 4096 → ((i : ℕ) → i < length s' → get_or s' i 0 < threads) → Within threads keys counts ops s'
  within_steps s s' w few below =
      record {
        some_threads = w.some_threads;
        at_most_threads = w.at_most_threads;
        some_keys = w.some_keys;
        at_most_keys = w.at_most_keys;
        counted = w.counted;
        absent = w.absent;
        operations = w.operations;
        at_most_operations = w.at_most_operations;
        bytes = w.bytes;
        keyed = w.keyed;
        at_most_steps = few;
        steps = below;
      }

  within_snoc : (s : List ℕ) (t : ℕ) → length s < 4096 → t < threads → Within threads keys counts ops s → Within threads keys counts ops (s ++ t ∷ [])
  within_snoc s t few tl w = within_steps s (s ++ t ∷ []) w (omega (arith, length_snoc s t)) (λ i l. step i l (dec_lt i (length s)))
    where
      step : (i : ℕ) → i < length (s ++ t ∷ []) → Dec (i < length s) → get_or (s ++ t ∷ []) i 0 < threads
      step i l (yes k) = rw (get_or-append s (t ∷ []) 0 i k) (w.steps i k)
      step i l (no k) = rw (get_or_at s t [] 0 i (omega (arith, length_snoc s t))) tl

  -- what holds at the start, and of every step's state if of the one that it finds, holds at the end
  pub run_within : (I : List ℕ → Machine → Type 0)
      → ((s : List ℕ) (t : ℕ) → Within threads keys counts ops s → Within threads keys counts ops (s ++ t ∷ [])
      → I s (run_of (start_of threads keys counts ops) s) → I (s ++ t ∷ []) (step_of (run_of (start_of threads keys counts ops) s) (record { 0 = t })))
      → I [] (start_of threads keys counts ops) → (schedule : List ℕ) → Within threads keys counts ops schedule → I schedule (run_of (start_of threads keys counts ops) schedule)
  run_within I step i schedule w =
      (run_keeps_within threads keys counts ops schedule w (λ s m. Within threads keys counts ops s × I s m)
      (λ s t m e l tl d h.
      let q = within_snoc s t l tl h.0 in
      (q, subst (λ (x : Machine). I (s ++ t ∷ []) (step_of x (record { 0 = t }))) (sym e) (step s t h.0 q (subst (I s) e h.1))))
      (within_steps schedule [] w (omega arith) (λ j l. absurd (omega arith)), i)).1.1

  -- the access that thread t makes next
  module _ (s : List ℕ) (w : Within threads keys counts ops s) (t : ThreadId) where
    abbrev before : Machine
    before = run_of (start_of threads keys counts ops) s

    abbrev point : Point
    point = stands_at (local_at before t).point (record_at before (local_at before t).op).asked.call

    point_in : PointIn (bounds_of (length ops) before) point
    point_in =
        stands_in (bounds_of (length ops) before) (record_at before (local_at before t).op).asked.call (local_at before t).point
        ((limited_run threads keys counts ops s w).within.points t)

    pub looks_now : (looks_at_snapshot (stands_at (local_at before t).point (record_at before (local_at before t).op).asked.call)).0 ≤ before.calculator.current.0
    looks_now = looks_in (bounds_of (length ops) before) point point_in

    pub deed_now : (local_at before t).op.0 < (local_at before t).end.0
        → DeedFits before.calculator.current.0 (call_at before (local_at before t).op.0) (own_of before (local_at before t).op.0) (move_of before t).deed
    unfolding move_of
    deed_now l =
        let x = (record_at before (local_at before t).op).asked in
        let f = facts_run threads keys counts ops s w in
        let tl : t.0 < 8 = omega (arith, acting before t l, f.0.shape.locals) in
        deed_fits (bounds_of (length ops) before) t (local_at before t).op x.call before.threads (local_at before t).seen
        (sight_of before.calculator (looks_at_snapshot point) (looks_at_cell t point)) (content_at before x.key) (own_of before (local_at before t).op.0) point point_in
        (fits_now counts threads w.some_threads w.at_most_threads s before f.0 f.1.ranks t tl l)
