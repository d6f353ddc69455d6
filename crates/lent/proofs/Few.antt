-- No more snapshots are announced than there are sizes: each announcement is some size's third own step.
use Prim.Native.Nat.{ℕ, zero, suc, ◌+◌, ◌≤◌, ◌<◌}
use mathlib.Core.Path.{◌≡◌, refl, sym, ap, ◌∙◌, subst}
use mathlib.Core.Bool.{Bool, true, false, cond, ◌&&◌}
use mathlib.Core.List.{List, [], ◌∷◌, ◌++◌}
use native.Mathlib.Omega.{arith}
use native.Mathlib.Nat.{le_of_suc-le-suc}
use native.Mathlib.Decide.{ℕ_discrete}
use lib.ListN.{length, get_or}
use lib.Dec.{leb}
use borrow.Author.Tests.{le-leb, lt-leb, leb-true}
use Rattle.terms.specs.declared.ThreadId.{ThreadId}
use Rattle.figures.specs.declared.Asked.{Asked}
use Rattle.figures.specs.declared.Outcome.{Outcome}
use Rattle.figures.specs.declared.Record.{Record}
use Rattle.figures.specs.declared.Machine.{Machine}
use Rattle.figures.specs.Step.{local_at, move_of, accessed, step_of, run_of}
use Rattle.figures.specs.Start.{call_of, start_of}
use Rattle.figures.specs.Counts.{Within, is_announcement}
use Rattle.figures.proofs.Laws.{test_case}
use Rattle.figures.proofs.Runs.{step_case, acting}
use Rattle.figures.proofs.Frame.{own_of, Moved}
use Rattle.figures.proofs.Begin.{before_grows, start_record}
use Rattle.figures.proofs.Threads.{moved}
use Rattle.figures.proofs.Sound.{Sound, few_ops, length_snoc}
use Rattle.figures.proofs.Sizes.{current_counts, call_at}
use Rattle.figures.proofs.Counted.{facts_run}
use Rattle.figures.specs.Codec.{is_size}
use Rattle.lent.specs.Table.{sizes_of}
use Rattle.lent.proofs.Deeds.{Third, announcement_third}
use Rattle.lent.proofs.Prefixes.{run_within, deed_now}

-- ---- How many sizes pass a test on the operation's number; the first byte's is k.

abbrev passing : (ℕ → Bool) → ℕ → List ℕ → ℕ
passing f k [] = 0
passing f k (b ∷ ops) = cond (is_size (call_of b) && f k) 1 0 + passing f (suc k) ops

passes_most : (a b : Bool) → ◌≤◌ (cond (a && b) 1 0) (cond a 1 0)
passes_most true true = omega arith
passes_most true false = omega arith
passes_most false b = omega arith

passing_most : (f : ℕ → Bool) (k : ℕ) (ops : List ℕ) → passing f k ops ≤ sizes_of ops
unfolding sizes_of
passing_most f k [] = omega arith
passing_most f k (b ∷ ops) = omega (arith, passing_most f (suc k) ops, passes_most (is_size (call_of b)) (f k))

module _ (f g : ℕ → Bool) (grows : (i : ℕ) → f i ≡ true → g i ≡ true) where
  passes_grows : (a x y : Bool) → (x ≡ true → y ≡ true) → ◌≤◌ (cond (a && x) 1 0) (cond (a && y) 1 0)
  passes_grows true true y h = rw (h refl) (omega arith)
  passes_grows true false y h = omega arith
  passes_grows false x y h = omega arith

  passing_grows : (k : ℕ) (ops : List ℕ) → passing f k ops ≤ passing g k ops
  passing_grows k [] = omega arith
  passing_grows k (b ∷ ops) = omega (arith, passing_grows (suc k) ops, passes_grows (is_size (call_of b)) (f k) (g k) (grows k))

  -- one more passes
  passing_more : (k : ℕ) (ops : List ℕ) (o : ℕ) → o < length ops → is_size (call_of (get_or ops o 0)) ≡ true → f (k + o) ≡ false → g (k + o) ≡ true
      → suc (passing f k ops) ≤ passing g k ops
  passing_more k [] o l z x y = absurd (omega arith)
  passing_more k (b ∷ ops) zero l z x y =
      let e : k + 0 ≡ k = omega arith in
      let p : ◌≡◌ {A = ℕ} (cond (is_size (call_of b) && f k) 1 0) 0 = rw (z, rw e at x) in
      let q : ◌≡◌ {A = ℕ} (cond (is_size (call_of b) && g k) 1 0) 1 = rw (z, rw e at y) in
      omega (arith, passing_grows (suc k) ops)
  passing_more k (b ∷ ops) (suc o) l z x y =
      let e : k + suc o ≡ suc k + o = omega arith in
      omega (arith, passing_more (suc k) ops o (le_of_suc-le-suc l) z (rw e at x) (rw e at y), passes_grows (is_size (call_of b)) (f k) (g k) (grows k))

-- ---- Each announcement was some size's third own step.

module _ (threads keys : ℕ) (counts ops : List ℕ) where
  abbrev Thirds : Machine → Type 0
  Thirds m = m.calculator.current.0 ≤ passing (λ o. leb 3 (own_of m o)) 0 ops

  module _ (s : List ℕ) (w : Within threads keys counts ops s) (t : ThreadId) where
    abbrev m : Machine
    m = run_of (start_of threads keys counts ops) s

    -- the call of an operation is its byte's
    call_is : (o : ℕ) → o < length ops → call_at m o ≡ call_of (get_or ops o 0)
    call_is o l =
        ap (λ (x : Asked). x.call) ((facts_run threads keys counts ops s w).1.asked o)
        ∙ ap (λ (r : Record). r.asked.call) (start_record counts threads keys ops o w.at_most_operations l)

    module _ (c : m.clock < 4096) (h : Thirds m) (l : (local_at m t).op.0 < (local_at m t).end.0) where
      abbrev now : Machine
      now = accessed m t

      abbrev o : ℕ
      o = (local_at m t).op.0

      d : Sound threads counts s m
      d = (facts_run threads keys counts ops s w).0

      change : Moved t.0 o m now
      change = moved counts (few_ops threads keys counts ops s w) m t d.shape c d.owners l

      inside : o < length ops
      inside =
          let tl : t.0 < 8 = omega (arith, acting m t l, d.shape.locals) in
          omega (arith, w.operations, d.owners.ends t.0 tl, before_grows counts (suc t.0) 8 tl)

      grows : (i : ℕ) → leb 3 (own_of m i) ≡ true → leb 3 (own_of now i) ≡ true
      grows i e = go (ℕ_discrete i o)
        where
          go : Dec (i ≡ o) → leb 3 (own_of now i) ≡ true
          go (yes q) =
              let x : own_of now i ≡ suc (own_of m i) = rw q change.own in
              le-leb 3 (own_of now i) (omega (arith, leb-true 3 (own_of m i) e))
          go (no k) = ap (λ (x : Outcome). leb 3 x.own) (change.other i k) ∙ e

      third : Third (call_at m o) (own_of m o) → suc (passing (λ i. leb 3 (own_of m i)) 0 ops) ≤ passing (λ i. leb 3 (own_of now i)) 0 ops
      third k =
          let z : 0 + o ≡ o = omega arith in
          passing_more (λ i. leb 3 (own_of m i)) (λ i. leb 3 (own_of now i)) grows 0 ops o inside (ap is_size (sym (call_is o inside) ∙ k.size))
          (rw z (lt-leb 3 (own_of m o) (omega (arith, k.third))))
          (rw z (le-leb 3 (own_of now o) (omega (arith, k.third, change.own))))

      thirds_access : Thirds now
      thirds_access =
          let f = (facts_run threads keys counts ops s w).1 in
          let e = current_counts counts (few_ops threads keys counts ops s w) threads w.some_threads w.at_most_threads s m d f.ranks c f.announced t l in
          subst (λ (x : ℕ). x ≤ passing (λ i. leb 3 (own_of now i)) 0 ops) (sym e)
          (test_case (λ (x : Bool). m.calculator.current.0 + cond x 1 0 ≤ passing (λ i. leb 3 (own_of now i)) 0 ops) (is_announcement (move_of m t).deed)
          (λ q. omega (arith, third (announcement_third _ (call_at m o) (own_of m o) (move_of m t).deed q (deed_now threads keys counts ops s w t l))))
          (λ q. omega (arith, passing_grows (λ i. leb 3 (own_of m i)) (λ i. leb 3 (own_of now i)) grows 0 ops)))

    thirds_step : m.clock < 4096 → Thirds m → Thirds (step_of m t)
    thirds_step c h = step_case Thirds m t (thirds_access c h) (λ l. h)

  thirds_start : Thirds (start_of threads keys counts ops)
  unfolding start_of
  thirds_start = omega arith

  pub announced_few : (schedule : List ℕ) → Within threads keys counts ops schedule → (run_of (start_of threads keys counts ops) schedule).calculator.current.0 ≤ sizes_of ops
  announced_few schedule w =
      let m = run_of (start_of threads keys counts ops) schedule in
      omega (
        arith,
        run_within threads keys counts ops (λ s. Thirds) step thirds_start schedule w,
        passing_most (λ o. leb 3 (own_of m o)) 0 ops,
      )
    where
      step : (s : List ℕ) (t : ℕ) → Within threads keys counts ops s → Within threads keys counts ops (s ++ t ∷ [])
          → Thirds (run_of (start_of threads keys counts ops) s) → Thirds (step_of (run_of (start_of threads keys counts ops) s) (record { 0 = t }))
      step s t v v' h =
          thirds_step s v (record { 0 = t }) (omega (arith, (facts_run threads keys counts ops s v).0.clock, length_snoc s t, v'.at_most_steps)) h
