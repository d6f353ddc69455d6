-- The own steps that a machine counts are counts over the schedule.
use Prim.Native.Nat.{ℕ, suc, ◌+◌, ◌≤◌, ◌<◌}
use mathlib.Core.Path.{◌≡◌, refl, sym, ap, ap₂, ◌∙◌, subst}
use mathlib.Core.Logic.{◌≢◌}
use mathlib.Core.Bool.{Bool, true, false, cond, ◌&&◌, ◌||◌}
use mathlib.Core.List.{List, [], ◌∷◌, ◌++◌}
use native.Mathlib.Omega.{arith}
use native.Mathlib.Decide.{ℕ_discrete, dec_lt}
use lib.ListN.{length}
use lib.Dec.{eqb, ltb, leb}
use borrow.Author.Tests.{lt-ltb, le-ltb, le-leb, lt-leb, eq-eqb, ne_eqb}
use Rattle.history.specs.Steps.{steps_that, during, own_steps}
use Rattle.history.proofs.Split.{both, and_no, or_second}
use Rattle.history.proofs.Turns.{Board, Growing, Owned, owned_apart, Turns, Ending, goes, returns, Turn, rested, now_begun}

-- ---- Counting over a schedule.

pub steps_snoc : (f : ℕ → ℕ → Bool) (i : ℕ) (s : List ℕ) (t : ℕ)
    → steps_that f i (s ++ t ∷ []) ≡ steps_that f i s + cond (f (i + length s) t) 1 0
unfolding steps_that
steps_snoc f i [] t = let e : i + 0 ≡ i = omega arith in rw e (omega arith)
steps_snoc f i (u ∷ s) t =
    let e : i + suc (length s) ≡ suc i + length s = omega arith in
    rw e (omega (arith, steps_snoc f (suc i) s t))

pub steps_same : (f g : ℕ → ℕ → Bool) (i : ℕ) (s : List ℕ)
    → ((k t : ℕ) → i ≤ k → k < i + length s → f k t ≡ g k t) → steps_that f i s ≡ steps_that g i s
unfolding steps_that
steps_same f g i [] h = refl
steps_same f g i (t ∷ s) h = rw (h i t (omega arith) (omega arith), steps_same f g (suc i) s (λ k u a b. h k u (omega arith) (omega arith)))

-- ---- The span of an operation, from its first step to its last.

-- not over by s
abbrev open_at : ℕ → ℕ → Bool
open_at last s = eqb last 0 || leb s last

module _ (first last s : ℕ) where
  during_unbegun : first ≡ 0 → during first last s ≡ false
  during_unbegun e = rw (le-ltb 0 first (omega arith))

  during_over : 0 < last → last < s → during first last s ≡ false
  during_over h l = rw (ne_eqb last 0 (λ e. omega arith), lt-leb s last l, and_no (leb first s), and_no (ltb 0 first))

  during_early : s < first → during first last s ≡ false
  during_early h = rw (lt-leb first s h, and_no (ltb 0 first))

  during_now : 0 < first → first ≤ s → open_at last s ≡ true → during first last s ≡ true
  during_now h l p = both _ _ (lt-ltb 0 first h) (both _ _ (le-leb first s l) p)

-- ---- Own steps.

-- step s of thread t is one of operation o's own
abbrev is_own : Board → ℕ → ℕ → ℕ → Bool
is_own m o s t = eqb t (m.whose o) && during (m.first o) (m.last o) s

-- own steps are told right of the n operations after the steps s
abbrev pub Own : ℕ → List ℕ → Board → Type 0
Own n s m = (o : ℕ) → o < n → m.own o ≡ own_steps (m.whose o) (m.first o) (m.last o) s

module _ (most : ℕ) (start : ℕ → ℕ) (grows : Growing start) (s : List ℕ) (t : ℕ) (m : Board)
    (i : Turns most start m) (c : m.clock ≡ length s) where
  -- a step of thread t is not a step of an operation that is not its current one
  not_now : (o : ℕ) → o < start most → (Owned most start t o → o ≢ m.op t) → is_own m o (suc m.clock) t ≡ false
  not_now o ol n = go (ℕ_discrete t (m.whose o))
    where
      late : Owned most start t o → Dec (o < m.op t) → during (m.first o) (m.last o) (suc m.clock) ≡ false
      late w (yes l) =
          during_over (m.first o) (m.last o) (suc m.clock) (i.returned t o w.thread w.from l) (omega (arith, i.last_past o))
      late w (no l) =
          let k = n w in
          let e = i.ends t w.thread in
          let b = w.below in
          during_unbegun (m.first o) (m.last o) (suc m.clock) (i.unbegun t o w.thread (omega arith) (omega arith))

      go : Dec (t ≡ m.whose o) → is_own m o (suc m.clock) t ≡ false
      go (yes e) =
          let w : Owned most start t o = subst (λ (u : ℕ). Owned most start u o) (sym e) (i.whose o ol) in
          rw (late w (dec_lt o (m.op t)), and_no (eqb t (m.whose o)))
      go (no k) = rw (ne_eqb t (m.whose o) k)

  -- the count over one step more, where the steps before are told the same
  more_own : (m' : Board) (o b : ℕ) → ((k u : ℕ) → k ≤ m.clock → is_own m' o k u ≡ is_own m o k u)
      → cond (is_own m' o (suc m.clock) t) 1 0 ≡ b
      → own_steps (m'.whose o) (m'.first o) (m'.last o) (s ++ t ∷ []) ≡ own_steps (m.whose o) (m.first o) (m.last o) s + b
  more_own m' o b f e =
      let k : 1 + length s ≡ suc m.clock = omega arith in
      steps_snoc (is_own m' o) 1 s t
      ∙ ap₂ (λ (x y : ℕ). x + y) (steps_same (is_own m' o) (is_own m o) 1 s (λ x u p q. f x u (omega arith)))
      (ap (λ (x : ℕ). cond (is_own m' o x t) 1 0) k ∙ e)

  -- an operation that this step leaves alone
  own_alone : (m' : Board) (o : ℕ) → o < start most → (Owned most start t o → o ≢ m.op t)
      → m'.whose o ≡ m.whose o → m'.first o ≡ m.first o → m'.last o ≡ m.last o → m'.own o ≡ m.own o
      → Own (start most) s m → m'.own o ≡ own_steps (m'.whose o) (m'.first o) (m'.last o) (s ++ t ∷ [])
  own_alone m' o ol n a x y z h =
      let same : (k u : ℕ) → is_own m' o k u ≡ is_own m o k u = λ k u. rw (a, x, y) in
      let none : is_own m' o (suc m.clock) t ≡ false = same (suc m.clock) t ∙ not_now o ol n in
      let e = more_own m' o 0 (λ k u l. same k u) (ap (λ (b : Bool). cond b 1 0) none) in
      z ∙ h o ol ∙ omega arith

  -- the operation that takes it
  module _ (m' : Board) (tl : t < most) (left : m.op t < m.end t) (w : Turn t (m.op t) m m') where
    abbrev o : ℕ
    o = m.op t

    open_both : (k : ℕ) → k ≤ suc m.clock → (open_at (m.last o) k ≡ true) × (open_at (m'.last o) k ≡ true)
    open_both k l = let z = i.going t tl left in (rw (eq-eqb (m.last o) 0 z), go z w.ending)
      where
        go : m.last o ≡ 0 → Ending t o m m' → open_at (m'.last o) k ≡ true
        go z (goes p q r) = rw (eq-eqb (m'.last o) 0 (r ∙ z))
        go z (returns p q r) = or_second (eqb (m'.last o) 0) (le-leb k (m'.last o) (omega arith))

    same_before : (k : ℕ) → k ≤ m.clock → during (m'.first o) (m'.last o) k ≡ during (m.first o) (m.last o) k
    same_before k l = go (ℕ_discrete (m.first o) 0)
      where
        go : Dec (m.first o ≡ 0) → during (m'.first o) (m'.last o) k ≡ during (m.first o) (m.last o) k
        go (yes e) =
            during_early (m'.first o) (m'.last o) k (omega (arith, w.began e))
            ∙ sym (during_unbegun (m.first o) (m.last o) k e)
        go (no n) =
            let p = open_both k (omega arith) in
            ap₂ (λ (f : ℕ) (b : Bool). ltb 0 f && (leb f k && b)) (w.kept (omega arith)) (p.1 ∙ sym p.0)

    own_mine : o < start most → Own (start most) s m → m'.own o ≡ own_steps (m'.whose o) (m'.first o) (m'.last o) (s ++ t ∷ [])
    own_mine ol h =
        let b = now_begun most start grows m m' t o tl i refl left w in
        let mine : Owned most start t o = record { thread = tl; from = i.from t tl; below = omega (arith, i.ends t tl) } in
        let e : t ≡ m'.whose o = whose mine (ℕ_discrete t (m.whose o)) ∙ sym (w.whose o) in
        let z : is_own m' o (suc m.clock) t ≡ true =
        both _ _ (eq-eqb t (m'.whose o) e)
        (during_now (m'.first o) (m'.last o) (suc m.clock) b.0 b.1 (open_both (suc m.clock) (omega arith)).1) in
        let g = more_own m' o 1 (λ k u l. ap₂ (λ (a : ℕ) (x : Bool). eqb u a && x) (w.whose o) (same_before k l))
        (ap (λ (b : Bool). cond b 1 0) z) in
        omega (arith, w.own, h o ol)
      where
        whose : Owned most start t o → Dec (t ≡ m.whose o) → t ≡ m.whose o
        whose mine (yes e) = e
        whose mine (no n) = absurd (owned_apart grows (i.whose o ol) mine n refl)

    pub own_taken : Own (start most) s m → Own (start most) (s ++ t ∷ []) m'
    own_taken h a al = go (ℕ_discrete a o)
      where
        go : Dec (a ≡ o) → m'.own a ≡ own_steps (m'.whose a) (m'.first a) (m'.last a) (s ++ t ∷ [])
        go (yes e) =
            subst (λ x. m'.own x ≡ own_steps (m'.whose x) (m'.first x) (m'.last x) (s ++ t ∷ [])) (sym e)
            (own_mine (subst (λ x. x < start most) e al) h)
        go (no n) = own_alone m' a al (λ k. n) (w.whose a) (w.first_other a n) (w.last_other a n) (w.own_other a n) h

  -- a step of a thread that has no operation left
  pub own_rested : (clock idle : ℕ) → m.end t ≤ m.op t → Own (start most) s m → Own (start most) (s ++ t ∷ []) (rested clock idle m)
  own_rested clock idle l h o ol =
      own_alone (rested clock idle m) o ol (λ w. let e = i.ends t w.thread in let b = w.below in omega arith) refl refl refl refl h
