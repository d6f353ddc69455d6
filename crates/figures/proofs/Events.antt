-- Steps of a run that are events, and the state's record of them: a number of the state that every step of the kind sets to the clock
-- is the last such step; one that is set while it is 0 is the first; if both, there is no other.
use Prim.Native.Nat.{ℕ, suc, ◌-◌, ◌≤◌, ◌<◌}
use mathlib.Core.Path.{◌≡◌, sym, ap, ◌∙◌, subst}
use mathlib.Core.Logic.{◌⊎◌, inl, inr}
use mathlib.Core.List.{List, [], ◌∷◌, ◌++◌}
use native.Mathlib.Omega.{arith}
use native.Mathlib.Decide.{ℕ_discrete}
use lib.ListN.{length, get_or, take, get_or-append}
use lib.Seq.{take-append-le, take-append_seam, get_or-append_seam}
use Rattle.terms.specs.declared.ThreadId.{ThreadId}
use Rattle.figures.specs.declared.Machine.{Machine}
use Rattle.figures.specs.Step.{run_of}
use Rattle.figures.specs.Counts.{state_before}
use Rattle.figures.specs.Events.{Event, At}
use Rattle.figures.proofs.Sound.{length_snoc}

-- ---- One step more.

module _ (start : Machine) (E : Event) (s : List ℕ) (t : ℕ) where
  abbrev there : ℕ → List ℕ → Type 0
  there k l = E (state_before start l k) (record { 0 = get_or l (k - 1) 0 })

  same_before : (k : ℕ) → 0 < k → k ≤ length s → there k s ≡ there k (s ++ t ∷ [])
  same_before k h l =
      let e : take (k - 1) (s ++ t ∷ []) ≡ take (k - 1) s = take-append-le (k - 1) s (t ∷ []) (omega arith) in
      let d : get_or (s ++ t ∷ []) (k - 1) 0 ≡ get_or s (k - 1) 0 = get_or-append s (t ∷ []) 0 (k - 1) (omega arith) in
      λ i. E (run_of start (sym e i)) (record { 0 = sym d i })

  same_now : there (suc (length s)) (s ++ t ∷ []) ≡ E (run_of start s) (record { 0 = t })
  same_now =
      let k : suc (length s) - 1 ≡ length s = omega arith in
      let e : take (suc (length s) - 1) (s ++ t ∷ []) ≡ s = rw k (take-append_seam s (t ∷ [])) in
      let d : get_or (s ++ t ∷ []) (suc (length s) - 1) 0 ≡ t = rw k (get_or-append_seam s t [] 0) in
      λ i. E (run_of start (e i)) (record { 0 = d i })

  pub at_later : {k : ℕ} → At start s E k → At start (s ++ t ∷ []) E k
  at_later {k} a =
      record {
        some = a.some;
        there = omega (arith, a.there, length_snoc s t);
        is = subst (λ (A : Type 0). A) (same_before k a.some a.there) a.is;
      }

  pub at_now : E (run_of start s) (record { 0 = t }) → At start (s ++ t ∷ []) E (suc (length s))
  at_now e = record { some = omega arith; there = omega (arith, length_snoc s t); is = subst (λ (A : Type 0). A) (sym same_now) e }

  -- it is this step, or one before
  pub at_either : {k : ℕ} → At start (s ++ t ∷ []) E k → ((k ≡ suc (length s)) × E (run_of start s) (record { 0 = t })) ⊎ At start s E k
  at_either {k} a = go (ℕ_discrete k (suc (length s)))
    where
      go : Dec (k ≡ suc (length s)) → ((k ≡ suc (length s)) × E (run_of start s) (record { 0 = t })) ⊎ At start s E k
      go (yes e) = inl (e, subst (λ (A : Type 0). A) same_now (rw e at a.is))
      go (no n) =
          let h : k ≤ length s = omega (arith, a.there, length_snoc s t) in
          inr (record { some = a.some; there = h; is = subst (λ (A : Type 0). A) (sym (same_before k a.some h)) a.is })

-- ---- The state's record: σ tells the step, 0 if there is none, and ν what it was like.

module _ (start : Machine) {B : Type 0} (E : B → Event) (σ : Machine → ℕ) (ν : Machine → B) where
  pub record Latest (s : List ℕ) (m : Machine) : Type 0 where
    pub told : 0 < σ m → At start s (E (ν m)) (σ m)
    pub last : (v : B) (k : ℕ) → At start s (E v) k → k ≤ σ m

  pub record Earliest (s : List ℕ) (m : Machine) : Type 0 where
    pub told : 0 < σ m → At start s (E (ν m)) (σ m)
    pub first : (v : B) (k : ℕ) → At start s (E v) k → (0 < σ m) × (σ m ≤ k)

  pub record Only (s : List ℕ) (m : Machine) : Type 0 where
    pub told : 0 < σ m → At start s (E (ν m)) (σ m)
    pub only : (v : B) (k : ℕ) → At start s (E v) k → k ≡ σ m

  -- what a step from m to m' by thread t does to it
  pub data Renews (m m' : Machine) (t : ThreadId) : Type 0 where
    renews : E (ν m') m t → σ m' ≡ suc m.clock → Renews m m' t
    keeps : ((v : B) → E v m t → ⊥) → σ m' ≡ σ m → ν m' ≡ ν m → Renews m m' t

  pub data Opens (m m' : Machine) (t : ThreadId) : Type 0 where
    opens : E (ν m') m t → σ m ≡ 0 → σ m' ≡ suc m.clock → Opens m m' t
    keeps : ((v : B) → E v m t → 0 < σ m) → σ m' ≡ σ m → ν m' ≡ ν m → Opens m m' t

  pub data Strikes (m m' : Machine) (t : ThreadId) : Type 0 where
    strikes : E (ν m') m t → σ m ≡ 0 → σ m' ≡ suc m.clock → Strikes m m' t
    keeps : ((v : B) → E v m t → ⊥) → σ m' ≡ σ m → ν m' ≡ ν m → Strikes m m' t

  module _ (s : List ℕ) (t : ℕ) (m m' : Machine) (e : m ≡ run_of start s) (c : m.clock ≡ length s) where
    abbrev s' : List ℕ
    s' = s ++ t ∷ []

    now_told : E (ν m') m (record { 0 = t }) → σ m' ≡ suc m.clock → At start s' (E (ν m')) (σ m')
    now_told x q =
        let k : σ m' ≡ suc (length s) = q ∙ ap suc c in
        subst (λ (y : ℕ). At start s' (E (ν m')) y) (sym k)
        (at_now start (E (ν m')) s t (subst (λ (y : Machine). E (ν m') y (record { 0 = t })) e x))

    still_told : σ m' ≡ σ m → ν m' ≡ ν m → (0 < σ m → At start s (E (ν m)) (σ m)) → 0 < σ m' → At start s' (E (ν m')) (σ m')
    still_told q r f h =
        let a = at_later start (E (ν m)) s t (f (omega arith)) in
        subst (λ (y : ℕ). At start s' (E (ν m')) y) (sym q) (subst (λ (v : B). At start s' (E v) (σ m)) (sym r) a)

    -- a step that is so is this one or one before
    either : {v : B} {k : ℕ} {P : Type 0} → (k ≡ suc m.clock → E v m (record { 0 = t }) → P) → (At start s (E v) k → P)
        → At start s' (E v) k → P
    either {v} {k} {P} f g a = go (at_either start (E v) s t a)
      where
        go : ((k ≡ suc (length s)) × E v (run_of start s) (record { 0 = t })) ⊎ At start s (E v) k → P
        go (inl x) = f (x.0 ∙ ap suc (sym c)) (subst (λ (y : Machine). E v y (record { 0 = t })) (sym e) x.1)
        go (inr b) = g b

    pub latest_step : Renews m m' (record { 0 = t }) → Latest s m → Latest s' m'
    latest_step (renews x q) h =
        record {
          told = λ z. now_told x q;
          last = λ v k. either (λ p y. omega arith) (λ a. omega (arith, a.there));
        }
    latest_step (keeps n q r) h =
        record { told = still_told q r h.told; last = λ v k. either (λ p y. absurd (n v y)) (λ a. omega (arith, h.last v k a)) }

    pub earliest_step : Opens m m' (record { 0 = t }) → Earliest s m → Earliest s' m'
    earliest_step (opens x z q) h =
        record {
          told = λ y. now_told x q;
          first = λ v k. either (λ p y. omega arith) (λ a. absurd (omega (arith, (h.first v k a).0)));
        }
    earliest_step (keeps n q r) h =
        record {
          told = still_told q r h.told;
          first =
              λ v k. either (λ p y. let b = n v y in (omega arith, omega (arith, (h.told b).there)))
              (λ a. let b = h.first v k a in (omega (arith, b.0), omega (arith, b.1)));
        }

    pub only_step : Strikes m m' (record { 0 = t }) → Only s m → Only s' m'
    only_step (strikes x z q) h =
        record {
          told = λ y. now_told x q;
          only = λ v k. either (λ p y. omega arith) (λ a. absurd (omega (arith, h.only v k a, a.some)));
        }
    only_step (keeps n q r) h =
        record { told = still_told q r h.told; only = λ v k. either (λ p y. absurd (n v y)) (λ a. omega (arith, h.only v k a)) }

  -- before the first step
  none_yet : {E' : Event} {k : ℕ} {A : Type 0} → At start [] E' k → A
  none_yet a = absurd (omega (arith, a.some, a.there))

  pub latest_start : σ start ≡ 0 → Latest [] start
  latest_start z = record { told = λ h. absurd (omega arith); last = λ v k a. none_yet a }

  pub earliest_start : σ start ≡ 0 → Earliest [] start
  earliest_start z = record { told = λ h. absurd (omega arith); first = λ v k a. none_yet a }

  pub only_start : σ start ≡ 0 → Only [] start
  only_start z = record { told = λ h. absurd (omega arith); only = λ v k a. none_yet a }
