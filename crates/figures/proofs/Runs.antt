-- A run, step by step: what holds at the start and is kept by every step holds after every run.
use Prim.Native.Nat.{ℕ, ◌≤◌, ◌<◌}
use mathlib.Core.Path.{◌≡◌, refl, sym, ap}
use mathlib.Core.List.{List, [], ◌∷◌, ◌++◌, append_assoc, append-nil}
use native.Mathlib.Omega.{arith}
use native.Mathlib.Decide.{dec_lt}
use lib.ListN.{length, get_or-eq_default}
use Rattle.terms.specs.declared.ThreadId.{ThreadId}
use Rattle.figures.specs.declared.Local.{Local}
use Rattle.figures.specs.declared.Machine.{Machine}
use Rattle.figures.specs.Step.{no_local, local_at, accessed, idled, step_of, run_of}
use Rattle.figures.proofs.Laws.{lt_case}

pub run_append : (m : Machine) (s s' : List ℕ) → run_of m (s ++ s') ≡ run_of (run_of m s) s'
unfolding run_of
run_append m [] s' = refl
run_append m (t ∷ s) s' = run_append (step_of m (record { 0 = t })) s s'

pub run_snoc : (m : Machine) (s : List ℕ) (t : ℕ) → run_of m (s ++ t ∷ []) ≡ step_of (run_of m s) (record { 0 = t })
unfolding run_of
run_snoc m s t = run_append m s (t ∷ [])

-- every step is an access, or idle
pub step_case : (P : Machine → Type 0) (m : Machine) (t : ThreadId)
    → ((local_at m t).op.0 < (local_at m t).end.0 → P (accessed m t))
    → ((local_at m t).end.0 ≤ (local_at m t).op.0 → P (idled m))
    → P (step_of m t)
unfolding step_of
step_case P m t f g = lt_case P (local_at m t).op.0 (local_at m t).end.0 (accessed m t) (idled m) f g

-- a thread that has an operation left is one of the threads
pub acting : (m : Machine) (t : ThreadId) → (local_at m t).op.0 < (local_at m t).end.0 → t.0 < length m.locals
acting m t h = go (dec_lt t.0 (length m.locals))
  where
    go : Dec (t.0 < length m.locals) → t.0 < length m.locals
    go (yes l) = l
    go (no n) =
        let e : local_at m t ≡ no_local = get_or-eq_default m.locals no_local (omega arith) in
        let x : (local_at m t).op.0 ≡ 0 = ap (λ (l : Local). l.op.0) e in
        let y : (local_at m t).end.0 ≡ 0 = ap (λ (l : Local). l.end.0) e in
        absurd (omega arith)

-- what every step keeps, whoever takes it
pub run_keeps : (I : Machine → Type 0) → ((m : Machine) (t : ThreadId) → I m → I (step_of m t)) → (m : Machine) (s : List ℕ) → I m → I (run_of m s)
unfolding run_of
run_keeps I step m [] i = i
run_keeps I step m (t ∷ s) i = run_keeps I step (step_of m (record { 0 = t })) s (step m (record { 0 = t }) i)

-- every byte of the schedule is below the number of threads
abbrev pub Below : ℕ → List ℕ → Type 0
Below n [] = Unit {0}
Below n (t ∷ s) = (t < n) × Below n s

module _ (threads : ℕ) (start : Machine) (I : List ℕ → Machine → Type 0) where
  -- the same of the state and the schedule that led to it
  pub run_holds :
      ((s : List ℕ) (t : ℕ) (m : Machine) → m ≡ run_of start s → t < threads → I s m → I (s ++ t ∷ []) (step_of m (record { 0 = t })))
      → I [] start → (s : List ℕ) → Below threads s → I s (run_of start s)
  unfolding run_of
  run_holds step i s b = go [] s start refl b i
    where
      go : (p q : List ℕ) (m : Machine) → m ≡ run_of start p → Below threads q → I p m → I (p ++ q) (run_of m q)
      go p [] m e b i = rw (append-nil p) i
      go p (t ∷ q) m e b i =
          let r : step_of m (record { 0 = t }) ≡ run_of start (p ++ t ∷ []) = rw e (sym (run_snoc start p t)) in
          rw (append_assoc p (t ∷ []) q) at (go (p ++ t ∷ []) q (step_of m (record { 0 = t })) r b.1 (step p t m e b.0 i))
