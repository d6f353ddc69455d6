-- Going by cases on a test, and what a test of two says.
use mathlib.Core.Path.{◌≡◌, refl}
use mathlib.Core.Logic.{◌≢◌}
use mathlib.Core.Bool.{Bool, true, false, cond, ◌&&◌, ◌||◌}
use Prim.Native.Nat.{ℕ, ◌≤◌, ◌<◌}
use native.Mathlib.Omega.{arith}
use native.Mathlib.Decide.{ℕ_discrete, dec_lt}

pub clash {ℓ} : {X : Type ℓ} (b : Bool) → b ≡ true → b ≡ false → X
clash b p q = let z : ◌≡◌ {A = ℕ} 0 1 = cc in absurd (omega arith)

-- a test is true or false
pub split : {X : Type 0} (b : Bool) → (b ≡ true → X) → (b ≡ false → X) → X
split true f g = f refl
split false f g = g refl

-- the same where the goal holds a choice
pub choose : {A : Type 0} (P : A → Type 0) (b : Bool) (x y : A) → (b ≡ true → P x) → (b ≡ false → P y) → P (cond b x y)
choose P true x y f g = f refl
choose P false x y f g = g refl

-- two numbers are equal or not
pub same? : {X : Type 0} (a b : ℕ) → (a ≡ b → X) → (a ≢ b → X) → X
same? {X} a b f g = go (ℕ_discrete a b)
  where
    go : Dec (a ≡ b) → X
    go (yes e) = f e
    go (no e) = g e

-- a number is below another or not
pub below? : {X : Type 0} (a b : ℕ) → (a < b → X) → (b ≤ a → X) → X
below? {X} a b f g = go (dec_lt a b)
  where
    go : Dec (a < b) → X
    go (yes l) = f l
    go (no l) = g (omega arith)

pub both : (a b : Bool) → a ≡ true → b ≡ true → (a && b) ≡ true
both a b p q = rw (p, q)

pub and_true : (a b : Bool) → (a && b) ≡ true → (a ≡ true) × (b ≡ true)
and_true true b e = (refl, e)
and_true false b e = clash false e refl

pub and_no : (a : Bool) → (a && false) ≡ false
and_no true = refl
and_no false = refl

pub and_yes : (a : Bool) → (a && true) ≡ a
and_yes true = refl
and_yes false = refl

pub and_swap : (a b : Bool) → (a && b) ≡ (b && a)
and_swap true b = rw (and_yes b)
and_swap false b = rw (and_no b)

pub and_false : (a b : Bool) → a ≡ true → (a && b) ≡ false → b ≡ false
and_false true b p e = e
and_false false b p e = clash false p refl

pub or_false : (a b : Bool) → (a || b) ≡ false → (a ≡ false) × (b ≡ false)
or_false true b e = clash true refl e
or_false false b e = (refl, e)

pub or_true : (a b : Bool) → a ≡ false → (a || b) ≡ true → b ≡ true
or_true true b p e = clash true refl p
or_true false b p e = e

pub or_second : (a : Bool) {b : Bool} → b ≡ true → (a || b) ≡ true
or_second true e = refl
or_second false e = e

-- two tests are equal if each gives the other
pub iff : (a b : Bool) → (a ≡ true → b ≡ true) → (b ≡ true → a ≡ true) → a ≡ b
iff true b f g = rw (f refl)
iff false true f g = g refl
iff false false f g = refl
