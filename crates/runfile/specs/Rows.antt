-- A table of refusals: rows in order, of which the first that applies decides; and the two things that rows ask of lists,
-- the first place where a test fails and the sum of the first few numbers. The order is that of the list and not of the numbers.
use Rattle.std.specs.Prelude.{ℕ, zero, suc, ◌+◌, ◌-◌, List, [], ◌∷◌, ◌≡◌, Bool, true, false, cond, ltb}
use Rattle.runfile.specs.declared.Refusal.{Refusal}
use Rattle.runfile.specs.Refusals.{number_of}

-- One row: its name, whether it applies, and the place that it tells.
pub record Row : Type 0 where
  pub name : Refusal
  pub applies : Bool
  pub place : ℕ

abbrev pub row : Refusal → Bool → ℕ → Row
row r b p = record { name = r; applies = b; place = p }

-- The first row that applies refuses, with its number and its place; where none does, the input is accepted.
abbrev pub decide : {A : Type 0} → (ℕ → ℕ → A) → A → List Row → A
decide refuse accept [] = accept
decide refuse accept (r ∷ rs) = cond r.applies (refuse (number_of r.name) r.place) (decide refuse accept rs)

-- x is 0 or above the limit
abbrev pub outside : ℕ → ℕ → Bool
outside x most = cond (ltb x 1) true (ltb most x)

-- the first of n places from p on at which the test fails; p + n where it fails at none
unfoldable pub first_bad : (ℕ → Bool) → ℕ → ℕ → ℕ
first_bad ok zero p = p
first_bad ok (suc n) p = cond (ok p) (first_bad ok n (p + 1)) p

-- the same from a place up to another, which is told where the test fails at none
abbrev pub first_bad_in : (ℕ → Bool) → ℕ → ℕ → ℕ
first_bad_in ok from to = first_bad ok (to - from) from

-- the sum of the first n numbers
unfoldable pub sum_to : (ℕ → ℕ) → ℕ → ℕ
sum_to f zero = 0
sum_to f (suc n) = sum_to f n + f n

-- the n numbers from the one numbered i on
unfoldable pub list_from : (ℕ → ℕ) → ℕ → ℕ → List ℕ
list_from f zero i = []
list_from f (suc n) i = f i ∷ list_from f n (i + 1)

-- ---- to speak of what decided

-- the rows' names, in order
abbrev pub names : List Row → List Refusal
names [] = []
names (r ∷ rs) = r.name ∷ names rs

-- no row applies
abbrev pub Passes : List Row → Type 0
Passes [] = Unit
Passes (r ∷ rs) = (r.applies ≡ false) × Passes rs

-- the first row that applies has this name and this place
pub data Stops : List Row → Refusal → ℕ → Type 0 where
  here : {r : Row} {rs : List Row} → r.applies ≡ true → Stops (r ∷ rs) r.name r.place
  later : {r : Row} {rs : List Row} {n : Refusal} {p : ℕ} → r.applies ≡ false → Stops rs n p → Stops (r ∷ rs) n p
