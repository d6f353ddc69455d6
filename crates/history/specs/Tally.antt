-- Counting over the numbers below n.
use Rattle.std.specs.Prelude.{Bool, cond, List, [], ◌∷◌, ℕ, zero, suc, ◌+◌, eqb}

-- how many numbers below n pass a test
unfoldable pub tally : (ℕ → Bool) → ℕ → ℕ
tally test zero = 0
tally test (suc n) = cond (test n) 1 0 + tally test n

-- the sum of f over the numbers below n
unfoldable pub sum_to : ℕ → (ℕ → ℕ) → ℕ
sum_to zero f = 0
sum_to (suc n) f = f n + sum_to n f

-- how many times x stands in a list
unfoldable pub times : ℕ → List ℕ → ℕ
times x [] = 0
times x (y ∷ list) = cond (eqb x y) 1 0 + times x list
