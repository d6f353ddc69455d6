-- A machine holds at most 64 operations, and all of no more than 64.
use Rattle.std.proofs.Common.{◌≡◌, ℕ, ◌≤◌, arith}
use Rattle.std.proofs.lemmas.Bool.Decides.{nat_tests}
use Rattle.figures.specs.Limits.{most_operations}
use Rattle.places.specs.Written.{held_of}

pub held_most : (n : ℕ) → held_of n ≤ most_operations
held_most n = grind (arith, nat_tests)

pub held_all : (n : ℕ) → n ≤ most_operations → held_of n ≡ n
held_all n h = grind (arith, nat_tests)
