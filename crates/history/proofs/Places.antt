-- The number of a place orders places first by step, then by rank, then by tie, then by read.
use Prim.Native.Nat.{ℕ, ◌≤◌, ◌<◌}
use mathlib.Core.Path.{◌≡◌, ap}
use native.Mathlib.Omega.{arith}
use Rattle.history.specs.declared.Place.{Place}
use Rattle.history.specs.Places.{place, number_of}
use Rattle.history.specs.Courses.{Course, order_of}

-- an operation stands at this place, whose parts are small
pub record At (c : Course) (s r t d : ℕ) : Type 0 where
  pub here : c.place ≡ place s r t d
  pub some : 0 < s
  pub rank : r ≤ 1
  pub tie : t < 8192
  pub read : d < 8192

module _ {c : Course} {s r t d : ℕ} (a : At c s r t d) where
  at_number : order_of c ≡ number_of (place s r t d)
  unfolding order_of
  at_number = ap number_of a.here

  pub at_step : c.place.step ≡ s
  at_step = ap (λ (p : Place). p.step) a.here

  pub at_rank : c.place.rank ≤ 1
  at_rank = omega (arith, ap (λ (p : Place). p.rank) a.here, a.rank)

  pub at_some : 1 ≤ order_of c
  at_some = omega (arith, at_number)

-- a place above another is at no earlier step
pub no_earlier : (c c' : Course) → c.place.rank ≤ 1 → c'.place.rank ≤ 1 → order_of c < order_of c' → c.place.step ≤ c'.place.step
unfolding order_of
no_earlier c c' a b l = omega arith

module _ {c c' : Course} {s s' r r' t t' d d' : ℕ} (a : At c s r t d) (b : At c' s' r' t' d') where
  pub by_step : s < s' → order_of c < order_of c'
  by_step l = omega (arith, at_number a, at_number b)

  pub by_rank : s ≡ s' → r < r' → order_of c < order_of c'
  by_rank e l = omega (arith, at_number a, at_number b)

  pub by_read : s ≡ s' → r ≡ r' → t ≡ t' → d < d' → order_of c < order_of c'
  by_read e i k l = omega (arith, at_number a, at_number b)

  -- equal numbers are of equal places
  pub same_step : order_of c ≡ order_of c' → s ≡ s'
  same_step e = omega (arith, at_number a, at_number b)

  pub same_rank : order_of c ≡ order_of c' → r ≡ r'
  same_rank e = omega (arith, at_number a, at_number b)

  pub same_tie : order_of c ≡ order_of c' → t ≡ t'
  same_tie e = omega (arith, at_number a, at_number b)

  pub same_read : order_of c ≡ order_of c' → d ≡ d'
  same_read e = omega (arith, at_number a, at_number b)
