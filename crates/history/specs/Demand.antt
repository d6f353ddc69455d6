-- The demand on a run of n operations (document 01, demand 3), over their courses alone.
use Rattle.std.specs.Prelude.{◌≡◌, Bool, true, false, [], ℕ, ◌≤◌, ◌<◌}
use Rattle.history.specs.PlainSet.{Ask, insert, delete, contains, size}
use Rattle.history.specs.Play.{Legal}
use Rattle.history.specs.Order.{Once, Sorted, NeverFalling}
use Rattle.history.specs.Courses.{Course, returned, listed, played, order_of, ordered, logged}

abbrev pub is_update : Ask → Bool
is_update (insert k) = true
is_update (delete k) = true
is_update (contains k) = false
is_update size = false

-- it stands at a step not before its own first nor, if it returned, after its last
pub record InSpan (c : Course) : Type 0 where
  pub begun : c.first ≤ c.place.step
  pub ended : returned c ≡ true → c.place.step ≤ c.last

pub record Demand (n : ℕ) (course : ℕ → Course) : Type 0 where
  -- only an insert or a delete changes the set
  pub changes : (o : ℕ) → o < n → (course o).changed ≡ true → is_update (course o).ask ≡ true
  -- the log lists once each operation that returned and each unfinished one that has changed the set, and no other
  pub lists : Once n (λ o. listed (course o)) (ordered n course)
  -- it is sorted by place, no two at one place, and its steps never fall
  pub sorts : Sorted (λ o. order_of (course o)) (ordered n course)
  pub climbs : NeverFalling 0 (logged n course)
  -- each stands within its span
  pub spans : (o : ℕ) → o < n → listed (course o) ≡ true → InSpan (course o)
  -- played one after another from the empty set in log order, every listed unfinished update succeeds and every returned answer is
  -- the plain set's
  pub plays : Legal (λ o. played (course o)) [] (ordered n course)
