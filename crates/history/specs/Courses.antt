-- The course of an operation in a run, which is all that the log and the demand read of a machine; and the log of n courses.
use Rattle.std.specs.Prelude.{Bool, ◌||◌, List, ℕ, ltb}
use Rattle.history.specs.declared.Place.{Place}
use Rattle.history.specs.PlainSet.{Ask}
use Rattle.history.specs.Play.{Op}
use Rattle.history.specs.Order.{Entry, log, entries}
use Rattle.history.specs.Places.{number_of}

pub record Course : Type 0 where
  pub ask : Ask
  -- its first step, 0 if it has not begun; its last, 0 if it has not returned
  pub first : ℕ
  pub last : ℕ
  pub answer : ℕ
  -- an insert or a delete whose change counts, returned or not
  pub changed : Bool
  -- where it stands, if it is listed
  pub place : Place

abbrev pub returned : Course → Bool
returned c = ltb 0 c.last

-- only returned operations and changes are listed
abbrev pub listed : Course → Bool
listed c = returned c || c.changed

abbrev pub played : Course → Op
played c = record { ask = c.ask; returned = returned c; answer = c.answer }

unfoldable pub order_of : Course → ℕ
order_of c = number_of c.place

-- the log of n operations, in order of place: their numbers, and with the step that each stands at
module _ (n : ℕ) (course : ℕ → Course) where
  abbrev pub ordered : List ℕ
  ordered = log n (λ o. listed (course o)) (λ o. order_of (course o))

  abbrev pub logged : List Entry
  logged = entries (λ o. (course o).place.step) ordered
