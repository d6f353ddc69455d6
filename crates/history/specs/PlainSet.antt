-- The plain set: the list of its members. An operation asks, is answered, and leaves a set.
use Rattle.std.specs.Prelude.{Bool, false, cond, not, ◌||◌, List, [], ◌∷◌, ℕ, eqb, length}

pub data Ask : Type 0 where
  insert delete contains : ℕ → Ask
  size : Ask

unfoldable pub member : ℕ → List ℕ → Bool
member k [] = false
member k (x ∷ set) = eqb k x || member k set

unfoldable pub without : ℕ → List ℕ → List ℕ
without k [] = []
without k (x ∷ set) = cond (eqb k x) (without k set) (x ∷ without k set)

-- true is 1, false is 0
abbrev pub bit : Bool → ℕ
bit b = cond b 1 0

abbrev pub answer_of : Ask → List ℕ → ℕ
answer_of (insert k) set = bit (not (member k set))
answer_of (delete k) set = bit (member k set)
answer_of (contains k) set = bit (member k set)
answer_of size set = length set

abbrev pub after_of : Ask → List ℕ → List ℕ
after_of (insert k) set = cond (member k set) set (k ∷ set)
after_of (delete k) set = without k set
after_of (contains k) set = set
after_of size set = set
