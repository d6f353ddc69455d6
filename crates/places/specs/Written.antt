-- What a lent log buffer takes.
use Rattle.std.specs.Prelude.{ℕ, ◌*◌, Bool, cond, List, [], ◌∷◌, Option, None, Some, length, ltb}
use Rattle.history.specs.Order.{Entry}
use Rattle.figures.specs.Limits.{most_operations}

-- numbers per entry: operation, step
abbrev pub per_entry : ℕ
per_entry = 2

unfoldable pub numbers_of : List Entry → List ℕ
numbers_of [] = []
numbers_of (e ∷ es) = e.operation ∷ e.step ∷ numbers_of es

-- of n operations, those that a machine holds: the first 64
abbrev pub held_of : ℕ → ℕ
held_of n = cond (ltb most_operations n) most_operations n

-- a buffer of so many numbers has not room for an entry per operation
abbrev pub log_lacks : ℕ → ℕ → Bool
log_lacks n room = ltb room (per_entry * n)

-- where there is room the whole log is written, and nothing otherwise
abbrev pub written_of : Bool → List Entry → List Entry
written_of lacks log = cond lacks [] log

-- and told: how many entries, or none of that where there is no room
abbrev pub logged_of : Bool → List Entry → Option ℕ
logged_of lacks log = cond lacks None (Some (length log))
