-- Rows that several entry points share, each over what it asks about. The room's row is for whatever is lent.
use Rattle.std.specs.Prelude.{ℕ, Bool, false, cond, List, [], ◌∷◌, get_or, ltb, eqb}
use Rattle.figures.specs.Codec.{fault_of}
use Rattle.figures.specs.Limits.{most_threads, most_keys, most_operations, most_steps}
use Rattle.runfile.specs.declared.Refusal.{Refusal}
use Rattle.runfile.specs.declared.Refusal.TheVariants.{Threads, Keys, TooManyOperations, TooManySteps, KeyTooLarge, KeyNotBelowK, SizeWithKey, Step, TooSmall}
use Rattle.runfile.specs.Refusals.{number_of, fault_row}
use Rattle.runfile.specs.Rows.{Row, row, outside, first_bad_in}
use Rattle.runfile.specs.Layout.{operation_right, step_right}

abbrev pub threads_row : ℕ → Row
threads_row threads = row Threads (outside threads most_threads) 0

abbrev pub keys_row : ℕ → Row
keys_row keys = row Keys (outside keys most_keys) 0

abbrev pub operations_row : ℕ → Row
operations_row operations = row TooManyOperations (ltb most_operations operations) 0

abbrev pub steps_row : ℕ → Row
steps_row steps = row TooManySteps (ltb most_steps steps) 0

-- the first byte from `from` on and before `to` that is no allowed operation, or that names no thread; `to` where all are right
abbrev pub wrong_operation_in : ℕ → List ℕ → ℕ → ℕ → ℕ
wrong_operation_in keys bytes = first_bad_in (operation_right keys bytes)

abbrev pub wrong_step_in : ℕ → List ℕ → ℕ → ℕ → ℕ
wrong_step_in threads bytes = first_bad_in (step_right threads bytes)

-- row r of a byte at p whose own row is `own`, if there is such a byte (`bad`)
abbrev pub byte_row : Bool → Refusal → ℕ → Refusal → Row
byte_row bad own p r = row r (cond bad (eqb (number_of own) (number_of r)) false) p

-- its three rows: one at most applies, so that it does not matter which of them comes first
abbrev pub byte_rows : Bool → Refusal → ℕ → List Row
byte_rows bad own p = byte_row bad own p KeyTooLarge ∷ byte_row bad own p KeyNotBelowK ∷ byte_row bad own p SizeWithKey ∷ []

-- the first byte that is not allowed decides which of the three, and its place is told
abbrev pub fault_in : ℕ → List ℕ → ℕ → ℕ → Refusal
fault_in keys bytes from to = fault_row (fault_of (get_or bytes (wrong_operation_in keys bytes from to) 0))

abbrev pub operation_rows : ℕ → List ℕ → ℕ → ℕ → List Row
operation_rows keys bytes from to =
    byte_rows (ltb (wrong_operation_in keys bytes from to) to) (fault_in keys bytes from to) (wrong_operation_in keys bytes from to)

abbrev pub step_row : ℕ → List ℕ → ℕ → ℕ → Row
step_row threads bytes from to = row Step (ltb (wrong_step_in threads bytes from to) to) (wrong_step_in threads bytes from to)

abbrev pub room_row : Bool → Row
room_row small = row TooSmall small 0
