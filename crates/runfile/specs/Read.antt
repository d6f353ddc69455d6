-- What reading a file answers: the table of refusals, row by row.
use Rattle.std.specs.Prelude.{ℕ, ◌+◌, ◌-◌, List, [], ◌∷◌, ◌++◌, Bool, not, length, get_or, replicate, ltb, eqb}
use Rattle.figures.specs.Limits.{most_threads}
use Rattle.runfile.specs.Rows.{Row, row, decide, first_bad_in, sum_to, list_from}
use Rattle.runfile.specs.Layout.{entry_at, body_at, offset_in, count_in}
use Rattle.runfile.specs.Shared.{threads_row, keys_row, operations_row, steps_row, wrong_operation_in, wrong_step_in, operation_rows, step_row, room_row}
use Rattle.runfile.specs.declared.Refusal.TheVariants.{NoHead, TableCutShort, Offset, Length}
use Rattle.runfile.specs.declared.Reading.{Reading}

abbrev pub threads_in : List ℕ → ℕ
threads_in f = get_or f 0 0

abbrev pub keys_in : List ℕ → ℕ
keys_in f = get_or f 1 0

abbrev pub operations_in : List ℕ → ℕ
operations_in f = sum_to (count_in f) (threads_in f)

abbrev pub steps_in : List ℕ → ℕ
steps_in f = count_in f (threads_in f)

-- where the schedule lies, as its entry says
abbrev pub schedule_in : List ℕ → ℕ
schedule_in f = offset_in f (threads_in f)

-- the sum required of entry i's offset is the first body's place and the counts before it
abbrev pub offset_right : List ℕ → ℕ → Bool
offset_right f i = eqb (offset_in f i) (body_at (threads_in f) + sum_to (count_in f) i)

-- the first entry, operation byte and schedule byte that is wrong, or where they end
abbrev pub wrong_entry : List ℕ → ℕ
wrong_entry f = first_bad_in (offset_right f) 0 (threads_in f + 1)

abbrev pub wrong_operation : List ℕ → ℕ
wrong_operation f = wrong_operation_in (keys_in f) f (body_at (threads_in f)) (schedule_in f)

abbrev pub wrong_step : List ℕ → ℕ
wrong_step f = wrong_step_in (threads_in f) f (schedule_in f) (schedule_in f + steps_in f)

-- ---- the rows, in order

abbrev pub head_rows : List ℕ → List Row
head_rows f =
    row NoHead (ltb (length f) 2) 0
    ∷ threads_row (threads_in f)
    ∷ keys_row (keys_in f)
    ∷ row TableCutShort (ltb (length f) (body_at (threads_in f))) 0
    ∷ []

abbrev pub table_rows : List ℕ → List Row
table_rows f =
    row Offset (ltb (wrong_entry f) (threads_in f + 1)) (entry_at (wrong_entry f))
    ∷ operations_row (operations_in f)
    ∷ steps_row (steps_in f)
    ∷ row Length (not (eqb (length f) (schedule_in f + steps_in f))) 0
    ∷ []

abbrev pub body_rows : List ℕ → List Row
body_rows f =
    operation_rows (keys_in f) f (body_at (threads_in f)) (schedule_in f)
    ++ step_row (threads_in f) f (schedule_in f) (schedule_in f + steps_in f)
    ∷ []

abbrev pub rows : List ℕ → List Row
rows f = head_rows f ++ table_rows f ++ body_rows f

-- where outputs are lent there is one row more: one of them is too small
abbrev pub running_rows : List ℕ → Bool → List Row
running_rows f small = rows f ++ room_row small ∷ []

-- a refusal: number and place, every other number 0
abbrev pub refused : ℕ → ℕ → Reading
refused n p =
    record {
      number = n;
      place = p;
      threads = 0;
      keys = 0;
      counts = replicate most_threads 0;
      operations_at = 0;
      operations = 0;
      schedule_at = 0;
      steps = 0;
    }

abbrev pub counts_in : List ℕ → List ℕ
counts_in f = list_from (count_in f) (threads_in f) 0

-- an accepted file: the counts of absent threads are 0
abbrev pub accepted : List ℕ → Reading
accepted f =
    record {
      number = 0;
      place = 0;
      threads = threads_in f;
      keys = keys_in f;
      counts = counts_in f ++ replicate (most_threads - threads_in f) 0;
      operations_at = body_at (threads_in f);
      operations = operations_in f;
      schedule_at = schedule_in f;
      steps = steps_in f;
    }

unfoldable pub read_of : List ℕ → Reading
read_of f = decide refused (accepted f) (rows f)
