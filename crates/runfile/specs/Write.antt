-- What the writer answers and writes: its tests in its own order.
use Rattle.std.specs.Prelude.{ℕ, List, [], ◌∷◌, ◌++◌, Bool, true, not, cond, length, ltb, eqb}
use Rattle.runfile.specs.Rows.{Row, row, decide, sum_to}
use Rattle.runfile.specs.Layout.{count_of, file_of}
use Rattle.runfile.specs.Shared.{threads_row, keys_row, operations_row, steps_row, operation_rows, step_row, room_row}
use Rattle.runfile.specs.declared.Refusal.TheVariants.{Lists}
use Rattle.runfile.specs.declared.Writing.{Writing}

-- there are not T counts, or their sum is not the number of operations
abbrev pub disagree : ℕ → List ℕ → ℕ → Bool
disagree threads counts operations =
    cond (eqb (length counts) threads) (not (eqb (sum_to (count_of counts) (length counts)) operations)) true

-- a refusal: number and place, and length 0
abbrev pub unwritten : ℕ → ℕ → Writing
unwritten n p = record { number = n; place = p; length = 0 }

-- accepted: the file's length
abbrev pub written : ℕ → ℕ → List ℕ → List ℕ → List ℕ → Writing
written threads keys counts operations schedule =
    record { number = 0; place = 0; length = length (file_of threads keys counts operations schedule) }

-- what a refusal writes
abbrev pub nothing : ℕ → ℕ → List ℕ
nothing n p = []

module _ (threads keys : ℕ) (counts operations schedule : List ℕ) (room : ℕ) where
  abbrev pub writer_body_rows : List Row
  writer_body_rows =
      operation_rows keys operations 0 (length operations)
      ++ step_row threads schedule 0 (length schedule)
      ∷ room_row (ltb room (length (file_of threads keys counts operations schedule)))
      ∷ []

  abbrev pub writer_rows : List Row
  writer_rows =
      threads_row threads
      ∷ keys_row keys
      ∷ row Lists (disagree threads counts (length operations)) 0
      ∷ operations_row (length operations)
      ∷ steps_row (length schedule)
      ∷ writer_body_rows

  unfoldable pub write_of : Writing
  write_of = decide unwritten (written threads keys counts operations schedule) writer_rows

  -- what is written from the output's first byte on
  unfoldable pub written_of : List ℕ
  written_of = decide nothing (file_of threads keys counts operations schedule) writer_rows
