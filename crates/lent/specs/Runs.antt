-- A run whose snapshot table the caller lends: of a file, and of the room that is lent for results, for the log and for the table.
use Rattle.std.specs.Prelude.{◌≡◌, ℕ, ◌+◌, Bool, false, cond, ◌||◌, List, set, ltb, eqb, Ok}
use Rattle.figures.specs.declared.Snapshot.{Snapshot}
use Rattle.figures.specs.declared.Machine.{Machine}
use Rattle.figures.specs.Figure4.{block_of, fresh_snapshot}
use Rattle.figures.specs.Step.{run_of}
use Rattle.machine.specs.declared.Rest.{Rest}
use Rattle.machine.specs.Parts.{whole_of}
use Rattle.runfile.specs.declared.Refused.{Refused}
use Rattle.runfile.specs.Refusals.{number_of}
use Rattle.runfile.specs.declared.Layout.{Layout}
use Rattle.runfile.specs.Read.{read_of}
use Rattle.runfile.specs.Answers.{reading_of}
use Rattle.play.specs.declared.Told.{Told}
use Rattle.play.specs.Run.{operations_of, machine_of, too_small, refused, ran}
use Rattle.lent.specs.Table.{announced_in, sizes_of}

-- refusal 11: a lent output is too small. The table needs one record more than there are size operations.
abbrev pub lent_small : List ℕ → ℕ → ℕ → ℕ → Bool
lent_small f results log table = too_small f results log || ltb table (sizes_of (operations_of f) + 1)

-- the number of the first row that holds, 0 if none does
abbrev pub lent_number : List ℕ → ℕ → ℕ → ℕ → ℕ
lent_number f results log table =
    cond (eqb (read_of f).number 0) (cond (lent_small f results log table) 11 0) (read_of f).number

abbrev pub lent_told : List ℕ → ℕ → ℕ → ℕ → Told
lent_told f results log table =
    cond (eqb (read_of f).number 0) (cond (lent_small f results log table) (refused 11 0) (ran f))
    (refused (read_of f).number (read_of f).place)

-- what the table takes: the announced records
abbrev pub records_of : List ℕ → List Snapshot
records_of f = announced_in (machine_of f)

-- ---- Before the first step: a file that nothing refuses is opened, with the layout that reading tells, and of another the first row that
-- holds is told.

pub record Opens (f : List ℕ) (results log table : ℕ) (l : Layout) : Type 0 where
  pub accepted : lent_number f results log table ≡ 0
  pub read : reading_of (Ok l) ≡ read_of f

pub record Refuses (f : List ℕ) (results log table : ℕ) (e : Refused) : Type 0 where
  pub number : number_of e.why ≡ lent_number f results log table
  pub told : refused (number_of e.why) e.place ≡ lent_told f results log table

-- ---- The steps, over a table whose record 0 is announced and not collecting, all else INVALID, and over counters that are 0.

abbrev pub ran_over : Rest → List Snapshot → List ℕ → Machine
ran_over m table steps = run_of (whole_of m (block_of 0) (set table 0 (fresh_snapshot false))) steps
