-- "What a run hands back": of a file, and of the room that is lent for results and log.
use Rattle.std.specs.Prelude.{ℕ, ◌*◌, Bool, cond, ◌||◌, List, [], ◌∷◌, length, take, drop, eqb, ltb}
use Rattle.figures.specs.declared.Record.{Record}
use Rattle.figures.specs.declared.Machine.{Machine}
use Rattle.figures.specs.Start.{start_of}
use Rattle.figures.specs.Step.{run_of}
use Rattle.figures.specs.Places.{log_of}
use Rattle.places.specs.Written.{per_entry, numbers_of, held_of}
use Rattle.runfile.specs.Read.{read_of}
use Rattle.play.specs.declared.Told.{Told}

-- the operation bytes and the schedule of a file, where reading says they lie
abbrev pub operations_of : List ℕ → List ℕ
operations_of f = take (read_of f).operations (drop (read_of f).operations_at f)

abbrev pub schedule_of : List ℕ → List ℕ
schedule_of f = take (read_of f).steps (drop (read_of f).schedule_at f)

-- the machine after the run
unfoldable pub machine_of : List ℕ → Machine
machine_of f =
    run_of (start_of (read_of f).threads (read_of f).keys (read_of f).counts (operations_of f)) (schedule_of f)

-- how many operations
abbrev pub count_of : List ℕ → ℕ
count_of f = (read_of f).operations

-- numbers per operation: answer, first step, last step, own steps, and who raised it
abbrev pub per_operation : ℕ
per_operation = 5

unfoldable pub fives_of : List Record → List ℕ
fives_of [] = []
fives_of (r ∷ rs) =
    r.outcome.answer ∷ r.outcome.first ∷ r.outcome.last ∷ r.outcome.own ∷ r.outcome.raiser ∷ fives_of rs

abbrev pub results_of : List ℕ → List ℕ
results_of f = fives_of (take (count_of f) (machine_of f).records)

-- two numbers per log entry: operation, step
abbrev pub entries_of : List ℕ → List ℕ
entries_of f = numbers_of (log_of (machine_of f) (count_of f))

-- refusal 11: a lent output is too small for n operations; for those of a file
abbrev pub too_small_for : ℕ → ℕ → ℕ → Bool
too_small_for n results log = ltb results (per_operation * n) || ltb log (per_entry * n)

abbrev pub too_small : List ℕ → ℕ → ℕ → Bool
too_small f results log = too_small_for (count_of f) results log

-- the number of the first row that holds, 0 if none does
abbrev pub number_of : List ℕ → ℕ → ℕ → ℕ
number_of f results log = cond (eqb (read_of f).number 0) (cond (too_small f results log) 11 0) (read_of f).number

abbrev pub refused : ℕ → ℕ → Told
refused n p = record { number = n; place = p; entries = 0; idle = 0; snapshots = 0 }

-- what a machine has done with its first n operations
abbrev pub tells : Machine → ℕ → Told
tells m n =
    record {
      number = 0;
      place = 0;
      entries = length (log_of m n);
      idle = m.idle;
      snapshots = m.calculator.current.0;
    }

abbrev pub ran : List ℕ → Told
ran f = tells (machine_of f) (count_of f)

-- with so much room for results and for the log
abbrev pub told_of : List ℕ → ℕ → ℕ → Told
told_of f results log =
    cond (eqb (read_of f).number 0) (cond (too_small f results log) (refused 11 0) (ran f))
    (refused (read_of f).number (read_of f).place)

-- what is written: nothing after a refusal
abbrev pub when : {A : Type 0} → ℕ → List A → List A
when number values = cond (eqb number 0) values []

-- ---- What any machine hands back of n operations, as far as it holds them, with so much room for results and for the log.

abbrev pub lacks : ℕ → ℕ → ℕ → Bool
lacks n results log = too_small_for (held_of n) results log

abbrev pub lack_number : ℕ → ℕ → ℕ → ℕ
lack_number n results log = cond (lacks n results log) 11 0

abbrev pub handed_told : Machine → ℕ → ℕ → ℕ → Told
handed_told m n results log = cond (lacks n results log) (refused 11 0) (tells m (held_of n))
