-- Reading and writing undo one another: the statements.
use Rattle.std.specs.Prelude.{ℕ, ◌+◌, ◌-◌, ◌<◌, ◌≡◌, List, ◌++◌, length, get_or, take, drop, replicate}
use Rattle.figures.specs.Limits.{most_threads, most_operations, most_steps}
use Rattle.runfile.specs.Layout.{body_at}
use Rattle.runfile.specs.Read.{read_of}
use Rattle.runfile.specs.Write.{write_of, written_of}
use Rattle.runfile.specs.declared.Reading.{Reading}

-- the n bytes from `at` on
abbrev pub part : ℕ → ℕ → List ℕ → List ℕ
part at n f = take n (drop at f)

-- every number of the list is a byte
abbrev pub Bytes : List ℕ → Type 0
Bytes f = (i : ℕ) → get_or f i 0 < 256

-- what reading tells of a file of these contents
abbrev pub contents : ℕ → ℕ → List ℕ → List ℕ → List ℕ → Reading
contents threads keys counts operations schedule =
    record {
      number = 0;
      place = 0;
      threads = threads;
      keys = keys;
      counts = counts ++ replicate (most_threads - threads) 0;
      operations_at = body_at threads;
      operations = length operations;
      schedule_at = body_at threads + length operations;
      steps = length schedule;
    }

-- the file reads as these contents, and has those bytes where reading says
pub record ReadsAs (threads keys : ℕ) (counts operations schedule f : List ℕ) : Type 0 where
  pub told : read_of f ≡ contents threads keys counts operations schedule
  pub operations_there : part (read_of f).operations_at (read_of f).operations f ≡ operations
  pub schedule_there : part (read_of f).schedule_at (read_of f).steps f ≡ schedule

-- the writer makes the file of what reading tells of it, wherever there is room
pub record Remade (f : List ℕ) (r : Reading) (room : ℕ) : Type 0 where
  pub answer : write_of r.threads r.keys (take r.threads r.counts) (part r.operations_at r.operations f)
      (part r.schedule_at r.steps f)
      room
      ≡ record { number = 0; place = 0; length = length f }
  pub file : written_of r.threads r.keys (take r.threads r.counts) (part r.operations_at r.operations f)
      (part r.schedule_at r.steps f)
      room
      ≡ f

-- no accepted file is longer
abbrev pub longest : ℕ
longest = body_at most_threads + most_operations + most_steps
