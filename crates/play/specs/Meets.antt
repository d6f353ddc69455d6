-- What the run of an accepted file meets: demand 3.
use Rattle.std.specs.Prelude.{List, ℕ}
use Rattle.history.specs.Demand.{Demand}
use Rattle.figures.specs.Places.{course_of}
use Rattle.figures.specs.Counts.{SizeSteps}
use Rattle.runfile.specs.Read.{read_of}
use Rattle.play.specs.Run.{machine_of, count_of}

pub record Meets (f : List ℕ) : Type 0 where
  -- the log lists what it should, in order, each within its span, and plays right on the plain set
  pub demand : Demand (count_of f) (course_of (machine_of f))
  -- no size takes more than 8T+5 steps of its own
  pub sizes : SizeSteps (read_of f).threads (count_of f) (machine_of f)
