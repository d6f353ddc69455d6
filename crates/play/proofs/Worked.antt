-- Every row of the worked runs is what the definitions give, together.
use mathlib.Core.Path.{◌≡◌, refl}
use mathlib.Core.List.{map}
use Rattle.figures.specs.Start.{start_of, records_of, locals_of, owner_of}
use Rattle.figures.specs.Step.{move_of, accessed, step_of, run_of}
use Rattle.figures.specs.Places.{place_of}
use Rattle.history.specs.Courses.{order_of}
use Rattle.history.specs.Order.{log_from, least_among, nearer, above, closer}
use Rattle.runfile.specs.Rows.{first_bad, sum_to, list_from}
use Rattle.runfile.specs.Layout.{entries, file_of}
use Rattle.runfile.specs.Read.{read_of}
use Rattle.places.specs.Written.{numbers_of}
use Rattle.play.specs.Run.{machine_of, fives_of}
use Rattle.play.specs.Worked.{Row, rows, handed_back}

pub worked : map (λ (r : Row). handed_back r.file) rows ≡ map (λ (r : Row). r.back) rows
unfolding handed_back machine_of fives_of numbers_of start_of records_of locals_of owner_of run_of step_of accessed move_of place_of order_of log_from least_among nearer above closer entries file_of first_bad sum_to list_from read_of
worked = refl
