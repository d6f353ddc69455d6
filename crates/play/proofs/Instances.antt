-- The worked runs are instances of demand 3, and a log need not begin with the log of the run cut off earlier.
use Prim.Native.Nat.{ℕ}
use mathlib.Core.Path.{◌≡◌, refl, ap}
use mathlib.Core.Logic.{◌≢◌}
use mathlib.Core.List.{List}
use native.Mathlib.Omega.{arith}
use lib.ListN.{length, get_or, take}
use Rattle.history.specs.Demand.{Demand}
use Rattle.figures.specs.Places.{course_of}
use Rattle.runfile.specs.Rows.{first_bad, sum_to, list_from}
use Rattle.runfile.specs.Read.{read_of}
use Rattle.play.specs.Run.{machine_of}
use Rattle.play.specs.Worked.{case_a, case_b, case_c}
use Rattle.play.proofs.Accepted.{demand_held}

-- A: its file is accepted, so its log of three operations meets demand 3
pub a_meets : Demand 3 (course_of (machine_of case_a.file))
unfolding read_of first_bad sum_to list_from
a_meets = (demand_held case_a.file refl).demand

-- B is C's schedule and more, and B's log does not begin with C's
pub b_begins_otherwise : take (length case_c.back.log) case_b.back.log ≢ case_c.back.log
b_begins_otherwise e = let z : ◌≡◌ {A = ℕ} 0 1 = ap (λ (l : List ℕ). get_or l 0 0) e in omega arith
