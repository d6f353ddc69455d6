-- The log reads of a machine the operation records and the traces of its snapshots, and nothing else.
use Prim.Native.Nat.{ℕ}
use mathlib.Core.Path.{◌≡◌, refl, ap, fun_ext}
use mathlib.Core.Bool.{cond}
use Rattle.history.specs.declared.Place.{Place}
use Rattle.history.specs.Courses.{Course, logged}
use Rattle.figures.specs.declared.Content.{Content}
use Rattle.figures.specs.declared.Content.TheVariants.{Empty, Live, Marked}
use Rattle.figures.specs.declared.Call.{Call}
use Rattle.figures.specs.declared.Call.TheVariants.{Insert, Delete, Contains, Size}
use Rattle.figures.specs.declared.Record.{Record}
use Rattle.figures.specs.declared.Machine.{Machine}
use Rattle.figures.specs.Step.{record_at}
use Rattle.figures.specs.Places.{op, was_raised, update_stands, finder_stands, set_stands, stands, place_of, course_at, course_of, log_of}
use Rattle.places.specs.History.{with_history}

module _ (m : Machine) where
  abbrev h : Machine
  h = with_history m.records m.calculator.traces

  finder_told : (c : Content) (read : ℕ) → finder_stands h c read ≡ finder_stands m c read
  finder_told Empty read = refl
  finder_told (Live d) read = refl
  finder_told (Marked n d) read = refl

  set_told : (r : Record) → set_stands h r ≡ set_stands m r
  set_told r = ap (λ (p : Place). cond (was_raised r) (update_stands m r) p) (finder_told r.look.found r.look.read)

  stands_told : (call : Call) (r : Record) → stands h call r ≡ stands m call r
  stands_told Insert r = set_told r
  stands_told Delete r = set_told r
  stands_told Contains r = set_told r
  stands_told Size r = refl

  place_told : (o : ℕ) → place_of h o ≡ place_of m o
  unfolding place_of
  place_told o = stands_told (record_at m (op o)).asked.call (record_at m (op o))

  course_told : (o : ℕ) → course_of h o ≡ course_of m o
  course_told o = ap (course_at (record_at m (op o))) (place_told o)

  pub log_told : (n : ℕ) → log_of h n ≡ log_of m n
  log_told n = ap (λ (c : ℕ → Course). logged n c) (fun_ext {f = course_of h} {g = course_of m} course_told)
