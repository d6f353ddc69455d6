-- Where an operation stands in the log, told of the machine after the run; its course, and the log.
use Rattle.std.specs.Prelude.{ℕ, Bool, cond, not, ◌&&◌, List, eqb, ltb}
use Rattle.terms.specs.declared.OpId.{OpId}
use Rattle.figures.specs.declared.Kind.{Kind}
use Rattle.figures.specs.declared.Kind.TheVariants.{Insertion, Deletion}
use Rattle.figures.specs.declared.Cell.{Cell}
use Rattle.figures.specs.declared.Content.{Content}
use Rattle.figures.specs.declared.Content.TheVariants.{Empty, Live, Marked}
use Rattle.figures.specs.declared.Call.{Call}
use Rattle.figures.specs.declared.Call.TheVariants.{Insert, Delete, Contains, Size}
use Rattle.figures.specs.declared.Record.{Record}
use Rattle.figures.specs.declared.Machine.{Machine}
use Rattle.figures.specs.Figure4.{count_at, trace_at}
use Rattle.figures.specs.Step.{record_at}
use Rattle.history.specs.declared.Place.{Place}
use Rattle.history.specs.PlainSet.{Ask, insert, delete, contains, size}
use Rattle.history.specs.Order.{Entry}
use Rattle.history.specs.Places.{place}
use Rattle.history.specs.Courses.{Course, ordered, logged}
use Rattle.history.specs.Courses as Courses

abbrev pub op : ℕ → OpId
op o = record { 0 = o }

-- it returned; its counter was brought to its target
abbrev pub returned : Record → Bool
returned r = ltb 0 r.outcome.last

abbrev pub was_raised : Record → Bool
was_raised r = ltb 0 r.change.raised

-- size: at its snapshot's closing; several by thread number
abbrev pub size_stands : Machine → Record → Place
size_stands m r = place (trace_at m.calculator r.snapshot).closed 0 r.asked.thread.0 0

-- the kind of update that a call makes (the other calls make none), and the update's cell
abbrev pub kind_of : Call → Kind
kind_of Insert = Insertion
kind_of Delete = Deletion
kind_of Contains = Insertion
kind_of Size = Insertion

abbrev pub own_cell : Record → Cell
own_cell r = record { thread = r.asked.thread; kind = kind_of r.asked.call }

-- the exception: it was raised while a snapshot was being collected, the snapshot is fixed in this run, and the value that its
-- winner read from the update's cell for its sum is below the target
abbrev pub missed : Machine → Record → Bool
missed m r =
    let s = r.change.window in
    not (eqb s.0 0) && not (eqb (trace_at m.calculator s).fixed 0)
    && ltb (count_at (trace_at m.calculator s).seen (own_cell r)) r.change.target.0

-- update: at its raising; the exception directly after that closing and its sizes. Several such go by raising step
abbrev pub update_stands : Machine → Record → Place
update_stands m r =
    place (cond (missed m r) (trace_at m.calculator r.change.window).closed r.change.raised) 1 r.change.raised 0

-- other returned operations, with the last slot read at r. Live or marked: at r if what was found stands at an earlier step,
-- otherwise directly after that update, at its step; several by r
abbrev pub after_stands : Place → ℕ → Place
after_stands p r = cond (ltb p.step r) (place r 1 r 0) (place p.step 1 p.tie r)

-- empty slot: at r
abbrev pub finder_stands : Machine → Content → ℕ → Place
finder_stands m Empty r = place r 1 r 0
finder_stands m (Live d) r = after_stands (update_stands m (record_at m d.op)) r
finder_stands m (Marked n d) r = after_stands (update_stands m (record_at m d.op)) r

abbrev pub set_stands : Machine → Record → Place
set_stands m r = cond (was_raised r) (update_stands m r) (finder_stands m r.look.found r.look.read)

abbrev pub stands : Machine → Call → Record → Place
stands m Insert r = set_stands m r
stands m Delete r = set_stands m r
stands m Contains r = set_stands m r
stands m Size r = size_stands m r

unfoldable pub place_of : Machine → ℕ → Place
place_of m o = stands m (record_at m (op o)).asked.call (record_at m (op o))

-- what an operation asks of the plain set
abbrev pub ask_of : Call → ℕ → Ask
ask_of Insert k = insert k
ask_of Delete k = delete k
ask_of Contains k = contains k
ask_of Size k = size

-- its course: an update changes the set once it is raised, so only returned operations and raised updates are listed
abbrev pub course_at : Record → Place → Course
course_at r p =
    record {
      ask = ask_of r.asked.call r.asked.key;
      first = r.outcome.first;
      last = r.outcome.last;
      answer = r.outcome.answer;
      changed = was_raised r;
      place = p;
    }

abbrev pub course_of : Machine → ℕ → Course
course_of m o = course_at (record_at m (op o)) (place_of m o)

abbrev pub listed : Machine → ℕ → Bool
listed m o = Courses.listed (course_of m o)

abbrev pub order_of : Machine → ℕ → ℕ
order_of m o = Courses.order_of (course_of m o)

-- the log of a run with n operations: operation and step, in order of place
abbrev pub ordered_of : Machine → ℕ → List ℕ
ordered_of m n = ordered n (course_of m)

abbrev pub log_of : Machine → ℕ → List Entry
log_of m n = logged n (course_of m)
