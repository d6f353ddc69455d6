-- The rules of `figures` (specs/Places.antt), told of the parts of a machine that each reads. That they put each operation at the same
-- place is shown in proofs/Placed.antt.
use Rattle.std.specs.Prelude.{ℕ, Bool, cond, not, ◌&&◌, eqb, ltb}
use Rattle.terms.specs.declared.OpId.{OpId}
use Rattle.figures.specs.declared.Cell.{Cell}
use Rattle.figures.specs.declared.Content.{Content}
use Rattle.figures.specs.declared.Content.TheVariants.{Empty, Live, Marked}
use Rattle.figures.specs.declared.Call.{Call}
use Rattle.figures.specs.declared.Call.TheVariants.{Insert, Delete, Contains, Size}
use Rattle.figures.specs.declared.Trace.{Trace}
use Rattle.figures.specs.declared.Record.{Record}
use Rattle.history.specs.declared.Place.{Place}
use Rattle.figures.specs.Figure4.{count_at}
use Rattle.history.specs.Places.{place}
use Rattle.figures.specs.Places.{was_raised, after_stands}
use Rattle.places.specs.declared.rules.Window.{Window}

-- what an update reads of the snapshot that was being collected at its raising
abbrev pub window_by : Trace → Cell → Window
window_by t j = record { closed = t.closed; fixed = t.fixed; seen = count_at t.seen j }

-- the operation whose update decides: its own if that was raised, else the one that was found (where none was found, any will do)
abbrev pub found_or : OpId → Content → OpId
found_or o Empty = o
found_or o (Live d) = d.op
found_or o (Marked n d) = d.op

abbrev pub decider_of : OpId → Record → OpId
decider_of o r = cond (was_raised r) o (found_or o r.look.found)

-- size: at its snapshot's closing; several by thread number
abbrev pub size_stands_by : Record → ℕ → Place
size_stands_by r closed = place closed 0 r.asked.thread.0 0

-- update: at its raising; the exception directly after that closing and its sizes
abbrev pub missed_by : Record → Window → Bool
missed_by r w = not (eqb r.change.window.0 0) && not (eqb w.fixed 0) && ltb w.seen r.change.target.0

abbrev pub update_stands_by : Record → Window → Place
update_stands_by r w = place (cond (missed_by r w) w.closed r.change.raised) 1 r.change.raised 0

-- other returned operations, with the last slot read at r; what was found stands at p
abbrev pub finder_stands_by : Content → Place → ℕ → Place
finder_stands_by Empty p r = place r 1 r 0
finder_stands_by (Live d) p r = after_stands p r
finder_stands_by (Marked n d) p r = after_stands p r

-- the deciding update stands at p
abbrev pub set_stands_by : Record → Place → Place
set_stands_by r p = cond (was_raised r) p (finder_stands_by r.look.found p r.look.read)

abbrev pub stands_by : Call → Record → Place → ℕ → Place
stands_by Insert r p closed = set_stands_by r p
stands_by Delete r p closed = set_stands_by r p
stands_by Contains r p closed = set_stands_by r p
stands_by Size r p closed = size_stands_by r closed
