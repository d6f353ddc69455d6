-- The form of an answer in numbers: 0 and what the file holds, or the number and place of the refusal.
use Rattle.std.specs.Prelude.{ℕ, ◌+◌, List, ltb, Result, Ok, Err}
use Rattle.runfile.specs.declared.Refused.{Refused}
use Rattle.runfile.specs.declared.Layout.{Layout}
use Rattle.runfile.specs.declared.Reading.{Reading}
use Rattle.runfile.specs.declared.Contents.{Contents}
use Rattle.runfile.specs.declared.Writing.{Writing}
use Rattle.runfile.specs.declared.Refusal.TheVariants.{Offset}
use Rattle.runfile.specs.Refusals.{number_of}
use Rattle.runfile.specs.Rows.{Row, row, Passes, Stops}
use Rattle.runfile.specs.Layout.{entry_at, file_of}
use Rattle.runfile.specs.Read.{threads_in, wrong_entry, refused}
use Rattle.runfile.specs.Write.{unwritten, writer_rows}

-- rows tested: none applies, or the refusal is that of the first that does
abbrev pub Tested : {A : Type 0} → List Row → Result A Refused → Type 0
Tested rows (Ok x) = Passes rows
Tested rows (Err e) = Stops rows e.why e.place

-- the row of the first entry whose offset is not the sum required
abbrev pub offset_row : List ℕ → Row
offset_row f = row Offset (ltb (wrong_entry f) (threads_in f + 1)) (entry_at (wrong_entry f))

-- what a reading tells beside its number and place
abbrev pub layout_of : Reading → Layout
layout_of r =
    record {
      threads = r.threads;
      keys = r.keys;
      counts = r.counts;
      operations_at = r.operations_at;
      operations = r.operations;
      schedule_at = r.schedule_at;
      steps = r.steps;
    }

-- the file of what the writer is given, and its rows where there is so much room
abbrev pub file_made : Contents → List ℕ
file_made c = file_of c.threads c.keys c.counts.now c.operations.now c.schedule.now

abbrev pub rows_against : Contents → ℕ → List Row
rows_against c room = writer_rows c.threads c.keys c.counts.now c.operations.now c.schedule.now room

abbrev pub reading_of : Result Layout Refused → Reading
reading_of (Ok l) =
    record {
      number = 0;
      place = 0;
      threads = l.threads;
      keys = l.keys;
      counts = l.counts;
      operations_at = l.operations_at;
      operations = l.operations;
      schedule_at = l.schedule_at;
      steps = l.steps;
    }
reading_of (Err e) = refused (number_of e.why) e.place

abbrev pub writing_of : Result ℕ Refused → Writing
writing_of (Ok n) = record { number = 0; place = 0; length = n }
writing_of (Err e) = unwritten (number_of e.why) e.place
