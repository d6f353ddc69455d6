-- The form in numbers of what a run answers: 0 and what it did, or the number and place of the refusal.
use Rattle.std.specs.Prelude.{Result, Ok, Err}
use Rattle.runfile.specs.declared.Refused.{Refused}
use Rattle.runfile.specs.Refusals.{number_of}
use Rattle.play.specs.declared.Played.{Played}
use Rattle.play.specs.declared.Told.{Told}
use Rattle.play.specs.Run.{refused}

abbrev pub told_by : Result Played Refused → Told
told_by (Ok p) = record { number = 0; place = 0; entries = p.entries; idle = p.idle; snapshots = p.snapshots }
told_by (Err e) = refused (number_of e.why) e.place
