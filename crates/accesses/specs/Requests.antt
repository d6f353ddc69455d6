-- What an access of thread t asks of the counters and of the table of snapshots, by where the thread stands.
use Rattle.std.specs.Prelude.{List}
use Rattle.terms.specs.declared.ThreadId.{ThreadId}
use Rattle.terms.specs.declared.SnapshotId.{SnapshotId}
use Rattle.figures.specs.declared.Kind.TheVariants.{Insertion, Deletion}
use Rattle.figures.specs.declared.Counts.{Counts}
use Rattle.figures.specs.declared.Point.{Point}
use Rattle.figures.specs.declared.Point.TheVariants.{Idle, ReadSlot, Updating, CountInsertions, Link, HelpUnlink, CountDeletions, Mark, Unlink, Sizing}
use Rattle.figures.specs.Figure3.{cell_of}
use Rattle.calculator.specs.declared.request.Request.{Request}
use Rattle.calculator.specs.declared.request.Request.TheVariants.{Nothing, Count}
use Rattle.calculator.specs.Requests.{update_request, size_request}

-- where this snapshot is current, and the thread has read the values `seen` for its sum
abbrev pub request_at : Point → ThreadId → SnapshotId → List Counts → Request
request_at Idle t current seen = Nothing
request_at ReadSlot t current seen = Nothing
request_at (Updating p u a) t current seen = update_request p (cell_of u) u.node.note.1
request_at CountInsertions t current seen = Count (record { thread = t; kind = Insertion })
request_at (Link c) t current seen = Nothing
request_at (HelpUnlink n d) t current seen = Nothing
request_at (CountDeletions n) t current seen = Count (record { thread = t; kind = Deletion })
request_at (Mark n c) t current seen = Nothing
request_at (Unlink n d) t current seen = Nothing
request_at (Sizing p) t current seen = size_request p current seen
