-- What an access changes, part by part: of its operation's record, of its thread, of its slot; and a whole step of a machine without its
-- counters and its table of snapshots, by what the step asks of these and the one number that it hears. The contracts of the functions
-- that make these changes cite them; that they make up a step is proved in proofs/Together.antt and proofs/Turns.antt.
use Rattle.std.specs.Prelude.{ℕ, Bool, cond, List, get_or, set, ltb}
use Rattle.terms.specs.declared.ThreadId.{ThreadId}
use Rattle.terms.specs.declared.OpId.{OpId}
use Rattle.terms.specs.declared.SnapshotId.{SnapshotId}
use Rattle.figures.specs.declared.Counts.{Counts}
use Rattle.figures.specs.declared.UpdateDeed.{UpdateDeed}
use Rattle.figures.specs.declared.UpdateDeed.TheVariants.{Reads, Raises, Forwards}
use Rattle.figures.specs.declared.SizeDeed.{SizeDeed}
use Rattle.figures.specs.declared.SizeDeed.TheVariants.{Looks, Announces, Collects, Lowers, Keeps, Fixes, Shares}
use Rattle.figures.specs.declared.Content.{Content}
use Rattle.figures.specs.declared.Content.TheVariants.{Empty, Live, Marked}
use Rattle.figures.specs.declared.Update.{Update}
use Rattle.figures.specs.declared.Deed.{Deed}
use Rattle.figures.specs.declared.Deed.TheVariants.{Rests, Finds, Links, Marks, Unlinks, Updates, Sizes}
use Rattle.figures.specs.declared.Next.{Next}
use Rattle.figures.specs.declared.Next.TheVariants.{To, Returns}
use Rattle.figures.specs.declared.Local.{Local}
use Rattle.figures.specs.declared.Record.{Record}
use Rattle.figures.specs.declared.Move.{Move}
use Rattle.figures.specs.declared.Snapshot.{Snapshot}
use Rattle.figures.specs.declared.Machine.{Machine}
use Rattle.figures.specs.Figure4.{more, block_of, set_count, no_trace}
use Rattle.figures.specs.Step.{no_slot, no_local, no_record, with_look, with_used, counted, answered, exchanged_at, raised_at, with_seen, standing, finished, stands_at, access_of}
use Rattle.calculator.specs.declared.request.Request.{Request}
use Rattle.calculator.specs.declared.request.Request.TheVariants.{Nothing}
use Rattle.calculator.specs.Exchanges.{window_in}
use Rattle.calculator.specs.Requests.{sight_by, current_by, traces_by}
use Rattle.accesses.specs.Requests.{request_at}
use Rattle.machine.specs.declared.Rest.{Rest}

-- ---- Of the operation's record: the step is counted; what the deed tells of it; the answer.

abbrev pub used_by : SizeDeed → Record → Record
used_by Looks r = r
used_by Announces r = r
used_by (Collects n j v) r = r
used_by (Lowers n) r = r
used_by (Keeps j v) r = r
used_by (Fixes n v) r = with_used n r
used_by (Shares n) r = with_used n r

abbrev pub noted_by : ℕ → Deed → Record → Record
noted_by step Rests r = r
noted_by step (Finds c) r = with_look (record { read = step; found = c }) r
noted_by step (Links n) r = exchanged_at n.note.1 step r
noted_by step (Marks n d) r = exchanged_at d.note.1 step r
noted_by step Unlinks r = r
noted_by step (Updates d u) r = r
noted_by step (Sizes d) r = used_by d r

abbrev pub answered_by : ℕ → Next → Record → Record
answered_by step (To p) r = r
answered_by step (Returns a) r = answered a step r

abbrev pub recorded_by : ℕ → Deed → Next → Record → Record
recorded_by step d x r = answered_by step x (noted_by step d (counted step r))

-- ---- Of the thread: the values that it keeps for a sum; where it goes on.

abbrev pub summed_by : SizeDeed → List Counts → List Counts
summed_by Looks b = b
summed_by Announces b = b
summed_by (Collects n j v) b = b
summed_by (Lowers n) b = block_of 0
summed_by (Keeps j v) b = set_count b j v
summed_by (Fixes n v) b = b
summed_by (Shares n) b = b

abbrev pub seen_by : Deed → List Counts → List Counts
seen_by Rests b = b
seen_by (Finds c) b = b
seen_by (Links n) b = b
seen_by (Marks n d) b = b
seen_by Unlinks b = b
seen_by (Updates d u) b = b
seen_by (Sizes d) b = summed_by d b

abbrev pub goes_by : Next → Local → Local
goes_by (To p) l = standing p l
goes_by (Returns a) l = finished l

abbrev pub stood_by : Deed → Next → Local → Local
stood_by d x l = goes_by x (with_seen (seen_by d l.seen) l)

-- ---- Of the slot.

abbrev pub held_by : Deed → Content → Content
held_by Rests c = c
held_by (Finds f) c = c
held_by (Links n) c = Live n
held_by (Marks n d) c = Marked n d
held_by Unlinks c = Empty
held_by (Updates d u) c = c
held_by (Sizes d) c = c

-- ---- Of another operation's record: the update that is raised, by whichever thread, at this step, while snapshot w is being collected.

abbrev pub raised_record : ℕ → SnapshotId → ThreadId → OpId → List Record → List Record
raised_record step w t o rs = set rs o.0 (raised_at step w t (get_or rs o.0 no_record))

abbrev pub raises_by : UpdateDeed → Update → ℕ → SnapshotId → ThreadId → List Record → List Record
raises_by Reads u step w t rs = rs
raises_by Raises u step w t rs = raised_record step w t u.node.op rs
raises_by (Forwards n) u step w t rs = rs

abbrev pub raised_by : Deed → ℕ → SnapshotId → ThreadId → List Record → List Record
raised_by Rests step w t rs = rs
raised_by (Finds c) step w t rs = rs
raised_by (Links n) step w t rs = rs
raised_by (Marks n d) step w t rs = rs
raised_by Unlinks step w t rs = rs
raised_by (Updates d u) step w t rs = raises_by d u step w t rs
raised_by (Sizes d) step w t rs = rs

-- ---- A turn: what an access gives that heard this number, from the small parts that it is told.

-- the access itself, by thread t of so many, in the operation of record r, on a slot that holds this
abbrev pub move_by : ThreadId → ℕ → Local → Record → Content → SnapshotId → ℕ → Move
move_by t threads l r held current heard =
    access_of (stands_at l.point r.asked.call) t l.op r.asked.call threads l.seen (sight_by heard current) held

-- a machine is the counters, the table of snapshots, and the rest
abbrev pub whole_of : Rest → List Counts → List Snapshot → Machine
whole_of m counters table =
    record {
      threads = m.threads;
      keys = m.keys;
      clock = m.clock;
      idle = m.idle;
      calculator = record { counters = counters; current = m.current; snapshots = table; traces = m.traces };
      slots = m.slots;
      locals = m.locals;
      records = m.records;
    }

abbrev pub rest_of : Machine → Rest
rest_of m =
    record {
      threads = m.threads;
      keys = m.keys;
      clock = m.clock;
      idle = m.idle;
      current = m.calculator.current;
      traces = m.calculator.traces;
      slots = m.slots;
      locals = m.locals;
      records = m.records;
    }

-- ---- A step of the rest: what thread t asks of the counters and of the table, and the rest after it heard a number.

abbrev pub local_in : Rest → ThreadId → Local
local_in m t = get_or m.locals t.0 no_local

abbrev pub own_in : Rest → ThreadId → Record
own_in m t = get_or m.records (local_in m t).op.0 no_record

abbrev pub held_in : Rest → ThreadId → Content
held_in m t = (get_or m.slots (own_in m t).asked.key no_slot).content

-- it has an operation left
abbrev pub is_busy : Rest → ThreadId → Bool
is_busy m t = ltb (local_in m t).op.0 (local_in m t).end.0

-- the snapshot that is being collected
abbrev pub window_now : Rest → SnapshotId
window_now m = window_in m.current (get_or m.traces m.current.0 no_trace).closed

abbrev pub asks_of : Rest → ThreadId → Request
asks_of m t = request_at (stands_at (local_in m t).point (own_in m t).asked.call) t m.current (local_in m t).seen

-- nothing where the thread has no operation left, or is not there
abbrev pub request_of : Rest → ThreadId → Request
request_of m t = cond (is_busy m t) (asks_of m t) Nothing

abbrev pub taken_by : Move → Request → ℕ → ThreadId → Rest → Rest
taken_by v x heard t m =
    let step = more m.clock in
    let l = local_in m t in
    record {
      threads = m.threads;
      keys = m.keys;
      clock = step;
      idle = m.idle;
      current = current_by x m.current;
      traces = traces_by x heard step l.seen m.traces;
      slots = set m.slots (own_in m t).asked.key (record { content = held_by v.deed (held_in m t) });
      locals = set m.locals t.0 (stood_by v.deed v.next l);
      records = raised_by v.deed step (window_now m) t (set m.records l.op.0 (recorded_by step v.deed v.next (own_in m t)));
    }

abbrev pub move_in : Rest → ThreadId → ℕ → Move
move_in m t heard = move_by t m.threads (local_in m t) (own_in m t) (held_in m t) m.current heard

abbrev pub taken_of : Rest → ThreadId → ℕ → Rest
taken_of m t heard = taken_by (move_in m t heard) (asks_of m t) heard t m

abbrev pub idled_of : Rest → Rest
idled_of m =
    record {
      threads = m.threads;
      keys = m.keys;
      clock = more m.clock;
      idle = more m.idle;
      current = m.current;
      traces = m.traces;
      slots = m.slots;
      locals = m.locals;
      records = m.records;
    }

abbrev pub decided_of : Rest → ThreadId → ℕ → Rest
decided_of m t heard = cond (is_busy m t) (taken_of m t heard) (idled_of m)
