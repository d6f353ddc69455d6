-- A step of a thread: one access, or an idle step. Steps are numbered from 1; the clock tells how many were taken.
use Rattle.std.specs.Prelude.{ℕ, cond, List, [], ◌∷◌, get_or, set, eqb, ltb}
use Rattle.terms.specs.declared.ThreadId.{ThreadId}
use Rattle.terms.specs.declared.OpId.{OpId}
use Rattle.terms.specs.declared.SnapshotId.{SnapshotId}
use Rattle.terms.specs.declared.Target.{Target}
use Rattle.figures.specs.declared.Counts.{Counts}
use Rattle.figures.specs.declared.Calculator.{Calculator}
use Rattle.figures.specs.declared.Sight.{Sight}
use Rattle.figures.specs.declared.UpdateDeed.{UpdateDeed}
use Rattle.figures.specs.declared.UpdateDeed.TheVariants.{Reads, Raises, Forwards}
use Rattle.figures.specs.declared.SizeDeed.{SizeDeed}
use Rattle.figures.specs.declared.SizeDeed.TheVariants.{Looks, Announces, Collects, Lowers, Keeps, Fixes, Shares}
use Rattle.figures.specs.declared.Content.{Content}
use Rattle.figures.specs.declared.Content.TheVariants.{Empty, Live, Marked}
use Rattle.figures.specs.declared.Slot.{Slot}
use Rattle.figures.specs.declared.Call.{Call}
use Rattle.figures.specs.declared.Call.TheVariants.{Insert}
use Rattle.figures.specs.declared.Update.{Update}
use Rattle.figures.specs.declared.Point.{Point}
use Rattle.figures.specs.declared.Point.TheVariants.{Idle, ReadSlot, Updating, CountInsertions, Link, HelpUnlink, CountDeletions, Mark, Unlink, Sizing}
use Rattle.figures.specs.declared.Deed.{Deed}
use Rattle.figures.specs.declared.Deed.TheVariants.{Rests, Finds, Links, Marks, Unlinks, Updates, Sizes}
use Rattle.figures.specs.declared.Next.{Next}
use Rattle.figures.specs.declared.Next.TheVariants.{To, Returns}
use Rattle.figures.specs.declared.Move.{Move}
use Rattle.figures.specs.declared.Local.{Local}
use Rattle.figures.specs.declared.Outcome.{Outcome}
use Rattle.figures.specs.declared.Look.{Look}
use Rattle.figures.specs.declared.Change.{Change}
use Rattle.figures.specs.declared.Record.{Record}
use Rattle.figures.specs.declared.Machine.{Machine}
use Rattle.figures.specs.Figure4.{more, more_byte, block_of, set_count, sight_of, window_of, raised, written, announced, lowered, fixed}
use Rattle.figures.specs.Figure5.{none}
use Rattle.figures.specs.Figure3.{read_slot, count_insertions, link, help_unlink, count_deletions, mark, unlink, updating, sizing, entry, cell_of, looks_at_cell, looks_at_snapshot, goes_to}

-- ---- What a step reads.

abbrev pub no_slot : Slot
no_slot = record { content = Empty }

abbrev pub no_local : Local
no_local = record { point = Idle; op = record { 0 = 0 }; end = record { 0 = 0 }; seen = [] }

abbrev pub no_record : Record
no_record =
    record {
      asked = record { thread = record { 0 = 0 }; call = Insert; key = 0 };
      outcome = record { answer = 0; first = 0; last = 0; own = 0; raiser = 0 };
      look = record { read = 0; found = Empty };
      change = record { target = record { 0 = 0 }; exchanged = 0; raised = 0; window = none };
      snapshot = none;
    }

abbrev pub content_at : Machine → ℕ → Content
content_at m k = (get_or m.slots k no_slot).content

abbrev pub local_at : Machine → ThreadId → Local
local_at m t = get_or m.locals t.0 no_local

abbrev pub record_at : Machine → OpId → Record
record_at m o = get_or m.records o.0 no_record

-- ---- What a step writes.

abbrev pub with_calculator : Calculator → Machine → Machine
with_calculator c m =
    record {
      threads = m.threads;
      keys = m.keys;
      clock = m.clock;
      idle = m.idle;
      calculator = c;
      slots = m.slots;
      locals = m.locals;
      records = m.records;
    }

abbrev pub with_content : ℕ → Content → Machine → Machine
with_content k c m =
    record {
      threads = m.threads;
      keys = m.keys;
      clock = m.clock;
      idle = m.idle;
      calculator = m.calculator;
      slots = set m.slots k (record { content = c });
      locals = m.locals;
      records = m.records;
    }

abbrev pub with_local : ThreadId → Local → Machine → Machine
with_local t l m =
    record {
      threads = m.threads;
      keys = m.keys;
      clock = m.clock;
      idle = m.idle;
      calculator = m.calculator;
      slots = m.slots;
      locals = set m.locals t.0 l;
      records = m.records;
    }

abbrev pub with_record : OpId → Record → Machine → Machine
with_record o r m =
    record {
      threads = m.threads;
      keys = m.keys;
      clock = m.clock;
      idle = m.idle;
      calculator = m.calculator;
      slots = m.slots;
      locals = m.locals;
      records = set m.records o.0 r;
    }

-- the clock, and how many steps were idle
abbrev pub with_clock : ℕ → ℕ → Machine → Machine
with_clock clock idle m =
    record {
      threads = m.threads;
      keys = m.keys;
      clock = clock;
      idle = idle;
      calculator = m.calculator;
      slots = m.slots;
      locals = m.locals;
      records = m.records;
    }

-- a record with one of its parts anew
abbrev pub with_outcome : Outcome → Record → Record
with_outcome x r =
    record { asked = r.asked; outcome = x; look = r.look; change = r.change; snapshot = r.snapshot }

abbrev pub with_look : Look → Record → Record
with_look x r =
    record { asked = r.asked; outcome = r.outcome; look = x; change = r.change; snapshot = r.snapshot }

abbrev pub with_change : Change → Record → Record
with_change x r =
    record { asked = r.asked; outcome = r.outcome; look = r.look; change = x; snapshot = r.snapshot }

abbrev pub with_used : SnapshotId → Record → Record
with_used n r =
    record { asked = r.asked; outcome = r.outcome; look = r.look; change = r.change; snapshot = n }

-- one own step more; the first is the operation's beginning
abbrev pub counted : ℕ → Record → Record
counted step r =
    let x = r.outcome in
    with_outcome
    (record {
      answer = x.answer;
      first = cond (eqb x.first 0) step x.first;
      last = x.last;
      own = more x.own;
      raiser = x.raiser;
    })
    r

-- it returned the answer a at this step
abbrev pub answered : ℕ → ℕ → Record → Record
answered a step r =
    let x = r.outcome in
    with_outcome (record { answer = a; first = x.first; last = step; own = x.own; raiser = x.raiser }) r

-- its slot exchange succeeded, with target c
abbrev pub exchanged_at : Target → ℕ → Record → Record
exchanged_at c step r =
    let x = r.change in
    with_change (record { target = c; exchanged = step; raised = x.raised; window = x.window }) r

-- its counter came to its target, while snapshot w was being collected, by a step of thread t
abbrev pub raised_at : ℕ → SnapshotId → ThreadId → Record → Record
raised_at step w t r =
    let x = r.change in
    let y = r.outcome in
    with_outcome (record { answer = y.answer; first = y.first; last = y.last; own = y.own; raiser = t.0 })
    (with_change (record { target = x.target; exchanged = x.exchanged; raised = step; window = w }) r)

-- a thread with the values that it has read for its sum; where it goes on; after a return
abbrev pub with_seen : List Counts → Local → Local
with_seen b l = record { point = l.point; op = l.op; end = l.end; seen = b }

abbrev pub standing : Point → Local → Local
standing p l = record { point = p; op = l.op; end = l.end; seen = l.seen }

abbrev pub finished : Local → Local
finished l = record { point = Idle; op = record { 0 = more_byte l.op.0 }; end = l.end; seen = l.seen }

-- ---- What the access of thread t in operation o changes. The clock is this step's number already.

abbrev pub rewritten : OpId → (Record → Record) → Machine → Machine
rewritten o f m = with_record o (f (record_at m o)) m

abbrev pub moved : ThreadId → (Local → Local) → Machine → Machine
moved t f m = with_local t (f (local_at m t)) m

abbrev pub calculated : (Calculator → Calculator) → Machine → Machine
calculated f m = with_calculator (f m.calculator) m

abbrev pub updates : UpdateDeed → Update → ThreadId → Machine → Machine
updates Reads u t m = m
updates Raises u t m =
    rewritten u.node.op (raised_at m.clock (window_of m.calculator) t)
    (calculated (raised (cell_of u) u.node.note.1.0) m)
updates (Forwards n) u t m = calculated (written n (cell_of u) u.node.note.1.0) m

abbrev pub sizes : SizeDeed → ThreadId → OpId → Machine → Machine
sizes Looks t o m = m
sizes Announces t o m = calculated (announced m.clock) m
sizes (Collects n j v) t o m = calculated (written n j v) m
sizes (Lowers n) t o m = moved t (with_seen (block_of 0)) (calculated (lowered n m.clock) m)
sizes (Keeps j v) t o m = moved t (with_seen (set_count (local_at m t).seen j v)) m
sizes (Fixes n v) t o m =
    rewritten o (with_used n) (calculated (fixed n v m.clock (local_at m t).seen) m)
sizes (Shares n) t o m = rewritten o (with_used n) m

abbrev pub does : Deed → ThreadId → OpId → Machine → Machine
does Rests t o m = m
does (Finds c) t o m = rewritten o (with_look (record { read = m.clock; found = c })) m
does (Links n) t o m =
    with_content (record_at m o).asked.key (Live n) (rewritten o (exchanged_at n.note.1 m.clock) m)
does (Marks n d) t o m =
    with_content (record_at m o).asked.key (Marked n d) (rewritten o (exchanged_at d.note.1 m.clock) m)
does Unlinks t o m = with_content (record_at m o).asked.key Empty m
does (Updates d u) t o m = updates d u t m
does (Sizes d) t o m = sizes d t o m

-- where the thread goes on; a return is the operation's last step
abbrev pub goes_on : Next → ThreadId → OpId → Machine → Machine
goes_on (To p) t o m = moved t (standing p) m
goes_on (Returns a) t o m = moved t finished (rewritten o (answered a m.clock) m)

-- ---- The access that the thread makes, by where it stands. Between operations it begins the next one.

abbrev pub stands_at : Point → Call → Point
stands_at Idle k = entry k
stands_at ReadSlot k = ReadSlot
stands_at (Updating p u a) k = Updating p u a
stands_at CountInsertions k = CountInsertions
stands_at (Link c) k = Link c
stands_at (HelpUnlink n d) k = HelpUnlink n d
stands_at (CountDeletions n) k = CountDeletions n
stands_at (Mark n c) k = Mark n c
stands_at (Unlink n d) k = Unlink n d
stands_at (Sizing p) k = Sizing p

abbrev pub access_of : Point → ThreadId → OpId → Call → ℕ → List Counts → Sight → Content → Move
access_of Idle t o k threads seen s c = goes_to Idle
access_of ReadSlot t o k threads seen s c = read_slot k c
access_of (Updating p u a) t o k threads seen s c = updating p u a s
access_of CountInsertions t o k threads seen s c = count_insertions s
access_of (Link g) t o k threads seen s c = link t o g c
access_of (HelpUnlink n d) t o k threads seen s c = help_unlink n d c
access_of (CountDeletions n) t o k threads seen s c = count_deletions n s
access_of (Mark n g) t o k threads seen s c = mark t o n g c
access_of (Unlink n d) t o k threads seen s c = unlink n d c
access_of (Sizing p) t o k threads seen s c = sizing p threads seen s

unfoldable pub move_of : Machine → ThreadId → Move
move_of m t =
    let l = local_at m t in
    let x = (record_at m l.op).asked in
    let p = stands_at l.point x.call in
    access_of p t l.op x.call m.threads l.seen
    (sight_of m.calculator (looks_at_snapshot p) (looks_at_cell t p)) (content_at m x.key)

-- the step is counted, to its operation, and has its number
abbrev pub ticked : OpId → Machine → Machine
ticked o m =
    let step = more m.clock in
    rewritten o (counted step) (with_clock step m.idle m)

unfoldable pub accessed : Machine → ThreadId → Machine
accessed m t =
    let o = (local_at m t).op in
    let v = move_of m t in
    goes_on v.next t o (does v.deed t o (ticked o m))

-- a step of a thread with no operation left
abbrev pub idled : Machine → Machine
idled m = with_clock (more m.clock) (more m.idle) m

unfoldable pub step_of : Machine → ThreadId → Machine
step_of m t = cond (ltb (local_at m t).op.0 (local_at m t).end.0) (accessed m t) (idled m)

-- a whole schedule
unfoldable pub run_of : Machine → List ℕ → Machine
run_of m [] = m
run_of m (t ∷ s) = run_of (step_of m (record { 0 = t })) s
