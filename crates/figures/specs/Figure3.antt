-- Figure 3, the set's operations, one access each. What an access sees: the slot of its key, and of the calculator what
-- Figure4 says. An access is a move: where the thread goes on, or what it returns, and what the access changes.
use Rattle.std.specs.Prelude.{ℕ, Bool, false, cond, ◌&&◌, List, eqb}
use Rattle.terms.specs.declared.ThreadId.{ThreadId}
use Rattle.terms.specs.declared.OpId.{OpId}
use Rattle.terms.specs.declared.SnapshotId.{SnapshotId}
use Rattle.terms.specs.declared.Target.{Target}
use Rattle.figures.specs.declared.Kind.TheVariants.{Insertion, Deletion}
use Rattle.figures.specs.declared.Cell.{Cell}
use Rattle.figures.specs.declared.Counts.{Counts}
use Rattle.figures.specs.declared.Sight.{Sight}
use Rattle.figures.specs.declared.UpdatePoint.{UpdatePoint}
use Rattle.figures.specs.declared.UpdatePoint.TheVariants.{ReadCount}
use Rattle.figures.specs.declared.UpdateNext.{UpdateNext}
use Rattle.figures.specs.declared.UpdateNext.TheVariants.{Then, Done}
use Rattle.figures.specs.declared.SizePoint.{SizePoint}
use Rattle.figures.specs.declared.SizePoint.TheVariants.{FindCurrent}
use Rattle.figures.specs.declared.SizeNext.{SizeNext}
use Rattle.figures.specs.declared.SizeNext.TheVariants.{Goes, Sized}
use Rattle.figures.specs.declared.Node.{Node}
use Rattle.figures.specs.declared.Content.{Content}
use Rattle.figures.specs.declared.Content.TheVariants.{Empty, Live, Marked}
use Rattle.figures.specs.declared.Call.{Call}
use Rattle.figures.specs.declared.Call.TheVariants.{Insert, Delete, Contains, Size}
use Rattle.figures.specs.declared.Update.{Update}
use Rattle.figures.specs.declared.After.{After}
use Rattle.figures.specs.declared.After.TheVariants.{Answer, ToMark, ToHelpUnlink, ToUnlink}
use Rattle.figures.specs.declared.Point.{Point}
use Rattle.figures.specs.declared.Point.TheVariants.{Idle, ReadSlot, Updating, CountInsertions, Link, HelpUnlink, CountDeletions, Mark, Unlink, Sizing}
use Rattle.figures.specs.declared.Deed.TheVariants.{Rests, Finds, Links, Marks, Unlinks, Updates, Sizes}
use Rattle.figures.specs.declared.Next.{Next}
use Rattle.figures.specs.declared.Next.TheVariants.{To, Returns}
use Rattle.figures.specs.declared.Move.{Move}
use Rattle.figures.specs.Figure4.{more}
use Rattle.figures.specs.Figure6.{first_cell}
use Rattle.figures.specs.Figure5.{update_at, size_at, update_looks_at, size_looks_at, size_cell, none}

-- false and true, as answers
abbrev pub false' : ℕ
false' = 0

abbrev pub true' : ℕ
true' = 1

-- the update of a node's insertion, and of a mark's deletion
abbrev pub insertion : Node → Update
insertion n = record { kind = Insertion; node = n }

abbrev pub deletion : Node → Update
deletion d = record { kind = Deletion; node = d }

abbrev pub node_of : ThreadId → Target → OpId → Node
node_of t c o = record { note = record { 0 = t; 1 = c }; op = o }

-- update metadata, and then what follows
abbrev pub update : Update → After → Next
update u a = To (Updating ReadCount u a)

-- an exchange compares the node, and the mark
abbrev pub same_node : Node → Node → Bool
same_node a b = eqb a.op.0 b.op.0

abbrev pub is_live : Node → Content → Bool
is_live n Empty = false
is_live n (Live a) = same_node a n
is_live n (Marked a b) = false

abbrev pub is_marked : Node → Node → Content → Bool
is_marked n d Empty = false
is_marked n d (Live a) = false
is_marked n d (Marked a b) = same_node a n && same_node b d

abbrev pub goes_to : Point → Move
goes_to p = record { next = To p; deed = Rests }

-- contains, lines 7 to 14. Empty: false. Live: update for its insertion, true. Marked: update for its deletion, false
abbrev pub contains_found : Content → Next
contains_found Empty = Returns false'
contains_found (Live n) = update (insertion n) (Answer true')
contains_found (Marked n d) = update (deletion d) (Answer false')

-- insert, lines 16 to 22. Live: update for its insertion, false. Marked: update for its deletion, exchange that marked node
-- for empty. Empty: read own insertion counter
abbrev pub insert_found : Content → Next
insert_found Empty = To CountInsertions
insert_found (Live n) = update (insertion n) (Answer false')
insert_found (Marked n d) = update (deletion d) (ToHelpUnlink n d)

-- delete, lines 29 to 34. Empty: false. Marked: update for its deletion, false. Live: update for its insertion
abbrev pub delete_found : Content → Next
delete_found Empty = Returns false'
delete_found (Live n) = update (insertion n) (ToMark n)
delete_found (Marked n d) = update (deletion d) (Answer false')

-- (a size reads no slot)
abbrev pub found : Call → Content → Next
found Insert c = insert_found c
found Delete c = delete_found c
found Contains c = contains_found c
found Size c = Returns false'

-- lines 7, 16 and 29: read the slot
abbrev pub read_slot : Call → Content → Move
read_slot k c = record { next = found k c; deed = Finds c }

-- lines 22 and 85: read own insertion counter; the target is that plus 1
abbrev pub count_insertions : Sight → Move
count_insertions s = goes_to (Link (record { 0 = more s.count }))

-- line 25: exchange empty for the new live node. On failure, read again. On success, update, true
abbrev pub link_found : Node → Content → Move
link_found n Empty = record { next = update (insertion n) (Answer true'); deed = Links n }
link_found n (Live a) = goes_to ReadSlot
link_found n (Marked a b) = goes_to ReadSlot

abbrev pub link : ThreadId → OpId → Target → Content → Move
link t o c = link_found (node_of t c o)

-- line 42: exchange that marked node for empty (failure is ignored), read again
abbrev pub help_unlink : Node → Node → Content → Move
help_unlink n d c = record { next = To ReadSlot; deed = cond (is_marked n d c) Unlinks Rests }

-- lines 35 and 85: read own deletion counter
abbrev pub count_deletions : Node → Sight → Move
count_deletions n s = goes_to (Mark n (record { 0 = more s.count }))

-- line 36: exchange that live node for the marked one. On failure, read again. On success, update
abbrev pub mark : ThreadId → OpId → Node → Target → Content → Move
mark t o n c held =
    let d = node_of t c o in
    cond (is_live n held) (record { next = update (deletion d) (ToUnlink n d); deed = Marks n d }) (goes_to ReadSlot)

-- line 38: exchange the marked node for empty (failure is ignored), true
abbrev pub unlink : Node → Node → Content → Move
unlink n d c = record { next = Returns true'; deed = cond (is_marked n d c) Unlinks Rests }

-- lines 10, 13, 18, 21, 26, 32, 34 and 37: one access of updateMetadata, and what follows the last
abbrev pub afterwards : After → Next
afterwards (Answer a) = Returns a
afterwards (ToMark n) = To (CountDeletions n)
afterwards (ToHelpUnlink n d) = To (HelpUnlink n d)
afterwards (ToUnlink n d) = To (Unlink n d)

abbrev pub update_next : UpdateNext → Update → After → Next
update_next (Then p) u a = To (Updating p u a)
update_next (Done raised) u a = afterwards a

abbrev pub updating : UpdatePoint → Update → After → Sight → Move
updating p u a s =
    let v = update_at p u.node.note.1 s in
    record { next = update_next v.next u a; deed = Updates v.deed u }

-- line 41: one access of compute
abbrev pub size_next : SizeNext → Next
size_next (Goes p) = To (Sizing p)
size_next (Sized a) = Returns a

abbrev pub sizing : SizePoint → ℕ → List Counts → Sight → Move
sizing p threads seen s =
    let v = size_at p threads seen s in
    record { next = size_next v.next; deed = Sizes v.deed }

-- the first access of an operation
abbrev pub entry : Call → Point
entry Insert = ReadSlot
entry Delete = ReadSlot
entry Contains = ReadSlot
entry Size = Sizing FindCurrent

-- the cell and the snapshot that an access of thread t looks at
abbrev pub cell_of : Update → Cell
cell_of u = record { thread = u.node.note.0; kind = u.kind }

abbrev pub looks_at_cell : ThreadId → Point → Cell
looks_at_cell t Idle = first_cell
looks_at_cell t ReadSlot = first_cell
looks_at_cell t (Updating p u a) = cell_of u
looks_at_cell t CountInsertions = record { thread = t; kind = Insertion }
looks_at_cell t (Link c) = first_cell
looks_at_cell t (HelpUnlink n d) = first_cell
looks_at_cell t (CountDeletions n) = record { thread = t; kind = Deletion }
looks_at_cell t (Mark n c) = first_cell
looks_at_cell t (Unlink n d) = first_cell
looks_at_cell t (Sizing p) = size_cell p

abbrev pub looks_at_snapshot : Point → SnapshotId
looks_at_snapshot Idle = none
looks_at_snapshot ReadSlot = none
looks_at_snapshot (Updating p u a) = update_looks_at p
looks_at_snapshot CountInsertions = none
looks_at_snapshot (Link c) = none
looks_at_snapshot (HelpUnlink n d) = none
looks_at_snapshot (CountDeletions n) = none
looks_at_snapshot (Mark n c) = none
looks_at_snapshot (Unlink n d) = none
looks_at_snapshot (Sizing p) = size_looks_at p
