use Rattle.std.proofs.Common.{arith}
use Rattle.lent.proofs.Openings.{lies, lacking_refused, table_refused, room_opens}
use Rattle.lent.proofs.opening.Goals as goal
use Rattle.lent.proofs.opening.Goals.{then-lacks_room-via-then-lacks_room, then-lacks_room-via-else-lacks_room+then-table-sizes_in}

pub slice_bounds-operations-count : goal.slice_bounds-operations-count
slice_bounds-operations-count c = let a = lies c.args.file.now c.in_ok-layout.layout c.in_ok-layout.ensures in omega (arith, a.schedule_next)

pub slice_bounds-operations-start : goal.slice_bounds-operations-start
slice_bounds-operations-start c = let a = lies c.args.file.now c.in_ok-layout.layout c.in_ok-layout.ensures in omega (arith, a.schedule_next)

pub slice_bounds-operations-end : goal.slice_bounds-operations-end
slice_bounds-operations-end c = let a = lies c.args.file.now c.in_ok-layout.layout c.in_ok-layout.ensures in omega (arith, a.file_ends)

pub returns-then-lacks_room-clause-refused : goal.returns-then-lacks_room-clause-refused
returns-then-lacks_room-clause-refused c =
    let a = c.args in
    let l = c.in_ok-layout in
    let lacks = c.lacks_room.ensures in
    rw c.at.ensures
    (elim c.then-lacks_room.branch [
      | then-lacks_room-via-then-lacks_room w ↦ lacking_refused a.file.now l.layout l.ensures a.results a.log a.table lacks w.if-lacks_room.true
      | then-lacks_room-via-else-lacks_room+then-table-sizes_in w ↦
          table_refused a.file.now l.layout l.ensures a.results a.log a.table lacks w.sizes_in.ensures w.if-table-sizes_in.true
    ])

pub returns-clause-opened : goal.returns-clause-opened
returns-clause-opened c =
    let a = c.args in
    let l = c.in_ok-layout in
    room_opens a.file.now l.layout l.ensures a.results a.log a.table c.lacks_room.ensures c.sizes_in.ensures c.if-lacks_room.false
    (omega arith)
