use Rattle.std.proofs.Common.{arith, below_more}
use borrow.Author.Tests.{eq-eqb}
use Rattle.runfile.specs.Rows.{sum_to}
use Rattle.runfile.specs.Layout.{count_in}
use Rattle.runfile.proofs.Laws.{sum_on}
use Rattle.runfile.proofs.Entries.{offset_there, count_there, offset_stops, offset_passes}
use Rattle.runfile.proofs.ContentsTable.check_offsets.Goals as goal

pub loop-i-init : goal.loop-i-init
unfolding sum_to
loop-i-init c =
    let t = c.args.self.now in
    record { small = omega (arith, t.few); at = omega arith; right = λ j h. absurd (omega arith) }

pub returns-then-from-end : goal.returns-then-from-end
returns-then-from-end c =
    let t = c.args.self.now in
    let offset = offset_there t.file.now t.entries.now t.entries_of_file c.loop-i.i (omega arith) in
    rw c.at.ensures (offset_stops t.file.now c.loop-i.i (omega arith) c.loop-i.invariant.right (λ e. c.if-from-end.true (omega (arith, c.from-entry.ensures))))

pub loop-i-preserved : goal.loop-i-preserved
loop-i-preserved c =
    let t = c.args.self.now in
    let offset = offset_there t.file.now t.entries.now t.entries_of_file c.loop-i.i (omega arith) in
    let count = count_there t.file.now t.entries.now t.entries_of_file c.loop-i.i (omega arith) in
    record {
      small = omega arith;
      at = omega (arith, sum_on (count_in t.file.now) c.loop-i.i, c.from-entry.ensures);
      right = below_more _ _ c.loop-i.invariant.right (eq-eqb _ _ (omega (arith, c.from-entry.ensures)));
    }

pub returns : goal.returns
returns c =
    let t = c.args.self.now in
    offset_passes t.file.now (λ j h. c.loop-i.invariant.right j (omega arith))
