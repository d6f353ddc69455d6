use Rattle.std.proofs.Common.{◌+◌, [], ◌∷◌, length, refl, ap, arith, ◌∙◌}
use Rattle.std.proofs.Math.ListN.{drop_of_length-le}
use Rattle.runfile.specs.Rows.{sum_to}
use Rattle.runfile.specs.Layout.{count_of, entries}
use Rattle.runfile.proofs.Laws.{sum_on, sum_grows}
use Rattle.runfile.proofs.File.{length_entries, entry_on}
use Rattle.runfile.proofs.put_entries.Goals as goal

pub loop-i-init : goal.loop-i-init
unfolding sum_to
loop-i-init c = record { at = omega arith; same = refl }

pub put-requires : goal.put-requires
put-requires c =
    let long = ap length c.to_bytes.ensures ∙ length_entries c.loop-i.offset (count_of c.args.counts.now c.loop-i.i ∷ []) in
    omega arith

pub overflow_add-offset : goal.overflow_add-offset
overflow_add-offset c =
    let f = count_of c.args.counts.now in
    omega (arith, sum_on f c.loop-i.i, sum_grows f (c.loop-i.i + 1) (length c.args.counts.now) (omega arith))

pub loop-i-preserved : goal.loop-i-preserved
loop-i-preserved c =
    let l = c.loop-i in
    let next = entry_on c.args.counts.now l.out l.offset c.loop-i-test.true refl in
    record {
      at = omega (arith, sum_on (count_of c.args.counts.now) l.i);
      same = rw (c.put.ensures, c.to_bytes.ensures) (next ∙ l.invariant.same);
    }

pub returns : goal.returns
unfolding entries
returns c = rw (drop_of_length-le _ c.loop-i-test.false) at c.loop-i.invariant.same
