use Rattle.std.proofs.Common.{arith, ◌≡◌, length, sym, ◌∙◌}
use Rattle.play.proofs.Results.{fives_on, fives_end}
use Rattle.play.proofs.write_results.Goals as goal

pub loop-i-preserved : goal.loop-i-preserved
loop-i-preserved c =
    let l = c.loop-i in
    rw c.copy_from_slice.ensures.after (fives_on c.args.records.now l.results l.i c.loop-i-test.true (omega arith)) ∙ l.invariant

pub returns : goal.returns
returns c =
    let e : c.loop-i.i ≡ length c.args.records.now = omega arith in
    sym (fives_end c.args.records.now c.loop-i.results c.loop-i.i e) ∙ c.loop-i.invariant
