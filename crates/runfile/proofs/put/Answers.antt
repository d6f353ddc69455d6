use Rattle.std.proofs.Common.{refl, add-zero, arith, ◌∙◌}
use Rattle.std.proofs.Math.ListN.{drop_of_length-le}
use Rattle.runfile.proofs.File.{put_on}
use Rattle.runfile.proofs.put.Goals as goal

pub loop-i-init : goal.loop-i-init
loop-i-init c = rw add-zero

pub loop-i-preserved : goal.loop-i-preserved
loop-i-preserved c = put_on c.args.bytes.now c.loop-i.out c.args.at (omega arith) ∙ c.loop-i.invariant

pub returns : goal.returns
returns c = rw (drop_of_length-le _ c.loop-i-test.false) at c.loop-i.invariant
