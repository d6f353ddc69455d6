use Rattle.std.proofs.Common.{arith, sym}
use Rattle.std.proofs.Math.Seq.{length-take-le}
use Rattle.runfile.proofs.Answers.{accepted_number}
use Rattle.listing.proofs.Handed.{entries_few}
use Rattle.listing.proofs.print_run.Goals as goal

pub overflow_mul-log : goal.overflow_mul-log
overflow_mul-log g c =
    let few = entries_few c.args.file.now (accepted_number _ _ c.in-Ok.ensures.read) _ c.in-Ok.ensures.played in
    record { fits = omega (arith, few) }

pub slice_bounds-log-end : goal.slice_bounds-log-end
slice_bounds-log-end g c =
    let few = entries_few c.args.file.now (accepted_number _ _ c.in-Ok.ensures.read) _ c.in-Ok.ensures.played in
    omega (arith, few, c.read_and_play.auto.log)

pub slice_bounds-as_chunks-end : goal.slice_bounds-as_chunks-end
slice_bounds-as_chunks-end g c =
    let few = entries_few c.args.file.now (accepted_number _ _ c.in-Ok.ensures.read) _ c.in-Ok.ensures.played in
    sym (length-take-le _ _ (omega (arith, few, c.read_and_play.auto.log)))
