use Rattle.std.proofs.Common.{length, sym}
use Rattle.std.proofs.lemmas.Result.{err_from_is_err_and}
use Rattle.runfile.proofs.Writer.{write_passes, write_stops, file_passes, file_stops}
use Rattle.runfile.proofs.write.Goals as goal

pub returns-in_err-length-clause-value : goal.returns-in_err-length-clause-value
returns-in_err-length-clause-value c =
    let s = c.args.contents in
    let p = err_from_is_err_and c.from_residual.result c.from_residual.ensures.1 in
    rw (p.1, p.2) (sym (write_stops s.threads s.keys s.counts.now s.operations.now s.schedule.now (length c.args.out.now) c.in_err-length.ensures.tested))

pub returns-in_err-length-clause-out_after : goal.returns-in_err-length-clause-out_after
returns-in_err-length-clause-out_after c =
    let s = c.args.contents in
    rw (file_stops s.threads s.keys s.counts.now s.operations.now s.schedule.now (length c.args.out.now) c.in_err-length.ensures.tested)

pub returns-clause-value : goal.returns-clause-value
returns-clause-value c =
    let s = c.args.contents in
    rw c.in_ok-length.ensures.value
    (sym (write_passes s.threads s.keys s.counts.now s.operations.now s.schedule.now (length c.args.out.now) c.in_ok-length.ensures.tested))

pub returns-clause-out_after : goal.returns-clause-out_after
returns-clause-out_after c =
    let s = c.args.contents in
    rw (file_passes s.threads s.keys s.counts.now s.operations.now s.schedule.now (length c.args.out.now) c.in_ok-length.ensures.tested) c.fill.ensures
