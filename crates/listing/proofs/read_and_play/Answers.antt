use Rattle.std.proofs.Common.{length}
use Rattle.runfile.proofs.Answers.{accepted_number}
use Rattle.listing.proofs.Handed.{not_refused}
use Rattle.listing.proofs.read_and_play.Goals as goal

pub returns-in_err-run-clause-refused : goal.returns-in_err-run-clause-refused
returns-in_err-run-clause-refused c =
    let f = c.args.file.now in
    absurd (not_refused f (accepted_number f _ c.in_ok-read.ensures) (length c.args.results.now) (length c.args.log.now) c.requires.0 c.requires.1 _ c.in_err-run.ensures.value)
