use Rattle.std.proofs.Common.{arith, refl, Ok, ◌∙◌}
use Rattle.runfile.specs.Answers.{reading_of}
use Rattle.play.proofs.Accepted.{laid_out, played_is}
use Rattle.play.proofs.machine_after.Goals as goal

pub slice_bounds-operations-count : goal.slice_bounds-operations-count
slice_bounds-operations-count c = (laid_out c.args.file.now c.args.layout c.requires).0

pub slice_bounds-operations-start : goal.slice_bounds-operations-start
slice_bounds-operations-start c = omega (arith, laid_out c.args.file.now c.args.layout c.requires)

pub slice_bounds-operations-end : goal.slice_bounds-operations-end
slice_bounds-operations-end c = omega (arith, laid_out c.args.file.now c.args.layout c.requires)

pub slice_bounds-play-count : goal.slice_bounds-play-count
slice_bounds-play-count c = (laid_out c.args.file.now c.args.layout c.requires).1

pub slice_bounds-play-start : goal.slice_bounds-play-start
slice_bounds-play-start c = omega (arith, laid_out c.args.file.now c.args.layout c.requires)

pub returns : goal.returns
returns c = c.play.ensures ∙ rw c.start-start.ensures (played_is c.args.file.now (reading_of (Ok c.args.layout)) c.requires refl)
