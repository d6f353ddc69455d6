use Rattle.std.proofs.Common.{rules}
use Rattle.figures.specs.Start.{start_of}
use Rattle.figures.proofs.Machine.start.Goals as goal

pub returns : goal.returns
unfolding start_of
returns c = search rules
