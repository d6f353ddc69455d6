use Rattle.std.proofs.Common.{arith}
use borrow.Author.Tests.{lt-ltb, le-ltb}
use Rattle.figures.specs.Limits.{most_operations, most_steps}
use Rattle.runfile.specs.Rows.{here, later}
use Rattle.runfile.proofs.check_lengths.Goals as goal

pub returns-then-operations-gt-OPERATIONS : goal.returns-then-operations-gt-OPERATIONS
returns-then-operations-gt-OPERATIONS c = rw c.at.ensures (here (lt-ltb most_operations c.args.operations (omega arith)))

pub returns-then-steps-gt-STEPS : goal.returns-then-steps-gt-STEPS
returns-then-steps-gt-STEPS c =
    rw c.at-then-steps-gt-STEPS.ensures
    (later (le-ltb most_operations c.args.operations (omega arith)) (here (lt-ltb most_steps c.args.steps (omega arith))))
