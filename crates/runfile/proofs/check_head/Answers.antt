use Rattle.std.proofs.Common.{sym, ◌∙◌}
use Rattle.runfile.specs.Rows.{here, later}
use Rattle.runfile.proofs.check_head.Goals as goal

pub returns-then-is_outside : goal.returns-then-is_outside
returns-then-is_outside c = rw c.at.ensures (here (sym c.is_outside.ensures ∙ c.if-is_outside.true))

pub returns-then-is_outside-2 : goal.returns-then-is_outside-2
returns-then-is_outside-2 c =
    rw c.at-then-is_outside-2.ensures
    (later (sym c.is_outside.ensures ∙ c.if-is_outside.false) (here (sym c.is_outside-2.ensures ∙ c.if-is_outside-2.true)))
