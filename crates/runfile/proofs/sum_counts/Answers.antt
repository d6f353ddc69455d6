use Rattle.std.proofs.Common.{◌≡◌, sum, rules, ◌∙◌}
use Rattle.runfile.proofs.Laws.{sum_all}
use Rattle.runfile.proofs.sum_counts.Goals as goal

pub returns : goal.returns
returns c =
    let told : c.sum.result ≡ sum c.args.counts.now = search rules in
    told ∙ sum_all c.args.counts.now
