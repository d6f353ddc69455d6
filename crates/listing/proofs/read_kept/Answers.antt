use Rattle.std.proofs.Common.{ap, option_map, take}
use Rattle.listing.proofs.Kept.{start_kept, start_same}
use Rattle.listing.proofs.read_kept.Goals as goal

pub returns-clause-start : goal.returns-clause-start
returns-clause-start g c =
    start_kept _ _ _ c.new-kept.ensures c.take.ensures.limit _ _ (ap (λ r. option_map (take c.take.result.limit) (g.R.Read.remaining r.now)) c.take.ensures.inner) c.in_ok-copy.ensures.bytes

pub returns-clause-same : goal.returns-clause-same
returns-clause-same g c = start_same _ _ (returns-clause-start g c)
