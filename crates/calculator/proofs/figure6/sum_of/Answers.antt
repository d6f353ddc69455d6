use Rattle.std.proofs.Common.{rules, tests, ◌≡◌, ◌∙◌, ap, List, [], ◌∷◌, ◌+◌, arith, refl}
use Rattle.std.specs.List.{sum_by}
use Rattle.std.proofs.lemmas.Iterator.{YieldsList-from_slice}
use Rattle.std.proofs.lemmas.Iterator.Adapters.{fits_from_length, at_most_from_yields_List}
use Rattle.std.proofs.lemmas.List.Sums.{sum_by-cons}
use Rattle.figures.specs.declared.Kind.{Kind}
use Rattle.figures.specs.declared.Counts.{Counts}
use Rattle.figures.specs.Figure4.{count_of}
use Rattle.figures.specs.Figure6.{sum_of}
use Rattle.calculator.proofs.figure6.sum_of.Goals as goal

sum_by-count_of : (k : Kind) (b : List Counts) → sum_by (count_of k) b ≡ sum_of k b
sum_by-count_of k [] = refl
sum_by-count_of k (c ∷ b) = sum_by-cons (count_of k) c b ∙ ap (λ n. count_of k c + n) (sum_by-count_of k b)

-- eight counts of 32 bits
pub sum-requires-clause-fits : goal.sum-requires-clause-fits
sum-requires-clause-fits c = fits_from_length _ _ 8 _ (at_most_from_yields_List (YieldsList-from_slice c.args.b.now cc) (omega arith)) c.map.ensures.closure (omega arith) (λ x r q k. search (rules, tests))

pub returns : goal.returns
returns c =
    let e : c.sum.result ≡ sum_by (count_of c.args.k) c.args.b.now = search rules in
    e ∙ sum_by-count_of c.args.k c.args.b.now
