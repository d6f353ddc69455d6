use Rattle.std.proofs.Common.{◌≡◌, ◌<◌, ℕ, suc, ◌+◌, ◌-◌, ◌≤◌, List, length, get_or, drop, cond, ltb, arith}
use Rattle.std.proofs.lemmas.List.{at_drop_more, at_drop_all}
use Rattle.std.proofs.lemmas.Bool.Decides.{nat_tests}
use Rattle.figures.specs.Start.{owner_of}
use Rattle.figures.proofs.owner_of.Goals as goal

module _ (cs : List ℕ) (i o : ℕ) where
  more : i < length cs → owner_of (drop i cs) o ≡ cond (ltb o (get_or cs i 0)) 0 (suc (owner_of (drop (i + 1) cs) (o - get_or cs i 0)))
  unfolding owner_of
  more h = at_drop_more (λ xs. owner_of xs o) cs i 0 h

  none : length cs ≤ i → owner_of (drop i cs) o ≡ 0
  unfolding owner_of
  none h = at_drop_all (λ xs. owner_of xs o) cs i h

pub returns-then-left-count : goal.returns-then-left-count
returns-then-left-count c =
    let e = more c.args.counts c.loop-thread.thread c.loop-thread.left (omega arith) in
    grind (arith, nat_tests)

pub loop-thread-preserved : goal.loop-thread-preserved
loop-thread-preserved c =
    let e = more c.args.counts c.loop-thread.thread c.loop-thread.left (omega arith) in
    grind (arith, nat_tests)

pub returns : goal.returns
returns c = omega (arith, none c.args.counts c.loop-thread.thread c.loop-thread.left (omega arith))
