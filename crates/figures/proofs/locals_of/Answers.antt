use Rattle.std.proofs.Common.{◌≡◌, ◌<◌, ◌%◌, sym, ◌∙◌, ℕ, ◌+◌, ◌≤◌, ◌++◌, List, length, get_or, set, take, drop, append_assoc, arith}
use Rattle.std.proofs.lemmas.List.{append-nil, length-set, drop_more, drop_all, take_more_set, take_all}
use Rattle.figures.specs.declared.Local.{Local}
use Rattle.figures.specs.declared.Point.TheVariants.{Idle}
use Rattle.figures.specs.Figure4.{block_of}
use Rattle.figures.specs.Start.{locals_of}
use Rattle.figures.proofs.locals_of.Goals as goal

module _ (cs : List ℕ) (ls : List Local) (i first : ℕ) where
  more : (c : ℕ) (l : Local) → i < length cs → i < length ls → c ≡ get_or cs i 0
      → l ≡ record { point = Idle; op = record { 0 = first % 256 }; end = record { 0 = (first + c) % 256 }; seen = block_of 0 }
      → take (i + 1) (set ls i l) ++ locals_of (first + c) (drop (i + 1) cs) ≡ take i ls ++ locals_of first (drop i cs)
  unfolding locals_of
  more c l h k e f = rw (take_more_set ls i l k, drop_more cs i 0 h, append_assoc, f, e)

  whole : length cs ≤ i → length ls ≤ i → take i ls ++ locals_of first (drop i cs) ≡ ls
  unfolding locals_of
  whole h k = rw (drop_all i cs h, append-nil, take_all i ls k)

pub loop-t-preserved : goal.loop-t-preserved
loop-t-preserved c =
    let e = more c.args.counts c.loop-t.locals c.loop-t.t c.loop-t.first c.from.result c.local_of.result (omega arith) (omega arith) c.from.ensures c.local_of.ensures in
    record { small = omega arith; long = rw length-set c.loop-t.invariant.long; same = e ∙ c.loop-t.invariant.same }

pub returns : goal.returns
returns c = sym (whole c.args.counts c.loop-t.locals c.loop-t.t c.loop-t.first (omega arith) (omega arith)) ∙ c.loop-t.invariant.same
