use Rattle.std.proofs.Common.{◌≡◌, ◌<◌, sym, ◌∙◌, ℕ, suc, ◌+◌, ◌≤◌, List, [], ◌∷◌, length, get_or, set, drop, refl, add-one, arith}
use Rattle.std.proofs.lemmas.List.{length-set, set-get_or, set_past, drop_more, drop_all, get_or_read}
use Rattle.std.proofs.lemmas.List.Edits.{sets}
use borrow.Author.Tests.{ltb-true, ltb-false}
use Rattle.figures.specs.declared.Record.{Record}
use Rattle.figures.specs.Start.{unbegun, owner_of, records_of}
use Rattle.figures.proofs.records_of.Goals.{in-Some, in_default}
use Rattle.figures.proofs.records_of.Goals as goal

-- stores beyond the end change nothing
sets_past : (l : List Record) (i : ℕ) (vs : List Record) → length l ≤ i → sets l i vs ≡ l
sets_past l i [] h = refl
sets_past l i (a ∷ vs) h = sets_past (set l i a) (suc i) vs (rw length-set (omega arith)) ∙ set_past l i a h

module _ (cs ops : List ℕ) (rs : List Record) (i : ℕ) where
  more : (r : Record) → i < length ops → r ≡ unbegun (owner_of cs i) (get_or ops i 0) →
      sets (set rs i r) (i + 1) (records_of cs (i + 1) (drop (i + 1) ops)) ≡ sets rs i (records_of cs i (drop i ops))
  unfolding records_of
  more r h e = rw (drop_more ops i 0 h, e, add-one)

  none : length ops ≤ i → sets rs (i + 1) (records_of cs (i + 1) (drop (i + 1) ops)) ≡ sets rs i (records_of cs i (drop i ops))
  unfolding records_of
  none h = rw (drop_all i ops h, drop_all (i + 1) ops (omega arith))

pub loop-o-preserved : goal.loop-o-preserved
loop-o-preserved c =
    let cs = c.args.counts in
    let ops = c.args.operations.now in
    elim c.match-get.branch [
      | in-Some w ↦
          let at = w.in-Some.ensures.lookup in
          let here : c.loop-o.o < length ops = ltb-true c.loop-o.o (length ops) (sym at.0) in
          let e = more cs ops c.loop-o.record-items c.loop-o.o w.unbegun.result here (rw (← w.owner_of.ensures, ← get_or_read ops c.loop-o.o w.in-Some.b.now here at.1 0) w.unbegun.ensures) in
          rw w.record-items-is record { long = rw length-set c.loop-o.invariant.long; same = e ∙ c.loop-o.invariant.same }
      | in_default w ↦
          let past : length ops ≤ c.loop-o.o = ltb-false c.loop-o.o (length ops) (sym w.in_default.ensures.lookup.0) in
          rw (w.record-items-is ∙ set-get_or c.loop-o.record-items c.loop-o.o _) record { long = c.loop-o.invariant.long; same = none cs ops c.loop-o.record-items c.loop-o.o past ∙ c.loop-o.invariant.same }
    ]

pub returns : goal.returns
returns c =
    sym (sets_past c.loop-o.record-items c.loop-o.o (records_of c.args.counts c.loop-o.o (drop c.loop-o.o c.args.operations.now)) (omega arith)) ∙ c.loop-o.invariant.same
