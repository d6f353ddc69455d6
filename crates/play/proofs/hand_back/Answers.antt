use Rattle.std.proofs.Common.{◌≡◌, ap, sym, ◌∙◌, length, None, Some, [], rules, ◌*◌, ◌≤◌, List}
use Rattle.std.proofs.lemmas.List.Edits.{sets}
use Rattle.history.specs.Order.{Entry}
use Rattle.machine.specs.Parts.{whole_of}
use Rattle.places.specs.Written.{numbers_of, held_of}
use Rattle.places.proofs.History.{log_told}
use Rattle.play.specs.Run.{per_operation}
use Rattle.play.proofs.Decided.{lacks_log, has_log, lacking, lacking_none, unwritten, is_written, hands_told}
use Rattle.play.proofs.hand_back.Goals as goal

pub returns-in_err-entries-clause-log_after : goal.returns-in_err-entries-clause-log_after
unfolding numbers_of
returns-in_err-entries-clause-log_after c =
    let a = c.args in
    let r = length a.results.now in
    let l = length a.log.now in
    let w = c.write_log.ensures in
    let none : c.write_log.result ≡ None = search rules in
    let e = lacks_log a.operations r l _ (sym w.value ∙ none) in
    (rw e.1 at w.log_after) ∙ unwritten a.log.now _ (lacking a.operations r l e.0)

pub returns-clause-value : goal.returns-clause-value
returns-clause-value c =
    let a = c.args in
    let r = length a.results.now in
    let l = length a.log.now in
    let w = c.write_log.ensures in
    let some : c.write_log.result ≡ Some c.in_ok-entries.entries = search rules in
    let room : per_operation * held_of a.operations ≤ r = rw c.held-n.ensures at c.if-results-n.false in
    let k = has_log a.operations r l _ _ (sym w.value ∙ some) room in
    rw c.from.ensures (hands_told (whole_of a.m.now [] []) a.operations r l k.0 (k.1 ∙ ap length (log_told (whole_of a.m.now [] []) (held_of a.operations))))

pub returns-clause-log_after : goal.returns-clause-log_after
returns-clause-log_after c =
    let a = c.args in
    let r = length a.results.now in
    let l = length a.log.now in
    let w = c.write_log.ensures in
    let some : c.write_log.result ≡ Some c.in_ok-entries.entries = search rules in
    let room : per_operation * held_of a.operations ≤ r = rw c.held-n.ensures at c.if-results-n.false in
    let k = has_log a.operations r l _ _ (sym w.value ∙ some) room in
    (rw k.2 at w.log_after)
    ∙ ap (λ (es : List Entry). sets a.log.now 0 (numbers_of es)) (log_told (whole_of a.m.now [] []) (held_of a.operations))
    ∙ is_written a.log.now _ (lacking_none a.operations r l k.0)
