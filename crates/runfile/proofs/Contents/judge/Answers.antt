use Rattle.std.proofs.Common.{ℕ, false, ltb, ◌≡◌, [], ◌∷◌, length, sym, arith, ◌∙◌}
use Rattle.std.proofs.lemmas.Result.{err_from_is_err_and}
use borrow.Author.Tests.{lt-ltb, le-ltb}
use Rattle.runfile.specs.Rows.{Passes, Stops, here, later}
use Rattle.runfile.specs.Shared.{threads_row, keys_row, operations_row, steps_row, operation_rows, step_row, room_row}
use Rattle.runfile.specs.Answers.{file_made, rows_against}
use Rattle.runfile.specs.declared.Refusal.{Refusal}
use Rattle.runfile.specs.declared.Contents.{Contents}
use Rattle.runfile.specs.Write.{disagree, writer_body_rows}
use Rattle.runfile.proofs.Laws.{agreed}
use Rattle.runfile.proofs.Rows.{stops_append, stops_after, passes_append}
use Rattle.runfile.proofs.File.{length_file}
use Rattle.runfile.proofs.Contents.judge.Goals as goal

pub returns-in_err-check_head-clause-tested : goal.returns-in_err-check_head-clause-tested
returns-in_err-check_head-clause-tested c =
    let s = c.args.self.now in
    let p = err_from_is_err_and c.from_residual.result c.from_residual.ensures.1 in
    rw (p.1, p.2) (stops_append (threads_row s.threads ∷ keys_row s.keys ∷ []) _ c.in_err-check_head.ensures)

pub returns-then-is_disagreeing-clause-tested : goal.returns-then-is_disagreeing-clause-tested
returns-then-is_disagreeing-clause-tested c =
    let s = c.args.self.now in
    rw c.at.ensures
    (stops_after (threads_row s.threads ∷ keys_row s.keys ∷ []) c.in_ok-check_head.ensures (here (sym c.is_disagreeing.ensures ∙ c.if-is_disagreeing.true)))

pub returns-in_err-check_lengths-clause-tested : goal.returns-in_err-check_lengths-clause-tested
returns-in_err-check_lengths-clause-tested c =
    let s = c.args.self.now in
    let p = err_from_is_err_and c.from_residual-in_err-check_lengths.result c.from_residual-in_err-check_lengths.ensures.1 in
    rw (p.1, p.2)
    (stops_after (threads_row s.threads ∷ keys_row s.keys ∷ []) c.in_ok-check_head.ensures
    (later (sym c.is_disagreeing.ensures ∙ c.if-is_disagreeing.false)
    (stops_append (operations_row (length s.operations.now) ∷ steps_row (length s.schedule.now) ∷ []) _ c.in_err-check_lengths.ensures)))

-- the bodies' rows stop where the rows before them let pass
at_bodies : (s : Contents) (room : ℕ) {r : Refusal} {p : ℕ} → Passes (threads_row s.threads ∷ keys_row s.keys ∷ [])
    → disagree s.threads s.counts.now (length s.operations.now) ≡ false
    → Passes (operations_row (length s.operations.now) ∷ steps_row (length s.schedule.now) ∷ [])
    → Stops (writer_body_rows s.threads s.keys s.counts.now s.operations.now s.schedule.now room) r p
    → Stops (rows_against s room) r p
at_bodies s room head lists lengths stops = later head.0 (later head.1.0 (later lists (later lengths.0 (later lengths.1.0 stops))))

pub returns-in_err-check_operations-clause-tested : goal.returns-in_err-check_operations-clause-tested
returns-in_err-check_operations-clause-tested c =
    let s = c.args.self.now in
    let p = err_from_is_err_and c.from_residual-in_err-check_operations.result c.from_residual-in_err-check_operations.ensures.1 in
    rw (p.1, p.2)
    (at_bodies s c.args.room c.in_ok-check_head.ensures (sym c.is_disagreeing.ensures ∙ c.if-is_disagreeing.false) c.in_ok-check_lengths.ensures
    (stops_append (operation_rows s.keys s.operations.now 0 (length s.operations.now)) _ c.in_err-check_operations.ensures))

pub returns-in_err-check_steps-clause-tested : goal.returns-in_err-check_steps-clause-tested
returns-in_err-check_steps-clause-tested c =
    let s = c.args.self.now in
    let p = err_from_is_err_and c.from_residual-in_err-check_steps.result c.from_residual-in_err-check_steps.ensures.1 in
    rw (p.1, p.2)
    (at_bodies s c.args.room c.in_ok-check_head.ensures (sym c.is_disagreeing.ensures ∙ c.if-is_disagreeing.false) c.in_ok-check_lengths.ensures
    (stops_after (operation_rows s.keys s.operations.now 0 (length s.operations.now)) c.in_ok-check_operations.ensures
    (stops_append (step_row s.threads s.schedule.now 0 (length s.schedule.now) ∷ []) _ c.in_err-check_steps.ensures)))

pub returns-then-room-length-clause-tested : goal.returns-then-room-length-clause-tested
returns-then-room-length-clause-tested c =
    let s = c.args.self.now in
    let lists = sym c.is_disagreeing.ensures ∙ c.if-is_disagreeing.false in
    let agree = agreed s.threads s.counts.now (length s.operations.now) lists in
    let long = length_file s.threads s.keys s.counts.now s.operations.now s.schedule.now agree.0 in
    rw c.at-then-room-length.ensures
    (at_bodies s c.args.room c.in_ok-check_head.ensures lists c.in_ok-check_lengths.ensures
    (stops_after (operation_rows s.keys s.operations.now 0 (length s.operations.now)) c.in_ok-check_operations.ensures
    (later c.in_ok-check_steps.ensures.0 (here (lt-ltb c.args.room (length (file_made s)) (omega arith))))))

pub returns-clause-tested : goal.returns-clause-tested
returns-clause-tested c =
    let s = c.args.self.now in
    let head = c.in_ok-check_head.ensures in
    let lists = sym c.is_disagreeing.ensures ∙ c.if-is_disagreeing.false in
    let lengths = c.in_ok-check_lengths.ensures in
    let agree = agreed s.threads s.counts.now (length s.operations.now) lists in
    let long = length_file s.threads s.keys s.counts.now s.operations.now s.schedule.now agree.0 in
    let room = le-ltb c.args.room (length (file_made s)) (omega arith) in
    let bodies = passes_append (operation_rows s.keys s.operations.now 0 (length s.operations.now))
    (step_row s.threads s.schedule.now 0 (length s.schedule.now) ∷ room_row (ltb c.args.room (length (file_made s))) ∷ []) c.in_ok-check_operations.ensures (c.in_ok-check_steps.ensures.0, (room, tt)) in
    (head.0, (head.1.0, (lists, (lengths.0, (lengths.1.0, bodies)))))

pub returns-clause-value : goal.returns-clause-value
returns-clause-value c =
    let s = c.args.self.now in
    let lists = agreed s.threads s.counts.now (length s.operations.now) (sym c.is_disagreeing.ensures ∙ c.if-is_disagreeing.false) in
    let long = length_file s.threads s.keys s.counts.now s.operations.now s.schedule.now lists.0 in
    omega arith
