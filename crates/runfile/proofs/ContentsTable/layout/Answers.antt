use Rattle.std.proofs.Common.{◌+◌, [], ◌∷◌, length, arith, ap, not}
use Rattle.std.proofs.lemmas.Result.{err_from_is_err_and}
use borrow.Author.Tests.{ne_eqb, eq-eqb}
use Rattle.runfile.specs.Rows.{here, later}
use Rattle.runfile.specs.Shared.{operations_row, steps_row}
use Rattle.runfile.specs.Read.{operations_in, steps_in, schedule_in}
use Rattle.runfile.specs.Answers.{offset_row}
use Rattle.runfile.proofs.Rows.{stops_append, stops_after}
use Rattle.runfile.proofs.Entries.{last_entry}
use Rattle.runfile.proofs.ContentsTable.layout.Goals as goal

pub returns-in_err-check_offsets-clause-tested : goal.returns-in_err-check_offsets-clause-tested
returns-in_err-check_offsets-clause-tested c =
    let p = err_from_is_err_and c.from_residual.result c.from_residual.ensures.1 in
    rw (p.1, p.2) (stops_append (offset_row c.args.self.now.file.now ∷ []) _ c.in_err-check_offsets.ensures)

pub bounds-self-from : goal.bounds-self-from
bounds-self-from c =
    let t = c.args.self.now in
    omega (arith, t.as_many, c.from.ensures)

pub overflow_sub-operations : goal.overflow_sub-operations
overflow_sub-operations c =
    let t = c.args.self.now in
    let last = last_entry t.file.now t.entries.now t.as_many t.entries_of_file c.from.ensures c.from-schedule.ensures c.in_ok-check_offsets.ensures.0 in
    omega (arith, c.from-schedule_at.ensures)

pub returns-in_err-check_lengths-clause-tested : goal.returns-in_err-check_lengths-clause-tested
returns-in_err-check_lengths-clause-tested c =
    let t = c.args.self.now in
    let f = t.file.now in
    let last = last_entry f t.entries.now t.as_many t.entries_of_file c.from.ensures c.from-schedule.ensures c.in_ok-check_offsets.ensures.0 in
    let stops = rw (c.from-schedule_at.ensures, last.operations, c.from-steps.ensures, last.steps) at c.in_err-check_lengths.ensures in
    let p = err_from_is_err_and c.from_residual-in_err-check_lengths.result c.from_residual-in_err-check_lengths.ensures.1 in
    rw (p.1, p.2)
    (later c.in_ok-check_offsets.ensures.0 (stops_append (operations_row (operations_in f) ∷ steps_row (steps_in f) ∷ []) _ stops))

pub returns-then-self-schedule_at-clause-tested : goal.returns-then-self-schedule_at-clause-tested
returns-then-self-schedule_at-clause-tested c =
    let t = c.args.self.now in
    let f = t.file.now in
    let last = last_entry f t.entries.now t.as_many t.entries_of_file c.from.ensures c.from-schedule.ensures c.in_ok-check_offsets.ensures.0 in
    let passes = rw (c.from-schedule_at.ensures, last.operations, c.from-steps.ensures, last.steps) at c.in_ok-check_lengths.ensures in
    let not_end = ne_eqb (length f) (schedule_in f + steps_in f) (λ e. omega (arith, c.from-schedule_at.ensures, c.from-steps.ensures)) in
    rw c.at.ensures
    (later c.in_ok-check_offsets.ensures.0 (stops_after (operations_row (operations_in f) ∷ steps_row (steps_in f) ∷ []) passes (here (ap not not_end))))

pub returns-clause-tested : goal.returns-clause-tested
returns-clause-tested c =
    let t = c.args.self.now in
    let f = t.file.now in
    let last = last_entry f t.entries.now t.as_many t.entries_of_file c.from.ensures c.from-schedule.ensures c.in_ok-check_offsets.ensures.0 in
    let passes = rw (c.from-schedule_at.ensures, last.operations, c.from-steps.ensures, last.steps) at c.in_ok-check_lengths.ensures in
    let end = eq-eqb (length f) (schedule_in f + steps_in f) (omega (arith, c.if-self-schedule_at.false, c.from-schedule_at.ensures, c.from-steps.ensures)) in
    (c.in_ok-check_offsets.ensures.0, (passes.0, (passes.1.0, (rw end, tt))))

pub returns-clause-value : goal.returns-clause-value
returns-clause-value c =
    let t = c.args.self.now in
    let last = last_entry t.file.now t.entries.now t.as_many t.entries_of_file c.from.ensures c.from-schedule.ensures c.in_ok-check_offsets.ensures.0 in
    rw (c.counts-counts.ensures, c.from-schedule_at.ensures, c.from-steps.ensures, last.operations, last.body, last.schedule, last.steps)
