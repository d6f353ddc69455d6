use Rattle.std.proofs.Common.{◌+◌, ◌++◌, [], ◌∷◌, arith}
use Rattle.std.proofs.lemmas.Result.{err_from_is_err_and}
use Rattle.runfile.specs.Layout.{body_at}
use Rattle.runfile.specs.Shared.{operation_rows, step_row}
use Rattle.runfile.specs.Read.{threads_in, keys_in, schedule_in, steps_in, head_rows, table_rows, body_rows}
use Rattle.runfile.proofs.Rows.{stops_append, stops_after, passes_append}
use Rattle.runfile.proofs.Entries.{bodies_within}
use Rattle.runfile.proofs.Answers.{passed_reading, stopped_reading}
use Rattle.runfile.proofs.read.Goals as goal

pub returns-in_err-of : goal.returns-in_err-of
returns-in_err-of c =
    let f = c.args.file.now in
    let p = err_from_is_err_and c.from_residual.result c.from_residual.ensures.1 in
    rw (p.1, p.2) (stopped_reading f (stops_append (head_rows f) (table_rows f ++ body_rows f) c.in_err-of.ensures.tested))

pub returns-in_err-layout : goal.returns-in_err-layout
returns-in_err-layout c =
    let f = c.args.file.now in
    let table = rw c.in_ok-of.ensures.same at c.in_err-layout.ensures.tested in
    let p = err_from_is_err_and c.from_residual-in_err-layout.result c.from_residual-in_err-layout.ensures.1 in
    rw (p.1, p.2) (stopped_reading f (stops_after (head_rows f) c.in_ok-of.ensures.tested (stops_append (table_rows f) (body_rows f) table)))

pub check_operations-requires : goal.check_operations-requires
check_operations-requires c =
    let f = c.args.file.now in
    let table = rw c.in_ok-of.ensures.same at c.in_ok-layout.ensures.tested in
    let within = bodies_within f table in
    rw (c.in_ok-layout.ensures.value, c.in_ok-of.ensures.same) (omega arith, omega arith)

pub returns-in_err-check_operations : goal.returns-in_err-check_operations
returns-in_err-check_operations c =
    let f = c.args.file.now in
    let table = rw c.in_ok-of.ensures.same at c.in_ok-layout.ensures.tested in
    let operations = rw (c.in_ok-layout.ensures.value, c.in_ok-of.ensures.same) at c.in_err-check_operations.ensures in
    let p = err_from_is_err_and c.from_residual-in_err-check_operations.result c.from_residual-in_err-check_operations.ensures.1 in
    rw (p.1, p.2)
    (stopped_reading f
    (stops_after (head_rows f) c.in_ok-of.ensures.tested
    (stops_after (table_rows f) table
    (stops_append (operation_rows (keys_in f) f (body_at (threads_in f)) (schedule_in f)) _ operations))))

pub returns-in_err-check_steps : goal.returns-in_err-check_steps
returns-in_err-check_steps c =
    let f = c.args.file.now in
    let table = rw c.in_ok-of.ensures.same at c.in_ok-layout.ensures.tested in
    let operations = rw (c.in_ok-layout.ensures.value, c.in_ok-of.ensures.same) at c.in_ok-check_operations.ensures in
    let step = rw (c.in_ok-layout.ensures.value, c.in_ok-of.ensures.same, (bodies_within f table).1) at c.in_err-check_steps.ensures in
    let p = err_from_is_err_and c.from_residual-in_err-check_steps.result c.from_residual-in_err-check_steps.ensures.1 in
    rw (p.1, p.2)
    (stopped_reading f
    (stops_after (head_rows f) c.in_ok-of.ensures.tested
    (stops_after (table_rows f) table
    (stops_after (operation_rows (keys_in f) f (body_at (threads_in f)) (schedule_in f)) operations step))))

pub returns : goal.returns
returns c =
    let f = c.args.file.now in
    let table = rw c.in_ok-of.ensures.same at c.in_ok-layout.ensures.tested in
    let operations = rw (c.in_ok-layout.ensures.value, c.in_ok-of.ensures.same) at c.in_ok-check_operations.ensures in
    let step = rw (c.in_ok-layout.ensures.value, c.in_ok-of.ensures.same, (bodies_within f table).1) at c.in_ok-check_steps.ensures in
    rw (c.in_ok-layout.ensures.value, c.in_ok-of.ensures.same)
    (passed_reading f
    (passes_append (head_rows f) (table_rows f ++ body_rows f) c.in_ok-of.ensures.tested
    (passes_append (table_rows f) (body_rows f) table
    (passes_append (operation_rows (keys_in f) f (body_at (threads_in f)) (schedule_in f)) (step_row (threads_in f) f (schedule_in f) (schedule_in f + steps_in f) ∷ []) operations step))))
