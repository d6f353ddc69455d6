use Rattle.std.proofs.Common.{arith, refl}
use Rattle.runfile.specs.Rows.{sum_to}
use Rattle.runfile.specs.Layout.{count_of}
use Rattle.runfile.proofs.Answers.{accepted_number, accepted_operations}
use Rattle.runfile.proofs.Laws.{sum_on}
use Rattle.play.proofs.Accepted.{operations_length}
use Rattle.listing.proofs.Handed.{thread_ends}
use Rattle.listing.proofs.print_operations.Goals as goal

pub loop-thread-init : goal.loop-thread-init
unfolding sum_to
loop-thread-init g c = refl

pub overflow_add-end : goal.overflow_add-end
overflow_add-end g c =
    let ends = thread_ends c.args.file.now c.args.layout.now c.requires.0 c.loop-thread.thread (omega arith) in
    record { fits = omega (arith, ends, c.from.ensures, c.loop-thread.invariant) }

pub bounds-operations-o : goal.bounds-operations-o
bounds-operations-o g c =
    let f = c.args.file.now in
    let l = c.args.layout.now in
    let ends = thread_ends f l c.requires.0 c.loop-thread.thread (omega arith) in
    let all = operations_length f (accepted_number f l c.requires.0) in
    rw c.operations_of-operations.ensures
    (omega (arith, ends, c.from.ensures, c.loop-thread.invariant, all, accepted_operations f l c.requires.0))

pub offset_bounds-results-o : goal.offset_bounds-results-o
offset_bounds-results-o g c =
    let ends = thread_ends c.args.file.now c.args.layout.now c.requires.0 c.loop-thread.thread (omega arith) in
    record { fits = omega (arith, ends, c.from.ensures, c.loop-thread.invariant) }

pub bounds-results-o : goal.bounds-results-o
bounds-results-o g c =
    let ends = thread_ends c.args.file.now c.args.layout.now c.requires.0 c.loop-thread.thread (omega arith) in
    omega (arith, ends, c.from.ensures, c.loop-thread.invariant, c.as_chunks.ensures.front_len, c.requires.1)

pub loop-thread-preserved : goal.loop-thread-preserved
loop-thread-preserved g c =
    omega (arith, c.from.ensures, c.loop-thread.invariant, sum_on (count_of c.args.layout.now.counts) c.loop-thread.thread)
