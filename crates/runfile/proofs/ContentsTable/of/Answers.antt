use Rattle.std.proofs.Common.{◌≡◌, ◌+◌, ◌-◌, ◌*◌, ◌/◌, [], ◌∷◌, length, drop, ap, ◌∙◌, arith, length-drop}
use Rattle.std.proofs.Math.Seq.{take_all}
use Rattle.std.proofs.lemmas.Result.{err_from_is_err_and}
use borrow.Author.Tests.{lt-ltb, le-ltb}
use Rattle.figures.specs.Limits.{most_threads}
use Rattle.runfile.specs.Rows.{here, later}
use Rattle.runfile.specs.Layout.{body_at}
use Rattle.runfile.specs.Shared.{threads_row, keys_row}
use Rattle.runfile.specs.Read.{threads_in, keys_in}
use Rattle.runfile.proofs.Laws.{inside}
use Rattle.runfile.proofs.Rows.{stops_append, stops_after}
use Rattle.runfile.proofs.Entries.{chunks_taken}
use Rattle.runfile.proofs.ContentsTable.of.Goals as goal

pub returns-in_default-clause-tested : goal.returns-in_default-clause-tested
returns-in_default-clause-tested c = rw c.at.ensures (here (lt-ltb (length c.args.file.now) 2 (omega arith)))

pub returns-in_err-check_head-clause-tested : goal.returns-in_err-check_head-clause-tested
returns-in_err-check_head-clause-tested c =
    let f = c.args.file.now in
    let p = err_from_is_err_and c.from_residual.result c.from_residual.ensures.1 in
    rw (p.1, p.2)
    (later (le-ltb (length f) 2 (omega arith))
    (stops_append (threads_row (threads_in f) ∷ keys_row (keys_in f) ∷ []) _ c.in_err-check_head.ensures))

pub returns-in_default-get-clause-tested : goal.returns-in_default-get-clause-tested
returns-in_default-get-clause-tested c =
    let f = c.args.file.now in
    let short = take_all (length f - 2) (drop 2 f) (omega (arith, length-drop 2 f)) in
    rw c.at-in_default-get.ensures
    (later (le-ltb (length f) 2 (omega arith))
    (stops_after (threads_row (threads_in f) ∷ keys_row (keys_in f) ∷ []) c.in_ok-check_head.ensures
    (here (lt-ltb (length f) (body_at (threads_in f)) (omega (arith, c.in_default-get.ensures.lookup.0, ap length short, length-drop 2 f, c.from.ensures))))))

pub invariant_of-result : goal.invariant_of-result
invariant_of-result c =
    let f = c.args.file.now in
    let n = threads_in f + 1 in
    let whole = take_all (length f - 2) (drop 2 f) (omega (arith, length-drop 2 f)) in
    let got = c.in-Some.ensures.lookup.0 in
    let all : 4 * (c.from.result + 1) - 0 ≡ 4 * n = omega (arith, c.from.ensures) in
    let table = rw (all, whole) at got.2 in
    let count : length c.in-Some.table.now / 4 ≡ n = omega (arith, got, c.from.ensures) in
    record {
      few = (inside (threads_in f) most_threads c.in_ok-check_head.ensures.0).1;
      whole = omega (arith, got, ap length whole, length-drop 2 f, c.from.ensures);
      as_many = c.as_chunks.ensures.front_len ∙ count;
      entries_of_file = c.as_chunks.ensures.front ∙ rw (count, table) (chunks_taken 4 n (drop 2 f));
    }
