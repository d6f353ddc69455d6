use Rattle.std.proofs.Common.{arith, sym, ◌∙◌, ap, length}
use Rattle.figures.specs.declared.Machine.{Machine}
use Rattle.machine.specs.Parts.{rest_of}
use Rattle.play.specs.Run.{results_of, entries_of}
use Rattle.play.proofs.Answers.{on_ok}
use Rattle.play.proofs.Decided.{is_written}
use Rattle.lent.specs.Runs.{records_of}
use Rattle.lent.proofs.Openings.{lies}
use Rattle.lent.proofs.LentRun.{same_told, ran_as, handed, is_number, met}
use Rattle.lent.proofs.play_and_hand_back.Goals as goal

pub slice_bounds-operations-count : goal.slice_bounds-operations-count
slice_bounds-operations-count c = let a = lies c.args.file.now c.args.layout c.requires.read in omega (arith, a.schedule_next)

pub slice_bounds-operations-start : goal.slice_bounds-operations-start
slice_bounds-operations-start c = let a = lies c.args.file.now c.args.layout c.requires.read in omega (arith, a.schedule_next)

pub slice_bounds-operations-end : goal.slice_bounds-operations-end
slice_bounds-operations-end c = let a = lies c.args.file.now c.args.layout c.requires.read in omega (arith, a.file_ends)

pub slice_bounds-run_over-count : goal.slice_bounds-run_over-count
slice_bounds-run_over-count c = let a = lies c.args.file.now c.args.layout c.requires.read in omega (arith, a.file_ends)

pub slice_bounds-run_over-start : goal.slice_bounds-run_over-start
slice_bounds-run_over-start c = let a = lies c.args.file.now c.args.layout c.requires.read in omega (arith, a.file_ends)

pub returns : goal.returns
returns c =
    let f = c.args.file.now in
    let rs = c.args.results.now in
    let ls = c.args.log.now in
    let ys = c.args.table.now in
    let o = c.requires in
    let first = c.rest_of-rest.ensures ∙ ap rest_of c.start-start.ensures in
    let w = c.hand_back.ensures in
    let h = handed f (length rs) (length ls) ys o first c.run_over.ensures.rest in
    let z = is_number f (length rs) (length ls) ys o first c.run_over.ensures.rest in
    record {
      value = w.value ∙ h.told ∙ sym (same_told f (length rs) (length ls) (length ys) o.accepted);
      results_after = w.results_after ∙ h.in_results rs ∙ sym (is_written rs (results_of f) z) ∙ is_written rs (results_of f) o.accepted;
      log_after = w.log_after ∙ h.in_log ls ∙ sym (is_written ls (entries_of f) z) ∙ is_written ls (entries_of f) o.accepted;
      table_after =
          c.run_over.ensures.table
          ∙ ap (λ (x : Machine). x.calculator.snapshots) (ran_as f (length rs) (length ls) ys o first c.run_over.ensures.rest)
          ∙ is_written ys (records_of f) o.accepted;
      meets = on_ok c.hand_back.result (met f (length rs) (length ls) ys o first c.run_over.ensures.rest);
    }
