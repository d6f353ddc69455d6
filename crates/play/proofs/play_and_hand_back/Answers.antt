use Rattle.std.proofs.Common.{◌≡◌, Ok, ap, sym, ◌∙◌, length}
use Rattle.runfile.specs.Read.{read_of}
use Rattle.runfile.specs.Answers.{reading_of}
use Rattle.runfile.proofs.Answers.{accepted_number, accepted_operations}
use Rattle.machine.specs.declared.Rest.{Rest}
use Rattle.machine.specs.Parts.{whole_of}
use Rattle.play.specs.Run.{machine_of}
use Rattle.play.proofs.Answers.{on_ok}
use Rattle.play.proofs.Accepted.{demand_held}
use Rattle.play.proofs.Decided.{hands_file}
use Rattle.play.proofs.play_and_hand_back.Goals as goal

pub returns : goal.returns
returns c =
    let f = c.args.file.now in
    let layout = c.args.layout in
    let e : reading_of (Ok layout) ≡ read_of f = c.requires in
    let m = c.machine_after in
    let is : whole_of c.rest_of.result m.result.calculator.counters m.result.calculator.snapshots ≡ machine_of f =
    ap (λ (x : Rest). whole_of x m.result.calculator.counters m.result.calculator.snapshots) c.rest_of.ensures ∙ m.ensures in
    let h = c.hand_back.ensures in
    let k = hands_file f (length c.args.results.now) (length c.args.log.now) (accepted_number f layout e) is (sym (accepted_operations f layout e)) in
    record {
      value = h.value ∙ k.told;
      results_after = h.results_after ∙ k.in_results c.args.results.now;
      log_after = h.log_after ∙ k.in_log c.args.log.now;
      meets = on_ok c.hand_back.result (demand_held f (accepted_number f layout e));
    }
