use Rattle.std.proofs.Common.{arith, ◌≡◌, ◌-◌}
use Rattle.runfile.specs.Read.{read_of}
use Rattle.runfile.proofs.Answers.{layout_accepts, accepted_operations_at, accepted_operations}
use Rattle.play.proofs.Accepted.{laid_out}
use Rattle.listing.proofs.operations_of.Goals as goal

pub slice_bounds-result-count : goal.slice_bounds-result-count
slice_bounds-result-count c = (laid_out c.args.file.now c.args.layout.now c.requires).0

pub slice_bounds-result-start : goal.slice_bounds-result-start
slice_bounds-result-start c = omega (arith, laid_out c.args.file.now c.args.layout.now c.requires)

pub slice_bounds-result-end : goal.slice_bounds-result-end
slice_bounds-result-end c = omega (arith, laid_out c.args.file.now c.args.layout.now c.requires)

pub returns : goal.returns
returns c =
    let f = c.args.file.now in
    let l = c.args.layout.now in
    let a = layout_accepts f l c.requires in
    let n : l.schedule_at - l.operations_at ≡ (read_of f).operations = omega (arith, a.schedule_next, accepted_operations f l c.requires) in
    rw (n, accepted_operations_at f l c.requires)
