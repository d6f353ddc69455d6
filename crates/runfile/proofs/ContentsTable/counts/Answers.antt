use Rattle.std.proofs.Common.{◌-◌, ◌<◌, ◌≤◌, [], length, refl, arith, ◌∙◌}
use Rattle.std.proofs.Math.ListN.{length-set}
use Rattle.std.proofs.Math.Seq.{get_or-take, length-take-le}
use native.Mathlib.Nat.{sub-zero}
use Rattle.figures.specs.Limits.{most_threads}
use Rattle.runfile.specs.Rows.{list_from}
use Rattle.runfile.specs.Layout.{count_in}
use Rattle.runfile.specs.Read.{threads_in}
use Rattle.runfile.proofs.Laws.{list_end, length_list, padded, store_on}
use Rattle.runfile.proofs.Entries.{count_there}
use Rattle.runfile.proofs.ContentsTable.counts.Goals as goal

pub loop-i-init : goal.loop-i-init
loop-i-init c =
    let t = c.args.self.now in
    let vs = list_from (count_in t.file.now) (threads_in t.file.now) 0 in
    record {
      long = refl;
      same = rw sub-zero (rw length_list at (padded vs most_threads (rw length_list t.few)));
    }

pub bounds-counts-i : goal.bounds-counts-i
bounds-counts-i c =
    let t = c.args.self.now in
    omega (arith, t.few, length-take-le (length t.entries.now - 1) t.entries.now (omega arith))

pub loop-i-preserved : goal.loop-i-preserved
loop-i-preserved c =
    let t = c.args.self.now in
    let l = c.loop-i in
    let taken = length-take-le (length t.entries.now - 1) t.entries.now (omega arith) in
    let h : l.i < threads_in t.file.now = omega arith in
    let item = get_or-take (length t.entries.now - 1) t.entries.now l.i [] (omega arith) in
    let count = rw item at c.from.ensures.1 in
    let next = store_on (count_in t.file.now) l.counts h (count ∙ count_there t.file.now t.entries.now t.entries_of_file l.i (omega arith)) in
    record { long = simp length-set l.invariant.long; same = next ∙ l.invariant.same }

pub returns : goal.returns
returns c =
    let t = c.args.self.now in
    let taken = length-take-le (length t.entries.now - 1) t.entries.now (omega arith) in
    let end : threads_in t.file.now ≤ c.loop-i.i = omega arith in
    rw (list_end (count_in t.file.now) end) at c.loop-i.invariant.same
