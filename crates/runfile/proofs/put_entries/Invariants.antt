use Rattle.std.proofs.Common.{drop, ◌≡◌, ◌+◌}
use Rattle.std.proofs.lemmas.List.Edits.{sets}
use Rattle.runfile.specs.Rows.{sum_to}
use Rattle.runfile.specs.Layout.{entry_at, count_of, entries}
use Rattle.runfile.proofs.put_entries.Given as goal

-- the entries of the counts left, stored from here on, give what all of them give
abbrev pub invariant-loop-i : goal.invariant-loop-i
invariant-loop-i l = record {
  at : l.offset ≡ l.body + sum_to (count_of l.counts) l.i;
  same : sets l.out (entry_at l.i) (entries l.offset (drop l.i l.counts)) ≡ sets l.fn.out 2 (entries l.body l.counts);
}
