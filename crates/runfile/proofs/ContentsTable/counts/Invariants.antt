use Rattle.std.proofs.Common.{length, replicate, ◌++◌, ◌≡◌, ◌-◌}
use Rattle.std.proofs.lemmas.List.Edits.{sets}
use Rattle.figures.specs.Limits.{most_threads}
use Rattle.runfile.specs.Rows.{list_from}
use Rattle.runfile.specs.Layout.{count_in}
use Rattle.runfile.specs.Read.{threads_in, counts_in}
use Rattle.runfile.proofs.ContentsTable.counts.Given as goal

-- the counts left, stored from here on, give what all of them give
abbrev pub invariant-loop-i : goal.invariant-loop-i
invariant-loop-i l = record {
  long : length l.counts ≡ most_threads;
  same : sets l.counts l.i (list_from (count_in l.self.file.now) (threads_in l.self.file.now - l.i) l.i)
      ≡ counts_in l.self.file.now ++ replicate (most_threads - threads_in l.self.file.now) 0;
}
