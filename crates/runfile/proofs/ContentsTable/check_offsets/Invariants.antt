use Rattle.std.proofs.Common.{ℕ, true, ◌≡◌, ◌+◌, ◌*◌, ◌<◌, ◌≤◌}
use Rattle.figures.specs.Limits.{most_threads}
use Rattle.runfile.specs.Rows.{sum_to}
use Rattle.runfile.specs.Layout.{body_at, count_in}
use Rattle.runfile.specs.Read.{threads_in, offset_right}
use Rattle.runfile.proofs.ContentsTable.check_offsets.Given as goal

-- the entries so far are right, and their bodies end here
abbrev pub invariant-loop-i : goal.invariant-loop-i
invariant-loop-i l = record {
  small : l.end ≤ body_at most_threads + 65535 * l.i;
  at : l.end ≡ body_at (threads_in l.self.file.now) + sum_to (count_in l.self.file.now) l.i;
  right : (j : ℕ) → j < l.i → offset_right l.self.file.now j ≡ true;
}
