-- What a file that reading accepts holds of each thread, and what is handed back of it where there is room for every run: what the run did, of
-- as many entries as there are operations at most.
use Prim.Native.Nat.{ℕ, ◌+◌, ◌*◌, ◌≤◌, ◌<◌}
use mathlib.Core.Path.{◌≡◌, ap, ◌∙◌}
use mathlib.Core.Bool.{false}
use mathlib.Core.List.{List}
use native.Mathlib.Omega.{arith}
use lib.ListN.{length, length-map}
use borrow.Author.Tests.{le-ltb, eq-eqb}
use Rattle.std.specs.Prelude.{Ok, Err}
use Rattle.history.proofs.Order.{log_fits}
use Rattle.figures.specs.Limits.{most_operations}
use Rattle.figures.specs.Places.{listed, order_of, log_of}
use Rattle.places.specs.Written.{per_entry}
use Rattle.runfile.specs.declared.Refused.{Refused}
use Rattle.runfile.specs.declared.Layout.{Layout}
use Rattle.runfile.specs.Rows.{sum_to}
use Rattle.runfile.specs.Layout.{count_of as count_in}
use Rattle.runfile.specs.Read.{read_of}
use Rattle.runfile.specs.Answers.{reading_of}
use Rattle.runfile.proofs.Rows.{numbered}
use Rattle.runfile.proofs.Laws.{sum_on, sum_grows}
use Rattle.runfile.proofs.Answers.{layout_accepts}
use Rattle.runfile.proofs.Accepts.{accepts}
use Rattle.play.specs.declared.Played.{Played}
use Rattle.play.specs.declared.Told.{Told}
use Rattle.play.specs.Run.{machine_of, count_of, per_operation, too_small, ran, told_of}
use Rattle.play.specs.Answers.{told_by}

-- the operations of a thread and of those before it are among the file's, which are few
pub thread_ends : (f : List ℕ) (l : Layout) → reading_of (Ok l) ≡ read_of f → (t : ℕ) → t < length l.counts
    → (sum_to (count_in l.counts) t + count_in l.counts t ≤ l.operations) × (l.operations ≤ most_operations)
thread_ends f l e t h =
    let a = layout_accepts f l e in
    let n = count_in l.counts in
    (omega (arith, sum_on n t, sum_grows n (t + 1) 8 (omega (arith, a.counts_eight)), a.counts_sum 8 a.threads_high), a.operations_few)

module _ (f : List ℕ) (ok : (read_of f).number ≡ 0) where
  log_few : length (log_of (machine_of f) (count_of f)) ≤ most_operations
  log_few =
      rw length-map
      (omega (arith, log_fits (count_of f) (listed (machine_of f)) (order_of (machine_of f)) (count_of f) 0, (accepts f ok).operations_few))

  pub entries_few : (p : Played) → told_by (Ok p) ≡ ran f → p.entries ≤ most_operations
  entries_few p e = let k = ap (λ (t : Told). t.entries) e in omega (arith, k, log_few)

  module _ (results log : ℕ) (room : per_operation * most_operations ≤ results) (also : per_entry * most_operations ≤ log) where
    fits : too_small f results log ≡ false
    fits =
        let few = (accepts f ok).operations_few in
        rw (le-ltb results (per_operation * count_of f) (omega (arith, few, room)), le-ltb log (per_entry * count_of f) (omega (arith, few, also)))

    pub told_ran : told_of f results log ≡ ran f
    told_ran = rw (eq-eqb (read_of f).number 0 ok, fits)

    -- so that it is not refused
    pub not_refused : (e : Refused) → told_by (Err e) ≡ told_of f results log → ⊥
    not_refused e h = omega (arith, numbered e.why, ap (λ (t : Told). t.number) (h ∙ told_ran))
