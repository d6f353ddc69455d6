-- A run over a lent table hands back what it must, from what each of its parts tells: the opening, the run, and what is handed back.
use Prim.Native.Nat.{ℕ, zero, suc, ◌+◌, ◌-◌, ◌<◌}
use mathlib.Core.Path.{◌≡◌, refl, sym, ap, ◌∙◌}
use mathlib.Core.Bool.{Bool, true, false, cond}
use mathlib.Core.List.{List}
use native.Mathlib.Omega.{arith}
use lib.ListN.{length, take, drop, set}
use lib.Seq.{sets}
use lib.Dec.{eqb}
use borrow.Author.Tests.{ltb-false, eq-eqb, ne_eqb}
use Rattle.figures.specs.declared.Snapshot.{Snapshot}
use Rattle.figures.specs.declared.Machine.{Machine}
use Rattle.figures.specs.Start.{start_of}
use Rattle.figures.specs.Figure4.{fresh_snapshot}
use Rattle.figures.specs.Step.{run_of}
use Rattle.play.specs.Meets.{Meets}
use Rattle.machine.specs.declared.Rest.{Rest}
use Rattle.machine.specs.Parts.{whole_of, rest_of}
use Rattle.runfile.specs.declared.Layout.{Layout}
use Rattle.runfile.specs.Read.{read_of}
use Rattle.runfile.proofs.Answers.{accepted_operations}
use Rattle.runfile.specs.Table.{Decides, Unplayable, running_order}
use Rattle.play.proofs.Table.{tells_decides}
use Rattle.play.specs.Run.{operations_of, schedule_of, machine_of, number_of, told_of, too_small}
use Rattle.play.proofs.Accepted.{within, demand_held}
use Rattle.play.proofs.Decided.{AsFile, hands_file}
use Rattle.history.proofs.Split.{or_false}
use Rattle.lent.specs.Table.{with_table, sizes_of}
use Rattle.lent.specs.Runs.{lent_small, lent_number, lent_told, records_of, Opens, ran_over}
use Rattle.lent.proofs.Agree.{lent_run}
use Rattle.lent.proofs.Openings.{start_is, schedule_part}

-- ---- The number decides.

number_none : (n : ℕ) (s : Bool) → cond (eqb n 0) (cond s 11 0) n ≡ 0 → (n ≡ 0) × (s ≡ false)
number_none zero true e = absurd (omega (arith, e))
number_none zero false e = (refl, refl)
number_none (suc n) s e = let k = ne_eqb (suc n) 0 (λ z. omega (arith, z)) in absurd (omega (arith, rw k at e))

module _ (f : List ℕ) (results log table : ℕ) where
  pub record Accepted : Type 0 where
    pub read : (read_of f).number ≡ 0
    pub room : too_small f results log ≡ false
    pub records : sizes_of (operations_of f) < table

  pub accepted_by : lent_number f results log table ≡ 0 → Accepted
  accepted_by e =
      let a = number_none (read_of f).number (lent_small f results log table) e in
      let b = or_false (too_small f results log) _ a.1 in
      record { read = a.0; room = b.0; records = omega (arith, ltb-false table (sizes_of (operations_of f) + 1) b.1) }

  -- a run that the table does not refuse is as `run` tells it
  pub same_number : lent_number f results log table ≡ 0 → number_of f results log ≡ 0
  same_number e = let a = accepted_by e in rw (eq-eqb (read_of f).number 0 a.read, a.room)

  pub same_told : lent_number f results log table ≡ 0 → lent_told f results log table ≡ told_of f results log
  same_told e =
      let a = accepted_by e in
      let n = number_none (read_of f).number (lent_small f results log table) e in
      rw (eq-eqb (read_of f).number 0 a.read, n.1, a.room)

-- what a run over a lent table tells is the first row, in the order of `running_order`, that holds
pub lent_decides : (f : List ℕ) (results log table : ℕ)
    → Decides (Unplayable f (lent_small f results log table)) running_order
    (lent_told f results log table).number (lent_told f results log table).place
lent_decides f results log table = tells_decides f (lent_small f results log table) (lent_told f results log table) refl

-- ---- What is left behind, and what is handed back.

-- the machine of an accepted file, over the announced records and the others as lent
module _ (f : List ℕ) (ys : List Snapshot) (read : (read_of f).number ≡ 0) (room : sizes_of (operations_of f) < length ys) where
  abbrev start : Machine
  start = start_of (read_of f).threads (read_of f).keys (read_of f).counts (operations_of f)

  starts : ran_over (rest_of start) ys (schedule_of f) ≡ run_of (with_table (set ys 0 (fresh_snapshot false)) start) (schedule_of f)
  unfolding start_of
  starts = refl

  plays : ran_over (rest_of start) ys (schedule_of f) ≡ with_table (sets ys 0 (records_of f)) (machine_of f)
  unfolding machine_of
  plays = starts ∙ lent_run (read_of f).threads (read_of f).keys (read_of f).counts (operations_of f) ys room (schedule_of f) (within f read)

-- a file that is opened, the rest of its machine before the first step, and what `run_over` says of the rest that it leaves
module _ (f : List ℕ) (results log : ℕ) (ys : List Snapshot) {l : Layout} (h : Opens f results log (length ys) l) {o m : Rest}
    (first : o ≡ rest_of (start_of l.threads l.keys l.counts (take (l.schedule_at - l.operations_at) (drop l.operations_at f))))
    (rest : m ≡ rest_of (ran_over o ys (take (length f - l.schedule_at) (drop l.schedule_at f)))) where
  pub accepts_it : Accepted f results log (length ys)
  accepts_it = accepted_by f results log (length ys) h.accepted

  pub ran_as : ran_over o ys (take (length f - l.schedule_at) (drop l.schedule_at f)) ≡ with_table (sets ys 0 (records_of f)) (machine_of f)
  ran_as = rw (first, start_is f l h.read, schedule_part f l h.read) (plays f ys accepts_it.read accepts_it.records)

  ends : whole_of m (machine_of f).calculator.counters (machine_of f).calculator.snapshots ≡ machine_of f
  ends =
      ap (λ (r : Rest). whole_of r (machine_of f).calculator.counters (machine_of f).calculator.snapshots)
      (rest ∙ ap rest_of ran_as)

  pub handed : AsFile f results log accepts_it.read m l.operations
  handed = hands_file f results log accepts_it.read ends (sym (accepted_operations f l h.read))

  pub is_number : number_of f results log ≡ 0
  is_number = same_number f results log (length ys) h.accepted

  pub met : Meets f
  met = demand_held f accepts_it.read
