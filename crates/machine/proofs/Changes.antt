-- The whole machine after an access, by what its deed does.
use Prim.Native.Nat.{ℕ}
use mathlib.Core.List.{List}
use lib.ListN.{get_or, set}
use Rattle.terms.specs.declared.OpId.{OpId}
use Rattle.figures.specs.declared.Counts.{Counts}
use Rattle.figures.specs.declared.Calculator.{Calculator}
use Rattle.figures.specs.declared.UpdateDeed.{UpdateDeed}
use Rattle.figures.specs.declared.UpdateDeed.TheVariants.{Reads, Raises, Forwards}
use Rattle.figures.specs.declared.SizeDeed.{SizeDeed}
use Rattle.figures.specs.declared.SizeDeed.TheVariants.{Looks, Announces, Collects, Lowers, Keeps, Fixes, Shares}
use Rattle.figures.specs.declared.Update.{Update}
use Rattle.figures.specs.declared.Deed.{Deed}
use Rattle.figures.specs.declared.Deed.TheVariants.{Rests, Finds, Links, Marks, Unlinks, Updates, Sizes}
use Rattle.figures.specs.declared.Next.{Next}
use Rattle.figures.specs.declared.Machine.{Machine}
use Rattle.figures.specs.Figure4.{raised, written, announced, lowered, fixed, window_of}
use Rattle.figures.specs.Figure3.{cell_of}
use Rattle.figures.specs.Step.{no_record, no_slot, no_local}
use Rattle.machine.specs.Parts.{recorded_by, stood_by, held_by, raised_by}

-- ---- Of the calculator, by the deed.

abbrev pub updated_by : UpdateDeed → Update → Calculator → Calculator
updated_by Reads u c = c
updated_by Raises u c = raised (cell_of u) u.node.note.1.0 c
updated_by (Forwards n) u c = written n (cell_of u) u.node.note.1.0 c

abbrev pub sized_by : SizeDeed → ℕ → List Counts → Calculator → Calculator
sized_by Looks step seen c = c
sized_by Announces step seen c = announced step c
sized_by (Collects n j v) step seen c = written n j v c
sized_by (Lowers n) step seen c = lowered n step c
sized_by (Keeps j v) step seen c = c
sized_by (Fixes n v) step seen c = fixed n v step seen c
sized_by (Shares n) step seen c = c

abbrev pub calculated_by : Deed → ℕ → List Counts → Calculator → Calculator
calculated_by Rests step seen c = c
calculated_by (Finds f) step seen c = c
calculated_by (Links n) step seen c = c
calculated_by (Marks n d) step seen c = c
calculated_by Unlinks step seen c = c
calculated_by (Updates d u) step seen c = updated_by d u c
calculated_by (Sizes d) step seen c = sized_by d step seen c

-- ---- Together, by the deed: the machine after an access that looked up slot `key`, with these deed and next.

abbrev pub acted_by : Deed → Next → ℕ → ℕ → OpId → ℕ → Machine → Machine
acted_by d x step t o key m =
    let l = get_or m.locals t (no_local) in
    record {
      threads = m.threads;
      keys = m.keys;
      clock = step;
      idle = m.idle;
      calculator = calculated_by d step l.seen m.calculator;
      slots = set m.slots key (record { content = held_by d (get_or m.slots key no_slot).content });
      locals = set m.locals t (stood_by d x l);
      records = raised_by d step (window_of m.calculator) (record { 0 = t }) (set m.records o.0 (recorded_by step d x (get_or m.records o.0 no_record)));
    }
