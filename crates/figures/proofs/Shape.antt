-- The lists of the state have their lengths, in every run.
use Prim.Native.Nat.{ℕ, zero, suc, ◌+◌, ◌<◌}
use mathlib.Core.Path.{◌≡◌, refl, ap, ◌∙◌}
use mathlib.Core.Bool.{true, false}
use mathlib.Core.List.{List, [], ◌∷◌}
use native.Mathlib.Omega.{arith}
use native.Mathlib.Nat.{le_of_suc-le-suc}
use lib.ListN.{length, get_or, length-set, length-replicate, get_or-replicate}
use lib.Seq.{length-sets}
use Rattle.terms.specs.declared.ThreadId.{ThreadId}
use Rattle.terms.specs.declared.OpId.{OpId}
use Rattle.terms.specs.declared.SnapshotId.{SnapshotId}
use Rattle.figures.specs.declared.Cell.{Cell}
use Rattle.figures.specs.declared.Counts.{Counts}
use Rattle.figures.specs.declared.Snapshot.{Snapshot}
use Rattle.figures.specs.declared.Trace.{Trace}
use Rattle.figures.specs.declared.Calculator.{Calculator}
use Rattle.figures.specs.declared.UpdateDeed.{UpdateDeed}
use Rattle.figures.specs.declared.UpdateDeed.TheVariants.{Reads, Raises, Forwards}
use Rattle.figures.specs.declared.SizeDeed.{SizeDeed}
use Rattle.figures.specs.declared.SizeDeed.TheVariants.{Looks, Announces, Collects, Lowers, Keeps, Fixes, Shares}
use Rattle.figures.specs.declared.Content.{Content}
use Rattle.figures.specs.declared.Update.{Update}
use Rattle.figures.specs.declared.Deed.{Deed}
use Rattle.figures.specs.declared.Deed.TheVariants.{Rests, Finds, Links, Marks, Unlinks, Updates, Sizes}
use Rattle.figures.specs.declared.Next.{Next}
use Rattle.figures.specs.declared.Next.TheVariants.{To, Returns}
use Rattle.figures.specs.declared.Local.{Local}
use Rattle.figures.specs.declared.Record.{Record}
use Rattle.figures.specs.declared.Machine.{Machine}
use Rattle.figures.specs.Figure4.{no_snapshot, no_trace, snapshot_at, with_snapshot, with_trace, fresh_snapshot, fresh_trace, new_id, raised, written, announced, lowered, fixed}
use Rattle.figures.specs.Figure3.{cell_of}
use Rattle.figures.specs.Step.{no_local, no_slot, local_at, with_calculator, with_content, with_local, with_record, with_clock, updates, sizes, does, goes_on, ticked, accessed, step_of, run_of, move_of}
use Rattle.figures.specs.Start.{start_of, locals_of, records_of, unbegun}
use Rattle.figures.proofs.Laws.{set_holds, count_length}
use Rattle.figures.proofs.Runs.{step_case, acting, run_keeps}

pub record CalculatorShape (c : Calculator) : Type 0 where
  pub counters : length c.counters ≡ 8
  pub snapshots : length c.snapshots ≡ 65
  pub traces : length c.traces ≡ 65
  pub cells : (n : ℕ) → n < 65 → length (get_or c.snapshots n no_snapshot).cells ≡ 8
  pub seen : (n : ℕ) → n < 65 → length (get_or c.traces n no_trace).seen ≡ 8

pub record Shape (m : Machine) : Type 0 where
  pub calculator : CalculatorShape m.calculator
  pub slots : length m.slots ≡ 16
  pub locals : length m.locals ≡ 8
  pub records : length m.records ≡ 64
  pub seen : (t : ℕ) → t < 8 → length (get_or m.locals t no_local).seen ≡ 8

-- ---- The calculator's writes.

module _ (c : Calculator) (h : CalculatorShape c) where
  shape_snapshot : (n : SnapshotId) (s : Snapshot) → (n.0 < 65 → length s.cells ≡ 8) → CalculatorShape (with_snapshot n s c)
  shape_snapshot n s e =
      record {
        counters = h.counters;
        snapshots = length-set c.snapshots n.0 s ∙ h.snapshots;
        traces = h.traces;
        cells = λ i l. set_holds (λ (x : Snapshot). length x.cells ≡ 8) c.snapshots n.0 i s no_snapshot (λ q. e (omega arith)) (h.cells i l);
        seen = h.seen;
      }

  shape_trace : (n : SnapshotId) (t : Trace) → (n.0 < 65 → length t.seen ≡ 8) → CalculatorShape (with_trace n t c)
  shape_trace n t e =
      record {
        counters = h.counters;
        snapshots = h.snapshots;
        traces = length-set c.traces n.0 t ∙ h.traces;
        cells = h.cells;
        seen = λ i l. set_holds (λ (x : Trace). length x.seen ≡ 8) c.traces n.0 i t no_trace (λ q. e (omega arith)) (h.seen i l);
      }

  shape_raised : (j : Cell) (v : ℕ) → CalculatorShape (raised j v c)
  shape_raised j v =
      record {
        counters = count_length c.counters j v ∙ h.counters;
        snapshots = h.snapshots;
        traces = h.traces;
        cells = h.cells;
        seen = h.seen;
      }

  shape_written : (n : SnapshotId) (j : Cell) (v : ℕ) → CalculatorShape (written n j v c)
  shape_written n j v = shape_snapshot n _ (λ l. count_length (snapshot_at c n).cells j v ∙ h.cells n.0 l)

shape_announced : (step : ℕ) (c : Calculator) → CalculatorShape c → CalculatorShape (announced step c)
shape_announced step c h =
    let n = new_id c.current in
    let k = shape_trace (with_snapshot n (fresh_snapshot true) c) (shape_snapshot c h n (fresh_snapshot true) (λ l. refl)) n (fresh_trace step) (λ l. refl) in
    record { counters = k.counters; snapshots = k.snapshots; traces = k.traces; cells = k.cells; seen = k.seen }

shape_lowered : (n : SnapshotId) (step : ℕ) (c : Calculator) → CalculatorShape c → CalculatorShape (lowered n step c)
shape_lowered n step c h =
    shape_trace _ (shape_snapshot c h n _ (λ l. h.cells n.0 l)) n _ (λ l. h.seen n.0 l)

shape_fixed : (n : SnapshotId) (v step : ℕ) (b : List Counts) (c : Calculator) → length b ≡ 8 → CalculatorShape c → CalculatorShape (fixed n v step b c)
shape_fixed n v step b c e h = shape_trace _ (shape_snapshot c h n _ (λ l. h.cells n.0 l)) n _ (λ l. e)

-- ---- The machine's writes.

module _ (m : Machine) (h : Shape m) where
  pub shape_calculator : (c : Calculator) → CalculatorShape c → Shape (with_calculator c m)
  shape_calculator c k = record { calculator = k; slots = h.slots; locals = h.locals; records = h.records; seen = h.seen }

  pub shape_record : (o : OpId) (r : Record) → Shape (with_record o r m)
  shape_record o r =
      record { calculator = h.calculator; slots = h.slots; locals = h.locals; records = length-set m.records o.0 _ ∙ h.records; seen = h.seen }

  pub shape_content : (k : ℕ) (c : Content) → Shape (with_content k c m)
  shape_content k c =
      record { calculator = h.calculator; slots = length-set m.slots k _ ∙ h.slots; locals = h.locals; records = h.records; seen = h.seen }

  pub shape_clock : (clock idle : ℕ) → Shape (with_clock clock idle m)
  shape_clock clock idle = record { calculator = h.calculator; slots = h.slots; locals = h.locals; records = h.records; seen = h.seen }

  pub shape_local : (t : ThreadId) (l : Local) → (t.0 < 8 → length l.seen ≡ 8) → Shape (with_local t l m)
  shape_local t l e =
      record {
        calculator = h.calculator;
        slots = h.slots;
        locals = length-set m.locals t.0 _ ∙ h.locals;
        records = h.records;
        seen = λ i k. set_holds (λ (x : Local). length x.seen ≡ 8) m.locals t.0 i l no_local (λ q. e (omega arith)) (h.seen i k);
      }

module _ (t : ThreadId) (o : OpId) (l : t.0 < 8) where
  shape_updates : (d : UpdateDeed) (u : Update) (m : Machine) → Shape m → Shape (updates d u t m)
  shape_updates Reads u m h = h
  shape_updates Raises u m h = shape_record _ (shape_calculator m h _ (shape_raised m.calculator h.calculator (cell_of u) u.node.note.1.0)) _ _
  shape_updates (Forwards n) u m h = shape_calculator m h _ (shape_written m.calculator h.calculator n (cell_of u) u.node.note.1.0)

  shape_sizes : (d : SizeDeed) (m : Machine) → Shape m → Shape (sizes d t o m)
  shape_sizes Looks m h = h
  shape_sizes Announces m h = shape_calculator m h _ (shape_announced m.clock m.calculator h.calculator)
  shape_sizes (Collects n j v) m h = shape_calculator m h _ (shape_written m.calculator h.calculator n j v)
  shape_sizes (Lowers n) m h =
      shape_local _ (shape_calculator m h _ (shape_lowered n m.clock m.calculator h.calculator)) t _ (λ l. refl)
  shape_sizes (Keeps j v) m h = shape_local m h t _ (λ l. count_length (local_at m t).seen j v ∙ h.seen t.0 l)
  shape_sizes (Fixes n v) m h =
      shape_record _ (shape_calculator m h _ (shape_fixed n v m.clock (local_at m t).seen m.calculator (h.seen t.0 l) h.calculator)) o _
  shape_sizes (Shares n) m h = shape_record m h o _

  pub shape_does : (d : Deed) (m : Machine) → Shape m → Shape (does d t o m)
  shape_does Rests m h = h
  shape_does (Finds c) m h = shape_record m h o _
  shape_does (Links n) m h = shape_content _ (shape_record m h o _) _ _
  shape_does (Marks n d) m h = shape_content _ (shape_record m h o _) _ _
  shape_does Unlinks m h = shape_content m h _ _
  shape_does (Updates d u) m h = shape_updates d u m h
  shape_does (Sizes d) m h = shape_sizes d m h

  pub shape_goes_on : (n : Next) (m : Machine) → Shape m → Shape (goes_on n t o m)
  shape_goes_on (To p) m h = shape_local m h t _ (λ l. h.seen t.0 l)
  shape_goes_on (Returns a) m h = shape_local _ (shape_record m h o _) t _ (λ l. h.seen t.0 l)

pub shape_ticked : (o : OpId) (m : Machine) → Shape m → Shape (ticked o m)
shape_ticked o m h = shape_record _ (shape_clock m h _ _) o _

pub shape_step : (m : Machine) (t : ThreadId) → Shape m → Shape (step_of m t)
shape_step m t h = step_case Shape m t access (λ e. shape_clock m h _ _)
  where
    access : (local_at m t).op.0 < (local_at m t).end.0 → Shape (accessed m t)
    access e =
        let l : t.0 < 8 = omega (arith, acting m t e, h.locals) in
        let o = (local_at m t).op in
        unfold accessed in shape_goes_on t o l (move_of m t).next _ (shape_does t o l (move_of m t).deed _ (shape_ticked o m h))

-- ---- The start state, and every run from it.

pub length_locals : (first : ℕ) (counts : List ℕ) → length (locals_of first counts) ≡ length counts
unfolding locals_of
length_locals first [] = refl
length_locals first (c ∷ counts) = ap suc (length_locals (first + c) counts)

seen_start : (first : ℕ) (counts : List ℕ) (t : ℕ) → t < length counts → length (get_or (locals_of first counts) t no_local).seen ≡ 8
unfolding locals_of
seen_start first [] t h = absurd (omega arith)
seen_start first (c ∷ counts) zero h = refl
seen_start first (c ∷ counts) (suc t) h = seen_start (first + c) counts t (le_of_suc-le-suc h)

pub shape_start : (threads keys : ℕ) (counts ops : List ℕ) → length counts ≡ 8 → Shape (start_of threads keys counts ops)
unfolding start_of
shape_start threads keys counts ops e =
    record {
      calculator =
          record {
            counters = refl;
            snapshots = length-replicate 65 (fresh_snapshot false);
            traces = length-replicate 65 (fresh_trace 0);
            cells = λ n l. ap (λ (s : Snapshot). length s.cells) (get_or-replicate 65 n (fresh_snapshot false) no_snapshot l);
            seen = λ n l. ap (λ (s : Trace). length s.seen) (get_or-replicate 65 n (fresh_trace 0) no_trace l);
          };
      slots = length-replicate 16 no_slot;
      locals = length_locals 0 counts ∙ e;
      records = length-sets _ 0 (records_of counts 0 ops) ∙ length-replicate 64 (unbegun 0 0);
      seen = λ t l. seen_start 0 counts t (omega arith);
    }

pub shape_run : (threads keys : ℕ) (counts ops : List ℕ) (s : List ℕ) → length counts ≡ 8 → Shape (run_of (start_of threads keys counts ops) s)
shape_run threads keys counts ops s e = run_keeps Shape shape_step (start_of threads keys counts ops) s (shape_start threads keys counts ops e)
