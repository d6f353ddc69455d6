-- Every number of a state is one that there is, step by step: what a step's move holds, what its deed writes, where it goes on.
use Prim.Native.Nat.{ℕ, suc, ◌-◌, ◌≤◌, ◌<◌}
use mathlib.Core.Path.{◌≡◌, refl}
use mathlib.Core.Logic.{◌≢◌}
use mathlib.Core.Bool.{Bool, true, false, cond}
use mathlib.Core.List.{List}
use native.Mathlib.Omega.{arith}
use lib.Dec.{eqb, ltb}
use Rattle.terms.specs.declared.ThreadId.{ThreadId}
use Rattle.terms.specs.declared.OpId.{OpId}
use Rattle.terms.specs.declared.SnapshotId.{SnapshotId}
use Rattle.terms.specs.declared.Target.{Target}
use Rattle.figures.specs.declared.Cell.{Cell}
use Rattle.figures.specs.declared.Counts.{Counts}
use Rattle.figures.specs.declared.Snapshot.{Snapshot}
use Rattle.figures.specs.declared.Trace.{Trace}
use Rattle.figures.specs.declared.Calculator.{Calculator}
use Rattle.figures.specs.declared.Sight.{Sight}
use Rattle.figures.specs.declared.UpdatePoint.{UpdatePoint}
use Rattle.figures.specs.declared.UpdatePoint.TheVariants.{ReadCount, RaiseCount, ReadCurrent, ReadFlag, ReadAgain, ReadCell, Forward}
use Rattle.figures.specs.declared.UpdateDeed.{UpdateDeed}
use Rattle.figures.specs.declared.UpdateDeed.TheVariants.{Reads, Raises, Forwards}
use Rattle.figures.specs.declared.UpdateNext.{UpdateNext}
use Rattle.figures.specs.declared.UpdateNext.TheVariants.{Then, Done}
use Rattle.figures.specs.declared.UpdateMove.{UpdateMove}
use Rattle.figures.specs.declared.SizePoint.{SizePoint}
use Rattle.figures.specs.declared.SizePoint.TheVariants.{FindCurrent, FindFlag, Announce, CollectCount, CollectCell, CollectSet, LowerFlag, SumCell, FixSize}
use Rattle.figures.specs.declared.SizeDeed.{SizeDeed}
use Rattle.figures.specs.declared.SizeDeed.TheVariants.{Looks, Announces, Collects, Lowers, Keeps, Fixes, Shares}
use Rattle.figures.specs.declared.SizeNext.{SizeNext}
use Rattle.figures.specs.declared.SizeNext.TheVariants.{Goes, Sized}
use Rattle.figures.specs.declared.SizeMove.{SizeMove}
use Rattle.figures.specs.declared.Node.{Node}
use Rattle.figures.specs.declared.Content.{Content}
use Rattle.figures.specs.declared.Content.TheVariants.{Empty, Live, Marked}
use Rattle.figures.specs.declared.Slot.{Slot}
use Rattle.figures.specs.declared.Call.{Call}
use Rattle.figures.specs.declared.Call.TheVariants.{Insert, Delete, Contains, Size}
use Rattle.figures.specs.declared.Update.{Update}
use Rattle.figures.specs.declared.After.{After}
use Rattle.figures.specs.declared.After.TheVariants.{Answer, ToMark, ToHelpUnlink, ToUnlink}
use Rattle.figures.specs.declared.Point.{Point}
use Rattle.figures.specs.declared.Point.TheVariants.{Idle, ReadSlot, Updating, CountInsertions, Link, HelpUnlink, CountDeletions, Mark, Unlink, Sizing}
use Rattle.figures.specs.declared.Deed.{Deed}
use Rattle.figures.specs.declared.Deed.TheVariants.{Rests, Finds, Links, Marks, Unlinks, Updates, Sizes}
use Rattle.figures.specs.declared.Next.{Next}
use Rattle.figures.specs.declared.Next.TheVariants.{To, Returns}
use Rattle.figures.specs.declared.Move.{Move}
use Rattle.figures.specs.declared.Local.{Local}
use Rattle.figures.specs.declared.Outcome.{Outcome}
use Rattle.figures.specs.declared.Look.{Look}
use Rattle.figures.specs.declared.Record.{Record}
use Rattle.figures.specs.declared.Machine.{Machine}
use Rattle.figures.specs.Limits.{invalid}
use Rattle.figures.specs.Figure4.{more, count_at, block_of, fresh_snapshot, fresh_trace, no_snapshot, no_trace, snapshot_at, trace_at, window_of, with_snapshot, with_trace, raised, written, new_id, announced, lowered, fixed}
use Rattle.figures.specs.Figure6.{behind, forward_from, on_to, done, first_cell, next_cell, collect_next, total_of}
use Rattle.figures.specs.Figure5.{update_at, size_at}
use Rattle.figures.specs.Figure3.{found, link_found, update_next, size_next, entry, node_of, is_live, is_marked, cell_of}
use Rattle.figures.specs.Step.{no_slot, no_local, no_record, content_at, local_at, record_at, with_calculator, with_content, with_local, with_record, with_clock, with_outcome, counted, with_look, with_used, exchanged_at, raised_at, stands_at, access_of, move_of, updates, sizes, does, goes_on, ticked, accessed}
use Rattle.figures.specs.Counts.{is_announcing, is_announcement}
use Rattle.figures.specs.Ranges.{Bounds, InvalidOr, TargetIn, NodeIn, ContentIn, SnapshotIdIn, CellIn, UpdatePointIn, SizePointIn, AfterIn, PointIn, OutcomeIn, LookIn, ChangeIn, RecordIn, SumIn, SnapshotIn, TraceIn, CalculatorIn, MachineIn}
use Rattle.figures.proofs.Laws.{set_holds, count_holds, block_holds, cond_both, more_is, lt_case, eq_case}

-- ---- More steps and more snapshots leave everything in bounds.

pub record Wider (b b' : Bounds) : Type 0 where
  pub threads : b'.threads ≡ b.threads
  pub keys : b'.keys ≡ b.keys
  pub operations : b'.operations ≡ b.operations
  pub clock : b.clock ≤ b'.clock
  pub current : b.current ≤ b'.current

module _ (b b' : Bounds) (w : Wider b b') where
  target_up : (c : ℕ) → TargetIn b c → TargetIn b' c
  target_up c h = record { some = h.some; most = omega (arith, h.most, w.clock) }

  node_up : (x : Node) → NodeIn b x → NodeIn b' x
  node_up x h =
      record {
        thread = omega (arith, h.thread, w.threads);
        target = target_up x.note.1.0 h.target;
        operation = omega (arith, h.operation, w.operations);
      }

  content_up : (c : Content) → ContentIn b c → ContentIn b' c
  content_up Empty h = tt
  content_up (Live n) h = node_up n h
  content_up (Marked n d) h = (node_up n h.0, node_up d h.1)

  update_up : (p : UpdatePoint) → UpdatePointIn b p → UpdatePointIn b' p
  update_up ReadCount h = tt
  update_up RaiseCount h = tt
  update_up (ReadCurrent r) h = tt
  update_up (ReadFlag r n) h = omega (arith, w.current)
  update_up (ReadAgain r n) h = omega (arith, w.current)
  update_up (ReadCell r n) h = omega (arith, w.current)
  update_up (Forward r n v) h = (omega (arith, w.current), λ e. omega (arith, h.1 e, w.clock))

  size_up : (p : SizePoint) → SizePointIn b p → SizePointIn b' p
  size_up FindCurrent h = tt
  size_up (FindFlag n) h = omega (arith, w.current)
  size_up (Announce n) h = omega (arith, w.current)
  size_up (CollectCount n j) h = (omega (arith, w.current), omega (arith, w.threads))
  size_up (CollectCell n j v) h = (omega (arith, w.current), omega (arith, w.threads), omega (arith, w.clock))
  size_up (CollectSet n j v) h = (omega (arith, w.current), omega (arith, w.threads), omega (arith, w.clock))
  size_up (LowerFlag n) h = omega (arith, w.current)
  size_up (SumCell n j) h = (omega (arith, w.current), omega (arith, w.threads))
  size_up (FixSize n) h = omega (arith, w.current)

  after_up : (a : After) → AfterIn b a → AfterIn b' a
  after_up (Answer a) h = h
  after_up (ToMark n) h = node_up n h
  after_up (ToHelpUnlink n d) h = (node_up n h.0, node_up d h.1)
  after_up (ToUnlink n d) h = (node_up n h.0, node_up d h.1)

  point_up : (p : Point) → PointIn b p → PointIn b' p
  point_up Idle h = tt
  point_up ReadSlot h = tt
  point_up (Updating p u a) h = (update_up p h.0, node_up u.node h.1, after_up a h.2)
  point_up CountInsertions h = tt
  point_up (Link c) h = target_up c.0 h
  point_up (HelpUnlink n d) h = (node_up n h.0, node_up d h.1)
  point_up (CountDeletions n) h = node_up n h
  point_up (Mark n c) h = (node_up n h.0, target_up c.0 h.1)
  point_up (Unlink n d) h = (node_up n h.0, node_up d h.1)
  point_up (Sizing p) h = size_up p h

  record_up : (r : Record) → RecordIn b r → RecordIn b' r
  record_up r h =
      let x = h.outcome in
      let y = h.look in
      let z = h.change in
      record {
        outcome =
            record {
              answer = λ e. omega (arith, x.answer e, w.keys);
              given = λ e. omega (arith, x.given e, w.keys);
              raiser = λ e. omega (arith, x.raiser e, w.threads);
            };
        look = record { read = omega (arith, y.read, w.clock); found = content_up r.look.found y.found };
        change =
            record {
              target = omega (arith, z.target, w.clock);
              exchanged = omega (arith, z.exchanged, w.clock);
              raised = omega (arith, z.raised, w.clock);
              window = omega (arith, z.window, w.current);
            };
        used = omega (arith, h.used, w.current);
      }

  sum_up : (seen : List Counts) → SumIn b seen → SumIn b' seen
  sum_up seen h =
      record { values = λ j. omega (arith, h.values j, w.clock); order = h.order; most = omega (arith, h.most, w.keys) }

  trace_up : (t : Trace) → TraceIn b t → TraceIn b' t
  trace_up t h =
      record {
        announced = omega (arith, h.announced, w.clock);
        closed = omega (arith, h.closed, w.clock);
        fixed = omega (arith, h.fixed, w.clock);
        seen = sum_up t.seen h.seen;
      }

  pub machine_up : (m : Machine) → MachineIn b m → MachineIn b' m
  machine_up m h =
      record {
        calculator =
            record {
              counters = λ j. omega (arith, h.calculator.counters j, w.clock);
              snapshots = λ n.
                  record {
                    cells = λ j e. omega (arith, (h.calculator.snapshots n).cells j e, w.clock);
                    size = λ e. omega (arith, (h.calculator.snapshots n).size e, w.keys);
                  };
              traces = λ n. trace_up (trace_at m.calculator n) (h.calculator.traces n);
              fixed = λ n e. let x = h.calculator.fixed n e in (x.0, omega (arith, x.1, w.current));
            };
        contents = λ k. content_up (content_at m k) (h.contents k);
        points = λ t. point_up (local_at m t).point (h.points t);
        kept = λ t j. omega (arith, h.kept t j, w.clock);
        records = λ o. record_up (record_at m o) (h.records o);
      }

-- ---- A move: where it goes on, and what it changes.

abbrev pub NextIn : Bounds → Next → Type 0
NextIn b (To p) = PointIn b p
NextIn b (Returns a) = a ≤ b.keys

abbrev UpdateNextIn : Bounds → UpdateNext → Type 0
UpdateNextIn b (Then p) = UpdatePointIn b p
UpdateNextIn b (Done r) = Unit {0}

abbrev SizeNextIn : Bounds → SizeNext → Type 0
SizeNextIn b (Goes p) = SizePointIn b p
SizeNextIn b (Sized a) = a ≤ b.keys

-- the size v of snapshot n, the sum of these values
pub record FixIn (b : Bounds) (seen : List Counts) (n : SnapshotId) (v : ℕ) : Type 0 where
  pub some : 1 ≤ n.0
  pub there : SnapshotIdIn b n
  pub size : v ≤ b.keys
  pub sum : SumIn b seen

-- by a thread that has read the values `seen` for its sum
abbrev pub SizeDeedIn : Bounds → List Counts → SizeDeed → Type 0
SizeDeedIn b seen Looks = Unit {0}
SizeDeedIn b seen Announces = Unit {0}
SizeDeedIn b seen (Collects n j v) = v ≤ b.clock
SizeDeedIn b seen (Lowers n) = Unit {0}
SizeDeedIn b seen (Keeps j v) = v ≤ b.clock
SizeDeedIn b seen (Fixes n v) = FixIn b seen n v
SizeDeedIn b seen (Shares n) = SnapshotIdIn b n

abbrev pub DeedIn : Bounds → List Counts → Deed → Type 0
DeedIn b seen Rests = Unit {0}
DeedIn b seen (Finds c) = ContentIn b c
DeedIn b seen (Links n) = NodeIn b n
DeedIn b seen (Marks n d) = NodeIn b n × NodeIn b d
DeedIn b seen Unlinks = Unit {0}
DeedIn b seen (Updates d u) = NodeIn b u.node
DeedIn b seen (Sizes d) = SizeDeedIn b seen d

-- what the invariants tell of a size's access: no value that it reads for its sum is INVALID, and what it has read in the end is a sum
abbrev SizeSure : Bounds → List Counts → Sight → SizePoint → Type 0
SizeSure b seen s FindCurrent = Unit {0}
SizeSure b seen s (FindFlag n) = Unit {0}
SizeSure b seen s (Announce n) = Unit {0}
SizeSure b seen s (CollectCount n j) = Unit {0}
SizeSure b seen s (CollectCell n j v) = Unit {0}
SizeSure b seen s (CollectSet n j v) = Unit {0}
SizeSure b seen s (LowerFlag n) = Unit {0}
SizeSure b seen s (SumCell n j) = s.cell ≢ invalid
SizeSure b seen s (FixSize n) = (1 ≤ n.0) × SumIn b seen

abbrev pub Sure : Bounds → List Counts → Sight → Point → Type 0
Sure b seen s Idle = Unit {0}
Sure b seen s ReadSlot = Unit {0}
Sure b seen s (Updating p u a) = Unit {0}
Sure b seen s CountInsertions = Unit {0}
Sure b seen s (Link c) = Unit {0}
Sure b seen s (HelpUnlink n d) = Unit {0}
Sure b seen s (CountDeletions n) = Unit {0}
Sure b seen s (Mark n c) = Unit {0}
Sure b seen s (Unlink n d) = Unit {0}
Sure b seen s (Sizing p) = SizeSure b seen s p

total_in : (b : Bounds) (seen : List Counts) → SumIn b seen → total_of seen ≤ b.keys
total_in b seen h = omega (arith, h.most)

-- what an access sees is in bounds
pub record SightIn (b : Bounds) (s : Sight) : Type 0 where
  pub count : s.count ≤ b.clock
  pub current : s.current.0 ≡ b.current
  pub cell : InvalidOr b.clock s.cell
  pub size : InvalidOr b.keys s.size

module _ (b b' : Bounds) (w : Wider b b') (s : Sight) (si : SightIn b s) (key : 0 < b.keys) where
  forward_in : (r : Bool) (n : SnapshotId) (c : Target) → SnapshotIdIn b n → UpdateNextIn b' (forward_from r n c s.cell).next
  forward_in r n c h =
      cond_both (λ (x : UpdateMove). UpdateNextIn b' x.next) (behind s.cell c) (on_to (Forward r n s.cell)) (done r)
      (omega (arith, w.current), λ e. omega (arith, si.cell e, w.clock)) tt

  update_in : (p : UpdatePoint) (c : Target) → UpdatePointIn b p → UpdateNextIn b' (update_at p c s).next
  update_in ReadCount c h = cond_both (UpdatePointIn b') (eqb s.count (c.0 - 1)) RaiseCount (ReadCurrent false) tt tt
  update_in RaiseCount c h = tt
  update_in (ReadCurrent r) c h = omega (arith, si.current, w.current)
  update_in (ReadFlag r n) c h = cond_both (λ (x : UpdateMove). UpdateNextIn b' x.next) s.collecting (on_to (ReadAgain r n)) (done r) (omega (arith, w.current)) tt
  update_in (ReadAgain r n) c h = cond_both (λ (x : UpdateMove). UpdateNextIn b' x.next) (eqb s.count c.0) (on_to (ReadCell r n)) (done r) (omega (arith, w.current)) tt
  update_in (ReadCell r n) c h = forward_in r n c h
  update_in (Forward r n known) c h = cond_both (λ (x : UpdateMove). UpdateNextIn b' x.next) (eqb s.cell known) _ (forward_from r n c s.cell) tt (forward_in r n c h.0)

  update_next_in : (v : UpdateNext) (u : Update) (a : After) → UpdateNextIn b' v → NodeIn b' u.node → AfterIn b' a → NextIn b' (update_next v u a)
  update_next_in (Then p) u a h x y = (h, x, y)
  update_next_in (Done r) u (Answer a) h x y = omega (arith, w.keys)
  update_next_in (Done r) u (ToMark n) h x y = y
  update_next_in (Done r) u (ToHelpUnlink n d) h x y = y
  update_next_in (Done r) u (ToUnlink n d) h x y = y

  -- the cells of compute, one after another
  next_cell_lem : (P : SizePoint → Type 0) (j : Cell) (again : Cell → SizePoint) (after : SizePoint) → ((j' : Cell) → CellIn b' j' → P (again j')) → P after
      → P (cond (ltb (next_cell j).thread.0 b.threads) (again (next_cell j)) after)
  next_cell_lem P j again after f g = lt_case P (next_cell j).thread.0 b.threads (again (next_cell j)) after (λ l. f (next_cell j) (omega (arith, w.threads))) (λ l. g)

  module _ (some : 0 < b.threads) (seen : List Counts) where
    collect_in : (n : SnapshotId) (j : Cell) → SnapshotIdIn b n → SizePointIn b' (collect_next b.threads n j)
    collect_in n j h = next_cell_lem (SizePointIn b') j (CollectCount n) (LowerFlag n) (λ j' l. (omega (arith, w.current), l)) (omega (arith, w.current))

    size_in : (p : SizePoint) → SizePointIn b p → SizeSure b seen s p
        → (is_announcing (size_at p b.threads seen s).deed ≡ true → (new_id s.current).0 ≤ b'.current)
        → SizeNextIn b' (size_at p b.threads seen s).next
    size_in FindCurrent h k a = omega (arith, si.current, w.current)
    size_in (FindFlag n) h k a =
        cond_both (SizePointIn b') s.collecting (CollectCount n first_cell) (Announce n) (omega (arith, w.current), omega (arith, w.threads)) (omega (arith, w.current))
    size_in (Announce n) h k a =
        cond_both (λ (x : SizeMove). (is_announcing x.deed ≡ true → (new_id s.current).0 ≤ b'.current) → SizeNextIn b' x.next) (eqb s.current.0 n.0) _ _
        (λ f. (f refl, omega (arith, w.threads))) (λ f. (omega (arith, si.current, w.current), omega (arith, w.threads))) a
    size_in (CollectCount n j) h k a = (omega (arith, w.current), omega (arith, w.threads), omega (arith, si.count, w.clock))
    size_in (CollectCell n j v) h k a =
        cond_both (SizePointIn b') (eqb s.cell invalid) (CollectSet n j v) (collect_next b.threads n j)
        (omega (arith, w.current), omega (arith, w.threads), omega (arith, w.clock)) (collect_in n j h.0)
    size_in (CollectSet n j v) h k a = collect_in n j h.0
    size_in (LowerFlag n) h k a = (omega (arith, w.current), omega (arith, w.threads))
    size_in (SumCell n j) h k a = next_cell_lem (SizePointIn b') j (SumCell n) (FixSize n) (λ j' l. (omega (arith, w.current), l)) (omega (arith, w.current))
    size_in (FixSize n) h k a =
        let sum = total_in b seen k.1 in
        eq_case (λ (x : SizeMove). SizeNextIn b' x.next) s.size invalid _ _
        (λ e. omega (arith, w.keys)) (λ e. omega (arith, si.size e, w.keys))

    size_deed_in : (p : SizePoint) → SizePointIn b p → SizeSure b seen s p → SizeDeedIn b' seen (size_at p b.threads seen s).deed
    size_deed_in FindCurrent h k = tt
    size_deed_in (FindFlag n) h k = tt
    size_deed_in (Announce n) h k = cond_both (λ (x : SizeMove). SizeDeedIn b' seen x.deed) (eqb s.current.0 n.0) _ _ tt tt
    size_deed_in (CollectCount n j) h k = tt
    size_deed_in (CollectCell n j v) h k = tt
    size_deed_in (CollectSet n j v) h k = cond_both (SizeDeedIn b' seen) (eqb s.cell invalid) (Collects n j v) Looks (omega (arith, w.clock)) tt
    size_deed_in (LowerFlag n) h k = tt
    size_deed_in (SumCell n j) h k = omega (arith, si.cell k, w.clock)
    size_deed_in (FixSize n) h k = cond_both (λ (x : SizeMove). SizeDeedIn b' seen x.deed) (eqb s.size invalid) _ _
        (record {
          some = k.0;
          there = omega (arith, w.current);
          size = omega (arith, total_in b seen k.1, w.keys);
          sum = sum_up b b' w seen k.1;
        }) (omega (arith, w.current))

    size_next_in : (v : SizeNext) → SizeNextIn b' v → NextIn b' (size_next v)
    size_next_in (Goes p) h = h
    size_next_in (Sized a) h = h

    module _ (t : ThreadId) (o : OpId) (tl : t.0 < b.threads) (ol : o.0 < b.operations) (c : Content) (ci : ContentIn b c) (later : suc b.clock ≤ b'.clock) (small : b.clock < 4294967295) where
      -- a node that this operation makes
      made : (g : Target) → TargetIn b g.0 → NodeIn b' (node_of t g o)
      made g h = node_up b b' w (node_of t g o) (record { thread = tl; target = h; operation = ol })

      -- the counter's value and one more
      aimed : TargetIn b' (more s.count)
      aimed = let e = more_is s.count (omega (arith, si.count)) in record { some = omega arith; most = omega (arith, si.count) }

      found_in : (k : Call) (x : Content) → ContentIn b' x → NextIn b' (found k x)
      found_in Insert Empty h = tt
      found_in Insert (Live n) h = (tt, h, omega arith)
      found_in Insert (Marked n d) h = (tt, h.1, h)
      found_in Delete Empty h = omega arith
      found_in Delete (Live n) h = (tt, h, h)
      found_in Delete (Marked n d) h = (tt, h.1, omega arith)
      found_in Contains Empty h = omega arith
      found_in Contains (Live n) h = (tt, h, omega arith)
      found_in Contains (Marked n d) h = (tt, h.1, omega arith)
      found_in Size x h = omega arith

      link_in : (n : Node) (x : Content) → NodeIn b' n → NextIn b' (link_found n x).next × DeedIn b' seen (link_found n x).deed
      link_in n Empty h = ((tt, h, omega arith), h)
      link_in n (Live a) h = (tt, tt)
      link_in n (Marked a d) h = (tt, tt)

      pub next_in : (k : Call) (p : Point) → PointIn b p → Sure b seen s p
          → (is_announcement (access_of p t o k b.threads seen s c).deed ≡ true → (new_id s.current).0 ≤ b'.current)
          → NextIn b' (access_of p t o k b.threads seen s c).next
      next_in k Idle h y a = tt
      next_in k ReadSlot h y a = found_in k c (content_up b b' w c ci)
      next_in k (Updating p u x) h y a =
          update_next_in (update_at p u.node.note.1 s).next u x (update_in p u.node.note.1 h.0) (node_up b b' w u.node h.1) (after_up b b' w x h.2)
      next_in k CountInsertions h y a = aimed
      next_in k (Link g) h y a = (link_in (node_of t g o) c (made g h)).0
      next_in k (HelpUnlink n d) h y a = tt
      next_in k (CountDeletions n) h y a = (node_up b b' w n h, aimed)
      next_in k (Mark n g) h y a =
          cond_both (λ (x : Move). NextIn b' x.next) (is_live n c) _ _ (tt, made g h.1, (node_up b b' w n h.0, made g h.1)) tt
      next_in k (Unlink n d) h y a = omega (arith, w.keys)
      next_in k (Sizing p) h y a = size_next_in (size_at p b.threads seen s).next (size_in p h y a)

      pub deed_in : (k : Call) (p : Point) → PointIn b p → Sure b seen s p → DeedIn b' seen (access_of p t o k b.threads seen s c).deed
      deed_in k Idle h y = tt
      deed_in k ReadSlot h y = content_up b b' w c ci
      deed_in k (Updating p u x) h y = node_up b b' w u.node h.1
      deed_in k CountInsertions h y = tt
      deed_in k (Link g) h y = (link_in (node_of t g o) c (made g h)).1
      deed_in k (HelpUnlink n d) h y = cond_both (DeedIn b' seen) (is_marked n d c) Unlinks Rests tt tt
      deed_in k (CountDeletions n) h y = tt
      deed_in k (Mark n g) h y = cond_both (λ (x : Move). DeedIn b' seen x.deed) (is_live n c) _ _ (node_up b b' w n h.0, made g h.1) tt
      deed_in k (Unlink n d) h y = cond_both (DeedIn b' seen) (is_marked n d c) Unlinks Rests tt tt
      deed_in k (Sizing p) h y = size_deed_in p h y

entry_in : (b : Bounds) (k : Call) → PointIn b (entry k)
entry_in b Insert = tt
entry_in b Delete = tt
entry_in b Contains = tt
entry_in b Size = tt

pub stands_in : (b : Bounds) (k : Call) (p : Point) → PointIn b p → PointIn b (stands_at p k)
stands_in b k Idle h = entry_in b k
stands_in b k ReadSlot h = h
stands_in b k (Updating p u a) h = h
stands_in b k CountInsertions h = h
stands_in b k (Link c) h = h
stands_in b k (HelpUnlink n d) h = h
stands_in b k (CountDeletions n) h = h
stands_in b k (Mark n c) h = h
stands_in b k (Unlink n d) h = h
stands_in b k (Sizing p) h = h

-- ---- The writes.

module _ (b : Bounds) where
  module _ (c : Calculator) (h : CalculatorIn b c) where
    snapshot_in : (n : SnapshotId) (s : Snapshot) → SnapshotIn b s → CalculatorIn b (with_snapshot n s c)
    snapshot_in n s e =
        record {
          counters = h.counters;
          snapshots = λ i. set_holds (SnapshotIn b) c.snapshots n.0 i.0 s no_snapshot (λ q. e) (h.snapshots i);
          traces = h.traces;
          fixed = h.fixed;
        }

    trace_in : (n : SnapshotId) (t : Trace) → TraceIn b t → (0 < t.fixed → (1 ≤ n.0) × SnapshotIdIn b n)
        → CalculatorIn b (with_trace n t c)
    trace_in n t e f =
        record {
          counters = h.counters;
          snapshots = h.snapshots;
          traces = λ i. set_holds (TraceIn b) c.traces n.0 i.0 t no_trace (λ q. e) (h.traces i);
          fixed = λ i.
              set_holds (λ (x : Trace). 0 < x.fixed → (1 ≤ i.0) × SnapshotIdIn b i) c.traces n.0 i.0 t no_trace
              (λ q l. let x = f l in (omega (arith, x.0), omega (arith, x.1))) (h.fixed i);
        }

    raised_in_lem : (j : Cell) (v : ℕ) → v ≤ b.clock → CalculatorIn b (raised j v c)
    raised_in_lem j v l =
        record {
          counters = λ i. count_holds (λ (x : ℕ). x ≤ b.clock) c.counters j i v (λ q. l) (h.counters i);
          snapshots = h.snapshots;
          traces = h.traces;
          fixed = h.fixed;
        }

    written_in : (n : SnapshotId) (j : Cell) (v : ℕ) → v ≤ b.clock → CalculatorIn b (written n j v c)
    written_in n j v l =
        snapshot_in n _
        (record {
          cells = λ i. count_holds (InvalidOr b.clock) (snapshot_at c n).cells j i v (λ q e. l) ((h.snapshots n).cells i);
          size = (h.snapshots n).size;
        })

  pub fresh_in : (collecting : Bool) → SnapshotIn b (fresh_snapshot collecting)
  fresh_in collecting =
      record {
        cells = λ j. block_holds (InvalidOr b.clock) invalid j (λ e. absurd (e refl)) (λ e. omega arith);
        size = λ e. absurd (e refl);
      }

  pub unread_in : SumIn b (block_of 0)
  unread_in =
      record { values = λ j. block_holds (λ (x : ℕ). x ≤ b.clock) 0 j (omega arith) (omega arith); order = omega arith; most = omega arith }

  pub fresh_trace_in : (step : ℕ) → step ≤ b.clock → TraceIn b (fresh_trace step)
  fresh_trace_in step l = record { announced = l; closed = omega arith; fixed = omega arith; seen = unread_in }

  announced_in_lem : (step : ℕ) (c : Calculator) → step ≤ b.clock → CalculatorIn b c → CalculatorIn b (announced step c)
  announced_in_lem step c l h =
      let n = new_id c.current in
      let k = trace_in (with_snapshot n (fresh_snapshot true) c) (snapshot_in c h n (fresh_snapshot true) (fresh_in true)) n (fresh_trace step)
      (fresh_trace_in step l) (λ e. absurd (omega arith)) in
      record { counters = k.counters; snapshots = k.snapshots; traces = k.traces; fixed = k.fixed }

  lowered_in : (n : SnapshotId) (step : ℕ) (c : Calculator) → step ≤ b.clock → CalculatorIn b c → CalculatorIn b (lowered n step c)
  lowered_in n step c l h =
      trace_in _ (snapshot_in c h n _ (record { cells = (h.snapshots n).cells; size = (h.snapshots n).size })) n _
      (record {
        announced = (h.traces n).announced;
        closed = cond_both (λ (x : ℕ). x ≤ b.clock) (snapshot_at c n).collecting step (trace_at c n).closed l (h.traces n).closed;
        fixed = (h.traces n).fixed;
        seen = (h.traces n).seen;
      }) (h.fixed n)

  fixed_in : (n : SnapshotId) (v step : ℕ) (seen : List Counts) (c : Calculator) → step ≤ b.clock → FixIn b seen n v → CalculatorIn b c
      → CalculatorIn b (fixed n v step seen c)
  fixed_in n v step seen c l f h =
      trace_in _ (snapshot_in c h n _ (record { cells = (h.snapshots n).cells; size = λ e. f.size })) n _
      (record { announced = (h.traces n).announced; closed = (h.traces n).closed; fixed = l; seen = f.sum }) (λ e. (f.some, f.there))

  window_in_lem : (c : Calculator) → c.current.0 ≤ b.current → SnapshotIdIn b (window_of c)
  window_in_lem c l = cond_both (SnapshotIdIn b) (eqb (trace_at c c.current).closed 0) c.current (record { 0 = 0 }) l (omega arith)

  module _ (m : Machine) (h : MachineIn b m) where
    calculator_in : (c : Calculator) → CalculatorIn b c → MachineIn b (with_calculator c m)
    calculator_in c k = record { calculator = k; contents = h.contents; points = h.points; kept = h.kept; records = h.records }

    content_in : (k : ℕ) (c : Content) → ContentIn b c → MachineIn b (with_content k c m)
    content_in k c e =
        record {
          calculator = h.calculator;
          contents = λ i. set_holds (λ (x : Slot). ContentIn b x.content) m.slots k i (record { content = c }) no_slot (λ q. e) (h.contents i);
          points = h.points;
          kept = h.kept;
          records = h.records;
        }

    local_in_lem : (t : ThreadId) (l : Local) → PointIn b l.point → ((j : Cell) → count_at l.seen j ≤ b.clock)
        → MachineIn b (with_local t l m)
    local_in_lem t l e f =
        record {
          calculator = h.calculator;
          contents = h.contents;
          points = λ i. set_holds (λ (x : Local). PointIn b x.point) m.locals t.0 i.0 l no_local (λ q. e) (h.points i);
          kept = λ i j.
              set_holds (λ (x : Local). count_at x.seen j ≤ b.clock) m.locals t.0 i.0 l no_local (λ q. f j) (h.kept i j);
          records = h.records;
        }

    record_in_lem : (o : OpId) (r : Record) → RecordIn b r → MachineIn b (with_record o r m)
    record_in_lem o r e =
        record {
          calculator = h.calculator;
          contents = h.contents;
          points = h.points;
          kept = h.kept;
          records = λ i. set_holds (RecordIn b) m.records o.0 i.0 r no_record (λ q. e) (h.records i);
        }

    pub clock_in : (clock idle : ℕ) → MachineIn b (with_clock clock idle m)
    clock_in clock idle =
        record { calculator = h.calculator; contents = h.contents; points = h.points; kept = h.kept; records = h.records }

  -- a record with one of its parts anew
  module _ (r : Record) (h : RecordIn b r) where
    outcome_in_lem : (x : Outcome) → OutcomeIn b x → RecordIn b (with_outcome x r)
    outcome_in_lem x e = record { outcome = e; look = h.look; change = h.change; used = h.used }

    look_in : (x : Look) → LookIn b x → RecordIn b (with_look x r)
    look_in x e = record { outcome = h.outcome; look = e; change = h.change; used = h.used }

    exchanged_in_lem : (c : Target) (step : ℕ) → TargetIn b c.0 → step ≤ b.clock → RecordIn b (exchanged_at c step r)
    exchanged_in_lem c step e f =
        let x : ChangeIn b (exchanged_at c step r).change =
        record { target = e.most; exchanged = f; raised = h.change.raised; window = h.change.window } in
        record { outcome = h.outcome; look = h.look; change = x; used = h.used }

    raised_at_in : (step : ℕ) (w : SnapshotId) (t : ThreadId) → step ≤ b.clock → SnapshotIdIn b w → t.0 < b.threads → RecordIn b (raised_at step w t r)
    raised_at_in step w t e f g =
        let x : ChangeIn b (raised_at step w t r).change =
        record { target = h.change.target; exchanged = h.change.exchanged; raised = e; window = f } in
        record {
          outcome = record { answer = h.outcome.answer; given = h.outcome.given; raiser = λ n. g };
          look = h.look;
          change = x;
          used = h.used;
        }

    used_in : (n : SnapshotId) → SnapshotIdIn b n → RecordIn b (with_used n r)
    used_in n e = record { outcome = h.outcome; look = h.look; change = h.change; used = e }

  ticked_in : (o : OpId) (m : Machine) → MachineIn b m → MachineIn b (ticked o m)
  ticked_in o m h =
      let y = (h.records o).outcome in
      let x : OutcomeIn b (counted (more m.clock) (record_at m o)).outcome = record { answer = y.answer; given = y.given; raiser = y.raiser } in
      record_in_lem _ (clock_in m h _ _) o _ (outcome_in_lem (record_at m o) (h.records o) _ x)

  module _ (t : ThreadId) (o : OpId) (m : Machine) (h : MachineIn b m) (c : m.clock ≤ b.clock) (k : m.calculator.current.0 ≤ b.current)
      (tb : t.0 < b.threads) where
    updates_in : (d : UpdateDeed) (u : Update) → NodeIn b u.node → MachineIn b (updates d u t m)
    updates_in Reads u e = h
    updates_in Raises u e =
        record_in_lem _ (calculator_in m h _ (raised_in_lem m.calculator h.calculator (cell_of u) u.node.note.1.0 e.target.most)) u.node.op _
        (raised_at_in (record_at m u.node.op) (h.records u.node.op) m.clock (window_of m.calculator) _ c (window_in_lem m.calculator k) (omega arith))
    updates_in (Forwards n) u e = calculator_in m h _ (written_in m.calculator h.calculator n (cell_of u) u.node.note.1.0 e.target.most)

    sizes_in : (d : SizeDeed) → SizeDeedIn b (local_at m t).seen d → MachineIn b (sizes d t o m)
    sizes_in Looks e = h
    sizes_in Announces e = calculator_in m h _ (announced_in_lem m.clock m.calculator c h.calculator)
    sizes_in (Collects n j v) e = calculator_in m h _ (written_in m.calculator h.calculator n j v e)
    sizes_in (Lowers n) e = local_in_lem _ (calculator_in m h _ (lowered_in n m.clock m.calculator c h.calculator)) t _ (h.points t) unread_in.values
    sizes_in (Keeps j v) e =
        local_in_lem m h t _ (h.points t) (λ i. count_holds (λ (x : ℕ). x ≤ b.clock) (local_at m t).seen j i v (λ q. e) (h.kept t i))
    sizes_in (Fixes n v) e =
        record_in_lem _ (calculator_in m h _ (fixed_in n v m.clock (local_at m t).seen m.calculator c e h.calculator)) o _ (used_in (record_at m o) (h.records o) n e.there)
    sizes_in (Shares n) e = record_in_lem m h o _ (used_in (record_at m o) (h.records o) n e)

    exchange_in : (g : Target) → TargetIn b g.0 → MachineIn b (with_record o (exchanged_at g m.clock (record_at m o)) m)
    exchange_in g e = record_in_lem m h o _ (exchanged_in_lem (record_at m o) (h.records o) g m.clock e c)

    does_in : (d : Deed) → DeedIn b (local_at m t).seen d → MachineIn b (does d t o m)
    does_in Rests e = h
    does_in (Finds x) e = record_in_lem m h o _ (look_in (record_at m o) (h.records o) (record { read = m.clock; found = x }) (record { read = c; found = e }))
    does_in (Links n) e = content_in _ (exchange_in n.note.1 e.target) _ _ e
    does_in (Marks n d) e = content_in _ (exchange_in d.note.1 e.1.target) _ _ e
    does_in Unlinks e = content_in m h _ _ tt
    does_in (Updates d u) e = updates_in d u e
    does_in (Sizes d) e = sizes_in d e

  goes_on_in : (n : Next) (t : ThreadId) (o : OpId) (m : Machine) → NextIn b n → MachineIn b m → MachineIn b (goes_on n t o m)
  goes_on_in (To p) t o m e h = local_in_lem m h t _ e (h.kept t)
  goes_on_in (Returns a) t o m e h =
      local_in_lem _ (record_in_lem m h o _ (outcome_in_lem (record_at m o) (h.records o) _ (record { answer = λ q. e; given = λ q. e; raiser = (h.records o).outcome.raiser }))) t _ tt (h.kept t)

  -- a whole access, in bounds that have room for its step
  pub accessed_in : (m : Machine) (t : ThreadId) → more m.clock ≤ b.clock → m.calculator.current.0 ≤ b.current → t.0 < b.threads → NextIn b (move_of m t).next → DeedIn b (local_at m t).seen (move_of m t).deed
      → MachineIn b m → MachineIn b (accessed m t)
  unfolding accessed
  accessed_in m t c k tb n d h =
      let o = (local_at m t).op in
      goes_on_in (move_of m t).next t o _ n (does_in t o (ticked o m) (ticked_in o m h) c k tb (move_of m t).deed d)
