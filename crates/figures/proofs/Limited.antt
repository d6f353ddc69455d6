-- In every run within the limits every number is in range, and nothing wraps or is cut.
use Prim.Native.Nat.{ℕ, zero, suc, ◌+◌, ◌≤◌, ◌<◌}
use mathlib.Core.Path.{◌≡◌, refl, sym, ap, ◌∙◌, subst}
use mathlib.Core.Logic.{◌≢◌}
use mathlib.Core.Bool.{Bool, true, false, cond}
use mathlib.Core.List.{List, [], ◌∷◌, ◌++◌}
use native.Mathlib.Omega.{arith}
use native.Mathlib.Decide.{dec_lt}
use lib.ListN.{length, get_or, get_or-eq_default}
use Rattle.terms.specs.declared.ThreadId.{ThreadId}
use Rattle.terms.specs.declared.SnapshotId.{SnapshotId}
use Rattle.figures.specs.declared.Kind.{Kind}
use Rattle.figures.specs.declared.Kind.TheVariants.{Insertion, Deletion}
use Rattle.figures.specs.declared.Cell.{Cell}
use Rattle.figures.specs.declared.Trace.{Trace}
use Rattle.figures.specs.declared.Sight.{Sight}
use Rattle.figures.specs.declared.SizePoint.{SizePoint}
use Rattle.figures.specs.declared.SizePoint.TheVariants.{FindCurrent, FindFlag, Announce, CollectCount, CollectCell, CollectSet, LowerFlag, SumCell, FixSize}
use Rattle.figures.specs.declared.Content.TheVariants.{Empty}
use Rattle.figures.specs.declared.Slot.{Slot}
use Rattle.figures.specs.declared.Call.{Call}
use Rattle.figures.specs.declared.Call.TheVariants.{Insert, Delete, Contains, Size}
use Rattle.figures.specs.declared.Point.{Point}
use Rattle.figures.specs.declared.Point.TheVariants.{Idle, ReadSlot, Updating, CountInsertions, Link, HelpUnlink, CountDeletions, Mark, Unlink, Sizing}
use Rattle.figures.specs.declared.Local.{Local}
use Rattle.figures.specs.declared.Asked.{Asked}
use Rattle.figures.specs.declared.Outcome.{Outcome}
use Rattle.figures.specs.declared.Record.{Record}
use Rattle.figures.specs.declared.Machine.{Machine}
use Rattle.figures.specs.Limits.{invalid}
use Rattle.figures.specs.Figure4.{more, count_of, count_at, both, fresh_snapshot, fresh_trace, no_snapshot, no_trace, trace_at, new_id, sight_of}
use Rattle.figures.specs.Figure5.{size_looks_at, size_cell}
use Rattle.figures.specs.Figure3.{looks_at_cell, looks_at_snapshot}
use Rattle.figures.specs.Step.{no_slot, no_local, no_record, content_at, local_at, record_at, stands_at, move_of, accessed, idled, step_of, run_of}
use Rattle.figures.specs.Start.{start_of, locals_of, key_of, unbegun}
use Rattle.figures.specs.Counts.{Within, ops_before, is_announcement}
use Rattle.figures.specs.Ranges.{Bounds, bounds_of, InvalidOr, ContentIn, SnapshotIdIn, SizePointIn, PointIn, OutcomeIn, LookIn, ChangeIn, RecordIn, SumIn, SnapshotIn, TraceIn, MachineIn, Limited, Unwrapped, Sums}
use Rattle.figures.proofs.Laws.{replicate_holds, block_holds, more_is}
use Rattle.figures.proofs.Runs.{step_case}
use Rattle.figures.proofs.Shape.{Shape}
use Rattle.figures.proofs.Frame.{Moving, op_of, thread_of}
use Rattle.figures.proofs.Begin.{Owned, before_grows, before_next, start_point, start_records, start_record}
use Rattle.figures.proofs.Threads.{moved, op_small}
use Rattle.figures.proofs.Sound.{Sound, run_keeps_within, few_ops}
use Rattle.figures.proofs.Sizes.{Ranks, Announced, current_small, current_accessed, current_counts}
use Rattle.figures.proofs.Ranges.{Wider, machine_up, Sure, SightIn, next_in, deed_in, stands_in, accessed_in, clock_in, fresh_in, unread_in, fresh_trace_in}
use Rattle.figures.proofs.Counted.{Facts}
use Rattle.figures.proofs.World.{World, key, no_of}
use Rattle.figures.proofs.Inv.{Fixed, Summing, AtSize, Knows, Inv}
use Rattle.figures.proofs.Inv as Inv
use Rattle.figures.proofs.Mirror.{world_of, count_at_lem, cell_at_lem, seen_at}
use Rattle.figures.proofs.MirrorStart.{sum_of_lem, total_of_lem}
use Rattle.figures.proofs.Main.{Held, held_start, held_step}
use Rattle.figures.proofs.Sums.{Gathered, read_low, summed}

-- ---- What the invariants tell of an access of a size.

-- where thread t stands, and what its access can see
abbrev point_now : Machine → ThreadId → Point
point_now m t = stands_at (local_at m t).point (record_at m (local_at m t).op).asked.call

abbrev sight_now : Machine → ThreadId → Sight
sight_now m t = sight_of m.calculator (looks_at_snapshot (point_now m t)) (looks_at_cell t (point_now m t))

module _ {T n : ℕ} {m : Machine} {g : ℕ → ℕ → ℕ} (few : T ≤ 8) (shape : Shape m) (i : Inv T n m.clock (world_of m g)) (operations : ℕ)
    (keyed : (o : ℕ) → o < n → key (world_of m g) o < m.keys) (h : MachineIn (bounds_of operations m) m) (t : ThreadId) (tl : t.0 < T) where
  abbrev w : World
  w = world_of m g

  abbrev b : Bounds
  b = bounds_of operations m

  -- what it has read when it goes to fix a size is a sum
  sum_in : {o s : ℕ} → Summing T w t.0 o s (T + T) → SumIn b (local_at m t).seen
  sum_in {o} {s} k =
      let x : Gathered T w s (w.mine t.0) = record { known = k.using'.known; closed = k.closed; reads = k.reads; rest = k.rest } in
      let y = summed i.core few s (w.mine t.0) x m.keys keyed in
      let l = shape.seen t.0 (omega arith) in
      let a = sum_of_lem Insertion (local_at m t).seen l in
      let d = sum_of_lem Deletion (local_at m t).seen l in
      record { values = h.kept t; order = omega (arith, y.order); most = omega (arith, y.most) }

  size_sure : (o : ℕ) (p : SizePoint) → AtSize T w t.0 o p
      → Sure b (local_at m t).seen (sight_of m.calculator (size_looks_at p) (size_cell p)) (Sizing p)
  size_sure o FindCurrent k = tt
  size_sure o (FindFlag s) k = tt
  size_sure o (Announce s) k = tt
  size_sure o (CollectCount s j) k = tt
  size_sure o (CollectCell s j v) k = tt
  size_sure o (CollectSet s j v) k = tt
  size_sure o (LowerFlag s) k = tt
  size_sure o (SumCell s j) k = λ e. i.core.snaps.whole s.0 k.1.using'.known k.1.closed (no_of j) k.0 (cell_at_lem m g s j ∙ e)
  size_sure o (FixSize s) k = (k.using'.known.some, sum_in k)

  sure_at : (p : Point) (c : Call) (o : ℕ) → Knows T m.clock w t.0 o p
      → Sure b (local_at m t).seen (sight_of m.calculator (looks_at_snapshot (stands_at p c)) (looks_at_cell t (stands_at p c))) (stands_at p c)
  sure_at Idle Insert o k = tt
  sure_at Idle Delete o k = tt
  sure_at Idle Contains o k = tt
  sure_at Idle Size o k = tt
  sure_at ReadSlot c o k = tt
  sure_at (Updating p u a) c o k = tt
  sure_at CountInsertions c o k = tt
  sure_at (Link x) c o k = tt
  sure_at (HelpUnlink x d) c o k = tt
  sure_at (CountDeletions x) c o k = tt
  sure_at (Mark x d) c o k = tt
  sure_at (Unlink x d) c o k = tt
  sure_at (Sizing p) c o k = size_sure o p k.1

  sure_now : Sure b (local_at m t).seen (sight_now m t) (point_now m t)
  sure_now = sure_at (local_at m t).point (record_at m (local_at m t).op).asked.call (w.op t.0) (i.knows t.0 tl)

  sum_now : (s : SnapshotId) → (local_at m t).point ≡ Sizing (FixSize s) → SumIn b (local_at m t).seen
  sum_now s e = sum_in (subst (Knows T m.clock w t.0 (w.op t.0)) e (i.knows t.0 tl)).1

-- ---- A step.

module _ (counts : List ℕ) (few : ops_before counts 8 ≤ 64) (n : ℕ) (some : 1 ≤ n) (most : n ≤ 8) (s : List ℕ) (m : Machine)
    (d : Sound n counts s m) (r : Ranks counts m) (c : m.clock < 4096) (a : Announced counts m) (t : ThreadId) (tl : t.0 < n)
    (key : 0 < m.keys) (h : MachineIn (bounds_of (ops_before counts 8) m) m)
    (sure : Sure (bounds_of (ops_before counts 8) m) (local_at m t).seen (sight_now m t) (point_now m t)) where
  wider : (local_at m t).op.0 < (local_at m t).end.0 → Wider (bounds_of (ops_before counts 8) m) (bounds_of (ops_before counts 8) (accessed m t))
  wider l =
      let w = moved counts few m t d.shape c d.owners l in
      record {
        threads = w.threads;
        keys = w.keys;
        operations = refl;
        clock = omega (arith, w.clock);
        current = omega (arith, current_counts counts few n some most s m d r c a t l);
      }

  announces_in : is_announcement (move_of m t).deed ≡ true → (new_id m.calculator.current).0 ≤ (accessed m t).calculator.current.0
  announces_in e =
      let f : (accessed m t).calculator.current.0 ≡ (new_id m.calculator.current).0 =
      current_accessed m t ∙ ap (λ (x : Bool). cond x (new_id m.calculator.current).0 m.calculator.current.0) e in
      omega arith

  access_in : (local_at m t).op.0 < (local_at m t).end.0 → MachineIn (bounds_of (ops_before counts 8) (accessed m t)) (accessed m t)
  unfolding move_of
  access_in l =
      let o = (local_at m t).op in
      let x = (record_at m o).asked in
      let p = point_now m t in
      let b = bounds_of (ops_before counts 8) m in
      let b' = bounds_of (ops_before counts 8) (accessed m t) in
      let w = moved counts few m t d.shape c d.owners l in
      let sight = sight_now m t in
      let snapshot = h.calculator.snapshots (looks_at_snapshot p) in
      let j = looks_at_cell t p in
      let si : SightIn b sight =
      record { count = h.calculator.counters j; current = refl; cell = snapshot.cells j; size = snapshot.size } in
      let tb : t.0 < m.threads = omega (arith, d.threads) in
      let ob : o.0 < ops_before counts 8 =
      omega (arith, d.owners.ends t.0 (omega arith), before_grows counts (suc t.0) 8 (omega arith)) in
      let z : 0 < m.threads = omega arith in
      let later : suc m.clock ≤ (accessed m t).clock = omega (arith, w.clock) in
      let pin = stands_in b x.call (local_at m t).point (h.points t) in
      let next = next_in b b' (wider l) sight si key z (local_at m t).seen t o tb ob (content_at m x.key) (h.contents x.key)
      later (omega arith) x.call p pin sure announces_in in
      let deed = deed_in b b' (wider l) sight si key z (local_at m t).seen t o tb ob (content_at m x.key) (h.contents x.key)
      later (omega arith) x.call p pin sure in
      let q : more m.clock ≤ (accessed m t).clock = omega (arith, more_is m.clock (omega arith)) in
      accessed_in b' m t q (wider l).current (omega (arith, (wider l).threads)) next deed (machine_up b b' (wider l) m h)

  pub within_step : MachineIn (bounds_of (ops_before counts 8) (step_of m t)) (step_of m t)
  within_step =
      step_case (λ (m' : Machine). MachineIn (bounds_of (ops_before counts 8) m') m') m t access_in
      (λ l.
      let b = bounds_of (ops_before counts 8) m in
      let b' = bounds_of (ops_before counts 8) (idled m) in
      let clock = more_is m.clock (omega arith) in
      let w : Wider b b' = record { threads = refl; keys = refl; operations = refl; clock = omega arith; current = omega arith } in
      clock_in b' m (machine_up b b' w m h) (more m.clock) (more m.idle))

-- ---- The start.

none_in : (b : Bounds) → SnapshotIn b no_snapshot
none_in b = record { cells = λ j. go j.kind; size = λ e. omega arith }
  where
    go : (k : Kind) → InvalidOr b.clock (count_of k (both 0))
    go Insertion e = omega arith
    go Deletion e = omega arith

none_read_in : (b : Bounds) → SumIn b []
none_read_in b = record { values = λ j. go j.kind; order = omega arith; most = omega arith }
  where
    go : (k : Kind) → count_of k (both 0) ≤ b.clock
    go Insertion = omega arith
    go Deletion = omega arith

none_trace_in : (b : Bounds) → TraceIn b no_trace
none_trace_in b = record { announced = omega arith; closed = omega arith; fixed = omega arith; seen = none_read_in b }

none_kept_in : (b : Bounds) (first : ℕ) (counts : List ℕ) (t : ℕ) (j : Cell)
    → count_at (get_or (locals_of first counts) t no_local).seen j ≤ b.clock
unfolding locals_of
none_kept_in b first [] t j = (none_read_in b).values j
none_kept_in b first (x ∷ counts) zero j = (unread_in b).values j
none_kept_in b first (x ∷ counts) (suc t) j = none_kept_in b (first + x) counts t j

within_start : (threads keys : ℕ) (counts ops : List ℕ) (b : Bounds) → 0 < b.threads → MachineIn b (start_of threads keys counts ops)
within_start threads keys counts ops b some =
    record {
      calculator =
          unfold start_of in
          record {
            counters = λ j. block_holds (λ (x : ℕ). x ≤ b.clock) 0 j (omega arith) (omega arith);
            snapshots = λ n. replicate_holds (SnapshotIn b) 65 n.0 (fresh_snapshot false) no_snapshot (fresh_in b false) (none_in b);
            traces = λ n. replicate_holds (TraceIn b) 65 n.0 (fresh_trace 0) no_trace (fresh_trace_in b 0 (omega arith)) (none_trace_in b);
            fixed = λ n.
                replicate_holds (λ (x : Trace). 0 < x.fixed → (1 ≤ n.0) × SnapshotIdIn b n) 65 n.0 (fresh_trace 0) no_trace
                (λ e. absurd (omega arith)) (λ e. absurd (omega arith));
          };
      contents = λ k. unfold start_of in replicate_holds (λ (x : Slot). ContentIn b x.content) 16 k no_slot no_slot tt tt;
      points = λ t. subst (PointIn b) (sym (start_point threads keys counts ops t.0)) tt;
      kept = λ t j. unfold start_of in none_kept_in b 0 counts t.0 j;
      records = λ o. start_records threads keys counts ops (RecordIn b) fresh fresh' o.0;
    }
  where
    untold : (x : Outcome) → x.last ≡ 0 → InvalidOr b.keys x.answer → (x.raiser ≢ invalid → x.raiser < b.threads) → OutcomeIn b x
    untold x e f g = record { answer = f; given = λ l. absurd (omega arith); raiser = g }

    unlooked : LookIn b (record { read = 0; found = Empty })
    unlooked = record { read = omega arith; found = tt }

    unchanged : ChangeIn b no_record.change
    unchanged = record { target = omega arith; exchanged = omega arith; raised = omega arith; window = omega arith }

    fresh : RecordIn b no_record
    fresh = record { outcome = untold no_record.outcome refl (λ e. omega arith) (λ e. some); look = unlooked; change = unchanged; used = omega arith }

    fresh' : (u x : ℕ) → RecordIn b (unbegun u x)
    fresh' u x =
        let y = untold (unbegun u x).outcome refl (λ e. absurd (e refl)) (λ e. absurd (e refl)) in
        record { outcome = y; look = unlooked; change = unchanged; used = omega arith }

-- ---- Every run.

module _ (threads keys : ℕ) (counts ops : List ℕ) (schedule : List ℕ) (w : Within threads keys counts ops schedule) where
  abbrev start : Machine
  start = start_of threads keys counts ops

  record Known (s : List ℕ) (m : Machine) : Type 0 where
    held : Held threads keys counts ops schedule w s m
    keys' : m.keys ≡ keys
    within : MachineIn (bounds_of (ops_before counts 8) m) m

  -- every operation's key is one of the keys
  key_small : (s : List ℕ) (m : Machine) → Facts start counts s m → (o : ℕ) → o < length ops
      → (record_at m (record { 0 = o })).asked.key < keys
  key_small s m f o l =
      let e = f.asked o ∙ ap (λ (r : Record). r.asked) (start_record counts threads keys ops o w.at_most_operations l) in
      let k : (record_at m (record { 0 = o })).asked.key ≡ key_of (get_or ops o 0) = ap (λ (x : Asked). x.key) e in
      omega (arith, w.keyed o l)

  known_step : (s : List ℕ) (t : ℕ) (m : Machine) → m ≡ run_of start s → length s < 4096 → t < threads → Sound threads counts s m
      → Known s m → Known (s ++ t ∷ []) (step_of m (record { 0 = t }))
  known_step s t m e l tl d k =
      let few = few_ops threads keys counts ops schedule w in
      let c : m.clock < 4096 = omega (arith, d.clock) in
      let f = k.held.facts in
      let sure = sure_now w.at_most_threads d.shape k.held.inv (ops_before counts 8)
      (λ o q. omega (arith, key_small s m f o q, k.keys')) k.within (record { 0 = t }) tl in
      record {
        held = held_step threads keys counts ops schedule w s t m e l tl d k.held;
        keys' =
            step_case (λ (x : Machine). x.keys ≡ keys) m (record { 0 = t })
            (λ h. (moved counts few m (record { 0 = t }) d.shape c d.owners h).keys ∙ k.keys') (λ h. k.keys');
        within =
            within_step counts few threads w.some_threads w.at_most_threads s m d f.ranks c f.announced (record { 0 = t }) tl
            (omega (arith, k.keys', w.some_keys)) k.within sure;
      }

  known_run : Sound threads counts schedule (run_of start schedule) × Known schedule (run_of start schedule)
  known_run =
      run_keeps_within threads keys counts ops schedule w Known known_step
      (record {
        held = held_start threads keys counts ops schedule w;
        keys' = unfold start_of in refl;
        within = within_start threads keys counts ops _ (unfold start_of in w.some_threads);
      })

  -- an operation's thread is one of the threads
  pub owned_small : (t o : ℕ) → Owned counts t o → t < threads
  owned_small t o h = go (dec_lt t threads)
    where
      go : Dec (t < threads) → t < threads
      go (yes l) = l
      go (no k) = absurd (omega (arith, before_next counts t, w.absent t (omega arith), h.from, h.below))

  -- a thread that stands at a point of compute is one of the threads
  sizing_small : (t : ThreadId) (p : SizePoint) → (local_at (run_of start schedule) t).point ≡ Sizing p → t.0 < threads
  sizing_small t p e = go (dec_lt t.0 8)
    where
      go : Dec (t.0 < 8) → t.0 < threads
      go (yes l) =
          let o = known_run.0.owners in
          let b = o.begun t.0 l (subst Moving (sym e) tt) in
          owned_small t.0 (op_of (run_of start schedule) t.0)
          (record { thread = l; from = o.from t.0 l; below = omega (arith, b.0, o.ends t.0 l) })
      go (no l) =
          let x = get_or-eq_default (run_of start schedule).locals no_local {n = t.0} (omega (arith, known_run.0.shape.locals)) in
          let y : Idle ≡ Sizing p = sym (ap (λ (z : Local). z.point) x) ∙ e in
          let z : ◌≡◌ {A = ℕ} 0 1 = cc in
          absurd (omega arith)

  -- a fixed snapshot was announced, and has what its winner read
  module _ (n : SnapshotId) (e : 0 < (trace_at (run_of start schedule).calculator n).fixed) where
    abbrev ended : World
    ended = world_of (run_of start schedule) known_run.1.held.held

    announced_by : Inv.Known ended n.0
    announced_by = let x = known_run.1.within.calculator.fixed n e in record { some = x.0; there = x.1 }

    fixed_by : Fixed threads ended n.0
    fixed_by = let k = known_run.1.held.inv.core.snaps in k.fixed n.0 announced_by (k.valid n.0 announced_by e)

    gathered_by : Gathered threads ended n.0 (ended.seen n.0)
    gathered_by = record { known = announced_by; closed = fixed_by.closed; reads = fixed_by.reads; rest = fixed_by.rest }

  pub limited_run : Limited keys (length ops) (run_of (start_of threads keys counts ops) schedule)
  limited_run =
      let m = run_of (start_of threads keys counts ops) schedule in
      let d = known_run.0 in
      let k = known_run.1 in
      let f = k.held.facts in
      let few = few_ops threads keys counts ops schedule w in
      let within : MachineIn (bounds_of (length ops) m) m = subst (λ (n : ℕ). MachineIn (bounds_of n m) m) w.operations k.within in
      record {
        threads = omega (arith, d.threads, w.at_most_threads);
        same_keys = k.keys';
        at_most_keys = w.at_most_keys;
        clock = omega (arith, d.clock, w.at_most_steps);
        idle = d.owners.idles;
        own = λ o. d.owners.spent o.0;
        first = λ o. d.owners.first_past o.0;
        last = λ o. d.owners.last_past o.0;
        current = omega (arith, current_small counts m f.announced);
        next = λ t tl. op_small counts few m t.0 tl d.owners;
        end = λ t tl. omega (arith, d.owners.ends t.0 tl, before_grows counts (suc t.0) 8 (omega arith), w.operations);
        asked = λ o ol.
            let t = owned_small (thread_of m o.0) o.0 (d.owners.whose o.0 (omega (arith, w.operations))) in
            (omega (arith, d.threads), key_small schedule m f o.0 ol);
        within = within;
        sum = λ t n e.
            sum_now w.at_most_threads d.shape k.held.inv (length ops) (λ o q. omega (arith, key_small schedule m f o q, k.keys'))
            within t (sizing_small t (FixSize n) e) n e;
        fixed = λ n e.
            let l : n.0 < 65 = omega (arith, (announced_by n e).there, current_small counts m f.announced) in
            (fixed_by n e).sum ∙ sym (total_of_lem (trace_at m.calculator n).seen (d.shape.calculator.seen n.0 l));
      }

  pub sums_run : Sums keys (run_of (start_of threads keys counts ops) schedule)
  sums_run =
      let m = run_of start schedule in
      let h = limited_run in
      let k = known_run.1 in
      let sum : (n : SnapshotId) → SumIn (bounds_of (length ops) m) (trace_at m.calculator n).seen =
      λ n. (h.within.calculator.traces n).seen in
      record {
        order = λ n e. (sum n).order;
        exact = λ n e. omega (arith, h.fixed n e, (sum n).order, (sum n).most, h.same_keys, h.at_most_keys);
        reads = λ n e j.
            let g = k.held.held in
            let r = read_low k.held.inv.core w.at_most_threads n.0 ((ended n e).seen n.0) (gathered_by n e) (no_of j) in
            omega (arith, seen_at m g n j, count_at_lem m g j);
        sizes = λ n e. omega (arith, h.fixed n e, (sum n).most, h.same_keys);
        answers = λ o e. omega (arith, (h.within.records o).outcome.given e, h.same_keys);
      }

cell_small : (b : Bounds) (p : SizePoint) → b.threads ≤ 8 → SizePointIn b p → (size_cell p).thread.0 ≤ 8
cell_small b FindCurrent l h = omega arith
cell_small b (FindFlag n) l h = omega arith
cell_small b (Announce n) l h = omega arith
cell_small b (CollectCount n j) l h = omega (arith, h.1)
cell_small b (CollectCell n j v) l h = omega (arith, h.1)
cell_small b (CollectSet n j v) l h = omega (arith, h.1)
cell_small b (LowerFlag n) l h = omega arith
cell_small b (SumCell n j) l h = omega (arith, h.1)
cell_small b (FixSize n) l h = omega arith

-- a state whose numbers are in range counts without wrapping
pub unwrapped : (keys operations : ℕ) (m : Machine) → Limited keys operations m → Unwrapped m
unwrapped keys operations m h =
    record {
      clock = omega (arith, h.clock);
      idle = omega (arith, h.idle, h.clock);
      own = λ o. omega (arith, h.own o, h.clock);
      target = λ j. omega (arith, h.within.calculator.counters j, h.clock);
      snapshot = omega (arith, h.current);
      operation = λ t tl. omega (arith, h.next t tl);
      cell = λ t p e.
          let k : PointIn (bounds_of operations m) (Sizing p) = subst (PointIn (bounds_of operations m)) e (h.within.points t) in
          omega (arith, cell_small (bounds_of operations m) p h.threads k);
      before = λ t p u a e.
          let k : PointIn (bounds_of operations m) (Updating p u a) = subst (PointIn (bounds_of operations m)) e (h.within.points t) in
          omega (arith, k.1.target.some);
      sum = λ t n e. let k = h.sum t n e in omega (arith, k.order, k.most, h.same_keys, h.at_most_keys);
    }
