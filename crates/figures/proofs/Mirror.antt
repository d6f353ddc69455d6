-- The machine's state as the proofs' `World`: every part of a step does to the one what it does to the other.
use Prim.Native.Nat.{ℕ, suc, ◌+◌, ◌/◌, ◌%◌, ◌<◌}
use mathlib.Core.Path.{◌≡◌, refl, sym, ap, ◌∙◌, subst, fun_ext}
use mathlib.Core.Bool.{Bool, true, false, cond}
use mathlib.Core.List.{List}
use native.Mathlib.Omega.{arith}
use native.Mathlib.Decide.{dec_lt}
use lib.ListN.{length, get_or, set, length-replicate, get_or-replicate, get_or-eq_default}
use lib.Dec.{eqb, ltb}
use borrow.Author.Tests.{lt-ltb, le-ltb}
use Rattle.terms.specs.declared.ThreadId.{ThreadId}
use Rattle.terms.specs.declared.OpId.{OpId}
use Rattle.terms.specs.declared.SnapshotId.{SnapshotId}
use Rattle.terms.specs.declared.Target.{Target}
use Rattle.figures.specs.declared.Kind.{Kind}
use Rattle.figures.specs.declared.Kind.TheVariants.{Insertion, Deletion}
use Rattle.figures.specs.declared.Cell.{Cell}
use Rattle.figures.specs.declared.Counts.{Counts}
use Rattle.figures.specs.declared.Snapshot.{Snapshot}
use Rattle.figures.specs.declared.Trace.{Trace}
use Rattle.figures.specs.declared.UpdateDeed.{UpdateDeed}
use Rattle.figures.specs.declared.UpdateDeed.TheVariants.{Reads, Raises, Forwards}
use Rattle.figures.specs.declared.SizeDeed.{SizeDeed}
use Rattle.figures.specs.declared.SizeDeed.TheVariants.{Looks, Announces, Collects, Lowers, Keeps, Fixes, Shares}
use Rattle.figures.specs.declared.Content.{Content}
use Rattle.figures.specs.declared.Content.TheVariants.{Empty, Live, Marked}
use Rattle.figures.specs.declared.Slot.{Slot}
use Rattle.figures.specs.declared.Update.{Update}
use Rattle.figures.specs.declared.Point.{Point}
use Rattle.figures.specs.declared.Point.TheVariants.{Idle}
use Rattle.figures.specs.declared.Deed.{Deed}
use Rattle.figures.specs.declared.Deed.TheVariants.{Rests, Finds, Links, Marks, Unlinks, Updates, Sizes}
use Rattle.figures.specs.declared.Next.{Next}
use Rattle.figures.specs.declared.Next.TheVariants.{To, Returns}
use Rattle.figures.specs.declared.Local.{Local}
use Rattle.figures.specs.declared.Outcome.{Outcome}
use Rattle.figures.specs.declared.Record.{Record}
use Rattle.figures.specs.declared.Machine.{Machine}
use Rattle.figures.specs.Limits.{invalid}
use Rattle.figures.specs.Figure4.{more, count_of, both, count_at, set_count, block_of, no_snapshot, no_trace, snapshot_at, trace_at, with_snapshot, with_trace, fresh_snapshot, fresh_trace, raised, written, announced, lowered, fixed, window_of, new_id}
use Rattle.figures.specs.Figure3.{cell_of}
use Rattle.figures.specs.Step.{no_local, no_record, no_slot, local_at, record_at, with_content, with_local, with_record, with_clock, does, goes_on, ticked, idled, rewritten, calculated, counted, answered, exchanged_at, raised_at, with_look, with_used, with_seen, standing, finished, sizes, accessed, move_of}
use Rattle.figures.proofs.Laws.{set_case, set_field, count_case, cell_path, eq_case, cond_map, cond_both, more_is, more_byte_is}
use Rattle.figures.proofs.Shape.{Shape, shape_ticked, shape_does}
use Rattle.figures.proofs.World.{World, put, put_same, put_other, put_case, cell_no, no_of, fresh, update_cell, update_target, key, tick, find, exchange, raise, write, announce, lower, keep, fix, share, stand, return, update, act, onward}

-- ---- Cells by number.

unfoldable pub cell_at : ℕ → Cell
cell_at q = record { thread = record { 0 = q / 2 }; kind = cond (eqb (q % 2) 0) Insertion Deletion }

pub no_at : (q : ℕ) → no_of (cell_at q) ≡ q
unfolding cell_at
no_at q = eq_case (λ (k : Kind). cell_no (q / 2) k ≡ q) (q % 2) 0 Insertion Deletion (λ e. omega arith) (λ n. omega arith)

pub at_no : (j : Cell) → cell_at (no_of j) ≡ j
unfolding cell_at
at_no j = go j.kind j.thread.0
  where
    go : (k : Kind) (t : ℕ) → cell_at (cell_no t k) ≡ record { thread = record { 0 = t }; kind = k }
    go Insertion t =
        cell_path (omega arith) (eq_case (λ (k : Kind). k ≡ Insertion) ((t + t + 0) % 2) 0 Insertion Deletion (λ e. refl) (λ n. absurd (n (omega arith))))
    go Deletion t =
        cell_path (omega arith) (eq_case (λ (k : Kind). k ≡ Deletion) ((t + t + 1) % 2) 0 Insertion Deletion (λ e. absurd (omega arith)) (λ n. refl))

-- ---- The state.

-- a block by cell number
abbrev pub block : List Counts → ℕ → ℕ
block b q = count_at b (cell_at q)

abbrev pub world_of : Machine → (ℕ → ℕ → ℕ) → World
world_of m g =
    record {
      clock = m.clock;
      asked = λ o. (get_or m.records o no_record).asked;
      first = λ o. (get_or m.records o no_record).outcome.first;
      last = λ o. (get_or m.records o no_record).outcome.last;
      answer = λ o. (get_or m.records o no_record).outcome.answer;
      read = λ o. (get_or m.records o no_record).look.read;
      found = λ o. (get_or m.records o no_record).look.found;
      exch = λ o. (get_or m.records o no_record).change.exchanged;
      target = λ o. (get_or m.records o no_record).change.target.0;
      raised = λ o. (get_or m.records o no_record).change.raised;
      window = λ o. (get_or m.records o no_record).change.window.0;
      used = λ o. (get_or m.records o no_record).snapshot.0;
      op = λ t. (get_or m.locals t no_local).op.0;
      point = λ t. (get_or m.locals t no_local).point;
      mine = λ t. block (get_or m.locals t no_local).seen;
      count = block m.calculator.counters;
      cur = m.calculator.current.0;
      flag = λ s. (get_or m.calculator.snapshots s no_snapshot).collecting;
      size = λ s. (get_or m.calculator.snapshots s no_snapshot).size;
      ann = λ s. (get_or m.calculator.traces s no_trace).announced;
      closed = λ s. (get_or m.calculator.traces s no_trace).closed;
      fixed = λ s. (get_or m.calculator.traces s no_trace).fixed;
      cell = λ s. block (get_or m.calculator.snapshots s no_snapshot).cells;
      seen = λ s. block (get_or m.calculator.traces s no_trace).seen;
      held = g;
      content = λ k. (get_or m.slots k no_slot).content;
    }

pub block_at : (b : List Counts) (j : Cell) → block b (no_of j) ≡ count_at b j
block_at b j = ap (count_at b) (at_no j)

module _ (m : Machine) (g : ℕ → ℕ → ℕ) where
  pub count_at_lem : (j : Cell) → (world_of m g).count (no_of j) ≡ count_at m.calculator.counters j
  count_at_lem j = block_at m.calculator.counters j

  pub cell_at_lem : (s : SnapshotId) (j : Cell) → (world_of m g).cell s.0 (no_of j) ≡ count_at (snapshot_at m.calculator s).cells j
  cell_at_lem s j = block_at (snapshot_at m.calculator s).cells j

  pub seen_at : (s : SnapshotId) (j : Cell) → (world_of m g).seen s.0 (no_of j) ≡ count_at (trace_at m.calculator s).seen j
  seen_at s j = block_at (trace_at m.calculator s).seen j

  pub mine_at : (t : ThreadId) (j : Cell) → (world_of m g).mine t.0 (no_of j) ≡ count_at (local_at m t).seen j
  mine_at t j = block_at (local_at m t).seen j

  pub count_thread : (t : ThreadId) (k : Kind) → (world_of m g).count (cell_no t.0 k) ≡ count_at m.calculator.counters (record { thread = t; kind = k })
  count_thread t k = count_at_lem (record { thread = t; kind = k })

  pub count_update : (u : Update) → (world_of m g).count (update_cell u) ≡ count_at m.calculator.counters (cell_of u)
  count_update u = count_at_lem (cell_of u)

  pub cell_update : (s : SnapshotId) (u : Update) → (world_of m g).cell s.0 (update_cell u) ≡ count_at (snapshot_at m.calculator s).cells (cell_of u)
  cell_update s u = cell_at_lem s (cell_of u)

-- ---- A list after a write, as a function.

-- a write of what is there
put_none : {A : Type 0} (f : ℕ → A) (i : ℕ) (a : A) → a ≡ f i → put f i a ≡ f
put_none f i a e = fun_ext (λ j. put_case (λ x. x ≡ f j) f i a j (λ q. rw q e) (λ n. refl))

module _ {A B : Type 0} (f : A → B) (l : List A) (i : ℕ) (a d : A) where
  set_put : i < length l → (λ j. f (get_or (set l i a) j d)) ≡ put (λ j. f (get_or l j d)) i (f a)
  set_put h =
      fun_ext (λ j. set_case (λ x. f x ≡ put (λ k. f (get_or l k d)) i (f a) j) l i j a d h
      (λ e. rw e (sym (put_same (λ k. f (get_or l k d)) i (f a)))) (λ n. sym (put_other (λ k. f (get_or l k d)) i (f a) j n)))

block_put : (b : List Counts) (j : Cell) (v : ℕ) → j.thread.0 < length b → block (set_count b j v) ≡ put (block b) (no_of j) v
block_put b j v h =
    fun_ext (λ q. count_case (λ x. x ≡ put (block b) (no_of j) v q) b j (cell_at q) v h
    (λ e. let p : q ≡ no_of j = sym (no_at q) ∙ ap no_of e in rw p (sym (put_same (block b) (no_of j) v)))
    (λ n. sym (put_other (block b) (no_of j) v q (λ p. n (ap cell_at p ∙ at_no j)))))

both_is : (k : Kind) (n : ℕ) → count_of k (both n) ≡ n
both_is Insertion n = refl
both_is Deletion n = refl

block_new : (n q : ℕ) → block (block_of n) q ≡ cond (ltb q 16) n 0
unfolding cell_at
block_new n q = go (dec_lt q 16)
  where
    go : Dec (q < 16) → block (block_of n) q ≡ cond (ltb q 16) n 0
    go (yes h) =
        ap (count_of (cell_at q).kind) (get_or-replicate 8 (q / 2) (both n) (both 0) (omega arith)) ∙ both_is (cell_at q).kind n ∙ rw (lt-ltb q 16 h)
    go (no h) =
        ap (count_of (cell_at q).kind) (get_or-eq_default (block_of n) (both 0) {n = q / 2} (omega (arith, length-replicate 8 (both n))))
        ∙ both_is (cell_at q).kind 0 ∙ rw (le-ltb q 16 (omega arith))

pub block_zero : ◌≡◌ {A = ℕ → ℕ} (block (block_of 0)) (λ q. 0)
block_zero = fun_ext (λ q. block_new 0 q ∙ cond_both (λ x. x ≡ 0) (ltb q 16) 0 0 refl refl)

block_fresh : ◌≡◌ {A = ℕ → ℕ} (block (block_of invalid)) (λ q. fresh q)
block_fresh = fun_ext (block_new invalid)

-- ---- What the machine's writes are in the world.

abbrev put_record : ℕ → Record → World → World
put_record o r w = record { clock = w.clock; asked = put w.asked o r.asked; first = put w.first o r.outcome.first; last = put w.last o r.outcome.last; answer = put w.answer o r.outcome.answer; read = put w.read o r.look.read; found = put w.found o r.look.found; exch = put w.exch o r.change.exchanged; target = put w.target o r.change.target.0; raised = put w.raised o r.change.raised; window = put w.window o r.change.window.0; used = put w.used o r.snapshot.0; op = w.op; point = w.point; mine = w.mine; count = w.count; cur = w.cur; flag = w.flag; size = w.size; ann = w.ann; closed = w.closed; fixed = w.fixed; cell = w.cell; seen = w.seen; held = w.held; content = w.content }

world_record : (m : Machine) (g : ℕ → ℕ → ℕ) (o : OpId) (r : Record) → o.0 < length m.records → world_of (with_record o r m) g ≡ put_record o.0 r (world_of m g)
world_record m g o r h = λ i. record { clock = (world_of m g).clock; asked = set_put (λ (x : Record). x.asked) m.records o.0 r no_record h i; first = set_put (λ (x : Record). x.outcome.first) m.records o.0 r no_record h i; last = set_put (λ (x : Record). x.outcome.last) m.records o.0 r no_record h i; answer = set_put (λ (x : Record). x.outcome.answer) m.records o.0 r no_record h i; read = set_put (λ (x : Record). x.look.read) m.records o.0 r no_record h i; found = set_put (λ (x : Record). x.look.found) m.records o.0 r no_record h i; exch = set_put (λ (x : Record). x.change.exchanged) m.records o.0 r no_record h i; target = set_put (λ (x : Record). x.change.target.0) m.records o.0 r no_record h i; raised = set_put (λ (x : Record). x.change.raised) m.records o.0 r no_record h i; window = set_put (λ (x : Record). x.change.window.0) m.records o.0 r no_record h i; used = set_put (λ (x : Record). x.snapshot.0) m.records o.0 r no_record h i; op = (world_of m g).op; point = (world_of m g).point; mine = (world_of m g).mine; count = (world_of m g).count; cur = (world_of m g).cur; flag = (world_of m g).flag; size = (world_of m g).size; ann = (world_of m g).ann; closed = (world_of m g).closed; fixed = (world_of m g).fixed; cell = (world_of m g).cell; seen = (world_of m g).seen; held = (world_of m g).held; content = (world_of m g).content }

abbrev put_local : ℕ → ℕ → Point → (ℕ → ℕ) → World → World
put_local t op' point' mine' w = record { clock = w.clock; asked = w.asked; first = w.first; last = w.last; answer = w.answer; read = w.read; found = w.found; exch = w.exch; target = w.target; raised = w.raised; window = w.window; used = w.used; op = put w.op t op'; point = put w.point t point'; mine = put w.mine t mine'; count = w.count; cur = w.cur; flag = w.flag; size = w.size; ann = w.ann; closed = w.closed; fixed = w.fixed; cell = w.cell; seen = w.seen; held = w.held; content = w.content }

world_local : (m : Machine) (g : ℕ → ℕ → ℕ) (t : ThreadId) (r : Local) → t.0 < length m.locals → world_of (with_local t r m) g ≡ put_local t.0 r.op.0 r.point (block r.seen) (world_of m g)
world_local m g t r h = λ i. record { clock = (world_of m g).clock; asked = (world_of m g).asked; first = (world_of m g).first; last = (world_of m g).last; answer = (world_of m g).answer; read = (world_of m g).read; found = (world_of m g).found; exch = (world_of m g).exch; target = (world_of m g).target; raised = (world_of m g).raised; window = (world_of m g).window; used = (world_of m g).used; op = set_put (λ (x : Local). x.op.0) m.locals t.0 r no_local h i; point = set_put (λ (x : Local). x.point) m.locals t.0 r no_local h i; mine = set_put (λ (x : Local). block x.seen) m.locals t.0 r no_local h i; count = (world_of m g).count; cur = (world_of m g).cur; flag = (world_of m g).flag; size = (world_of m g).size; ann = (world_of m g).ann; closed = (world_of m g).closed; fixed = (world_of m g).fixed; cell = (world_of m g).cell; seen = (world_of m g).seen; held = (world_of m g).held; content = (world_of m g).content }

abbrev put_snapshot : ℕ → Bool → ℕ → (ℕ → ℕ) → World → World
put_snapshot n flag' size' cell' w = record { clock = w.clock; asked = w.asked; first = w.first; last = w.last; answer = w.answer; read = w.read; found = w.found; exch = w.exch; target = w.target; raised = w.raised; window = w.window; used = w.used; op = w.op; point = w.point; mine = w.mine; count = w.count; cur = w.cur; flag = put w.flag n flag'; size = put w.size n size'; ann = w.ann; closed = w.closed; fixed = w.fixed; cell = put w.cell n cell'; seen = w.seen; held = w.held; content = w.content }

world_snapshot : (m : Machine) (g : ℕ → ℕ → ℕ) (n : SnapshotId) (r : Snapshot) → n.0 < length m.calculator.snapshots → world_of (calculated (with_snapshot n r) m) g ≡ put_snapshot n.0 r.collecting r.size (block r.cells) (world_of m g)
world_snapshot m g n r h = λ i. record { clock = (world_of m g).clock; asked = (world_of m g).asked; first = (world_of m g).first; last = (world_of m g).last; answer = (world_of m g).answer; read = (world_of m g).read; found = (world_of m g).found; exch = (world_of m g).exch; target = (world_of m g).target; raised = (world_of m g).raised; window = (world_of m g).window; used = (world_of m g).used; op = (world_of m g).op; point = (world_of m g).point; mine = (world_of m g).mine; count = (world_of m g).count; cur = (world_of m g).cur; flag = set_put (λ (x : Snapshot). x.collecting) m.calculator.snapshots n.0 r no_snapshot h i; size = set_put (λ (x : Snapshot). x.size) m.calculator.snapshots n.0 r no_snapshot h i; ann = (world_of m g).ann; closed = (world_of m g).closed; fixed = (world_of m g).fixed; cell = set_put (λ (x : Snapshot). block x.cells) m.calculator.snapshots n.0 r no_snapshot h i; seen = (world_of m g).seen; held = (world_of m g).held; content = (world_of m g).content }

abbrev put_trace : ℕ → ℕ → ℕ → ℕ → (ℕ → ℕ) → World → World
put_trace n ann' closed' fixed' seen' w = record { clock = w.clock; asked = w.asked; first = w.first; last = w.last; answer = w.answer; read = w.read; found = w.found; exch = w.exch; target = w.target; raised = w.raised; window = w.window; used = w.used; op = w.op; point = w.point; mine = w.mine; count = w.count; cur = w.cur; flag = w.flag; size = w.size; ann = put w.ann n ann'; closed = put w.closed n closed'; fixed = put w.fixed n fixed'; cell = w.cell; seen = put w.seen n seen'; held = w.held; content = w.content }

world_trace : (m : Machine) (g : ℕ → ℕ → ℕ) (n : SnapshotId) (r : Trace) → n.0 < length m.calculator.traces → world_of (calculated (with_trace n r) m) g ≡ put_trace n.0 r.announced r.closed r.fixed (block r.seen) (world_of m g)
world_trace m g n r h = λ i. record { clock = (world_of m g).clock; asked = (world_of m g).asked; first = (world_of m g).first; last = (world_of m g).last; answer = (world_of m g).answer; read = (world_of m g).read; found = (world_of m g).found; exch = (world_of m g).exch; target = (world_of m g).target; raised = (world_of m g).raised; window = (world_of m g).window; used = (world_of m g).used; op = (world_of m g).op; point = (world_of m g).point; mine = (world_of m g).mine; count = (world_of m g).count; cur = (world_of m g).cur; flag = (world_of m g).flag; size = (world_of m g).size; ann = set_put (λ (x : Trace). x.announced) m.calculator.traces n.0 r no_trace h i; closed = set_put (λ (x : Trace). x.closed) m.calculator.traces n.0 r no_trace h i; fixed = set_put (λ (x : Trace). x.fixed) m.calculator.traces n.0 r no_trace h i; cell = (world_of m g).cell; seen = set_put (λ (x : Trace). block x.seen) m.calculator.traces n.0 r no_trace h i; held = (world_of m g).held; content = (world_of m g).content }

abbrev put_content : ℕ → Content → World → World
put_content k content' w = record { clock = w.clock; asked = w.asked; first = w.first; last = w.last; answer = w.answer; read = w.read; found = w.found; exch = w.exch; target = w.target; raised = w.raised; window = w.window; used = w.used; op = w.op; point = w.point; mine = w.mine; count = w.count; cur = w.cur; flag = w.flag; size = w.size; ann = w.ann; closed = w.closed; fixed = w.fixed; cell = w.cell; seen = w.seen; held = w.held; content = put w.content k content' }

world_content : (m : Machine) (g : ℕ → ℕ → ℕ) (k : ℕ) (c : Content) → k < length m.slots → world_of (with_content k c m) g ≡ put_content k c (world_of m g)
world_content m g k c h = λ i. record { clock = (world_of m g).clock; asked = (world_of m g).asked; first = (world_of m g).first; last = (world_of m g).last; answer = (world_of m g).answer; read = (world_of m g).read; found = (world_of m g).found; exch = (world_of m g).exch; target = (world_of m g).target; raised = (world_of m g).raised; window = (world_of m g).window; used = (world_of m g).used; op = (world_of m g).op; point = (world_of m g).point; mine = (world_of m g).mine; count = (world_of m g).count; cur = (world_of m g).cur; flag = (world_of m g).flag; size = (world_of m g).size; ann = (world_of m g).ann; closed = (world_of m g).closed; fixed = (world_of m g).fixed; cell = (world_of m g).cell; seen = (world_of m g).seen; held = (world_of m g).held; content = set_put (λ (x : Slot). x.content) m.slots k (record { content = c }) no_slot h i }

abbrev put_count : ℕ → ℕ → World → World
put_count q count' w = record { clock = w.clock; asked = w.asked; first = w.first; last = w.last; answer = w.answer; read = w.read; found = w.found; exch = w.exch; target = w.target; raised = w.raised; window = w.window; used = w.used; op = w.op; point = w.point; mine = w.mine; count = put w.count q count'; cur = w.cur; flag = w.flag; size = w.size; ann = w.ann; closed = w.closed; fixed = w.fixed; cell = w.cell; seen = w.seen; held = w.held; content = w.content }

world_count : (m : Machine) (g : ℕ → ℕ → ℕ) (j : Cell) (v : ℕ) → j.thread.0 < length m.calculator.counters → world_of (calculated (raised j v) m) g ≡ put_count (no_of j) v (world_of m g)
world_count m g j v h = λ i. record { clock = (world_of m g).clock; asked = (world_of m g).asked; first = (world_of m g).first; last = (world_of m g).last; answer = (world_of m g).answer; read = (world_of m g).read; found = (world_of m g).found; exch = (world_of m g).exch; target = (world_of m g).target; raised = (world_of m g).raised; window = (world_of m g).window; used = (world_of m g).used; op = (world_of m g).op; point = (world_of m g).point; mine = (world_of m g).mine; count = block_put m.calculator.counters j v h i; cur = (world_of m g).cur; flag = (world_of m g).flag; size = (world_of m g).size; ann = (world_of m g).ann; closed = (world_of m g).closed; fixed = (world_of m g).fixed; cell = (world_of m g).cell; seen = (world_of m g).seen; held = (world_of m g).held; content = (world_of m g).content }

abbrev with_current : ℕ → World → World
with_current n w = record { clock = w.clock; asked = w.asked; first = w.first; last = w.last; answer = w.answer; read = w.read; found = w.found; exch = w.exch; target = w.target; raised = w.raised; window = w.window; used = w.used; op = w.op; point = w.point; mine = w.mine; count = w.count; cur = n; flag = w.flag; size = w.size; ann = w.ann; closed = w.closed; fixed = w.fixed; cell = w.cell; seen = w.seen; held = w.held; content = w.content }

abbrev with_held : (ℕ → ℕ → ℕ) → World → World
with_held g w = record { clock = w.clock; asked = w.asked; first = w.first; last = w.last; answer = w.answer; read = w.read; found = w.found; exch = w.exch; target = w.target; raised = w.raised; window = w.window; used = w.used; op = w.op; point = w.point; mine = w.mine; count = w.count; cur = w.cur; flag = w.flag; size = w.size; ann = w.ann; closed = w.closed; fixed = w.fixed; cell = w.cell; seen = w.seen; held = g; content = w.content }

-- a step of a thread with no operation left
abbrev pub pass : World → World
pass w = record { clock = suc w.clock; asked = w.asked; first = w.first; last = w.last; answer = w.answer; read = w.read; found = w.found; exch = w.exch; target = w.target; raised = w.raised; window = w.window; used = w.used; op = w.op; point = w.point; mine = w.mine; count = w.count; cur = w.cur; flag = w.flag; size = w.size; ann = w.ann; closed = w.closed; fixed = w.fixed; cell = w.cell; seen = w.seen; held = w.held; content = w.content }

-- ---- The parts of a step, where what is written again as it was changes nothing.

-- an operation's record, of which the world has neither the number of own steps nor the raiser
abbrev record_in : World → ℕ → Outcome → Record
record_in w o x =
    record {
      asked = w.asked o;
      outcome = record { answer = w.answer o; first = w.first o; last = w.last o; own = x.own; raiser = x.raiser };
      look = record { read = w.read o; found = w.found o };
      change = record { target = record { 0 = w.target o }; exchanged = w.exch o; raised = w.raised o; window = record { 0 = w.window o } };
      snapshot = record { 0 = w.used o };
    }

module _ (w : World) (o : ℕ) (x : Outcome) where
  puts_first : put_record o (counted (suc w.clock) (record_in w o x)) (pass w) ≡ tick o w
  puts_first = simp put_none

  puts_found : (c : Content) → put_record o (with_look (record { read = w.clock; found = c }) (record_in w o x)) w ≡ find o c w
  puts_found c = simp put_none

  puts_exchanged : (v : Target) (c : Content) → put_content (key w o) c (put_record o (exchanged_at v w.clock (record_in w o x)) w) ≡ exchange o v.0 c w
  puts_exchanged v c = simp put_none

  puts_raised : (q v : ℕ) (n : SnapshotId) (t : ThreadId) → n.0 ≡ cond (eqb (w.closed w.cur) 0) w.cur 0 → put_record o (raised_at w.clock n t (record_in w o x)) (put_count q v w) ≡ raise o q v w
  puts_raised q v n t e = simp (put_none, e)

  puts_used : (n : SnapshotId) → put_record o (with_used n (record_in w o x)) w ≡ share n.0 o w
  puts_used n = simp put_none

  puts_fixed : (n : SnapshotId) (v t : ℕ) → put_record o (with_used n (record_in w o x)) (put_trace n.0 (w.ann n.0) (w.closed n.0) w.clock (w.mine t) (put_snapshot n.0 (w.flag n.0) v (w.cell n.0) w)) ≡ fix n.0 v t o w
  puts_fixed n v t = simp put_none

  puts_last : (a t : ℕ) → put_local t (suc o) Idle (w.mine t) (put_record o (answered a w.clock (record_in w o x)) w) ≡ return t o a w
  puts_last a t = simp put_none

puts_cell : (w : World) (n q v : ℕ) → put_snapshot n (w.flag n) (w.size n) (put (w.cell n) q v) w ≡ write n q v w
puts_cell w n q v = simp put_none

puts_lowered : (w : World) (n t : ℕ)
    → put_local t (w.op t) (w.point t) (λ q. 0) (put_trace n (w.ann n) (cond (w.flag n) w.clock (w.closed n)) (w.fixed n) (w.seen n)
    (put_snapshot n false (w.size n) (w.cell n) (with_held (lower n t w).held w))) ≡ lower n t w
puts_lowered w n t = simp put_none

puts_kept : (w : World) (t q v : ℕ) → put_local t (w.op t) (w.point t) (put (w.mine t) q v) w ≡ keep t q v w
puts_kept w t q v = simp put_none

puts_point : (w : World) (t : ℕ) (p : Point) → put_local t (w.op t) p (w.mine t) w ≡ stand t p w
puts_point w t p = simp put_none

-- ---- The parts of a step of thread t in operation o.

module _ (m : Machine) (g : ℕ → ℕ → ℕ) (s : Shape m) where
  pub world_ticked : (o : OpId) → o.0 < 64 → m.clock < 4294967295 → world_of (ticked o m) g ≡ tick o.0 (world_of m g)
  world_ticked o h c =
      world_record (with_clock (more m.clock) m.idle m) g o (counted (more m.clock) (record_at m o)) (omega (arith, s.records))
      ∙ ap (λ (x : ℕ). put_record o.0 (counted x (record_at m o)) (world_of (with_clock x m.idle m) g)) (more_is m.clock c)
      ∙ puts_first (world_of m g) o.0 (record_at m o).outcome

  pub world_idled : m.clock < 4294967295 → world_of (idled m) g ≡ pass (world_of m g)
  world_idled c = ap (λ (x : ℕ). world_of (with_clock x m.idle m) g) (more_is m.clock c)

  pub world_goes_on : (nx : Next) (t : ThreadId) (o : OpId) → t.0 < 8 → o.0 < 64 → (local_at m t).op.0 ≡ o.0 → world_of (goes_on nx t o m) g ≡ onward nx t.0 o.0 (world_of m g)
  world_goes_on (To p) t o h k e =
      world_local m g t (standing p (local_at m t)) (omega (arith, s.locals)) ∙ puts_point (world_of m g) t.0 p
  world_goes_on (Returns a) t o h k e =
      let r = answered a m.clock (record_at m o) in
      world_local (with_record o r m) g t (finished (local_at m t)) (omega (arith, s.locals))
      ∙ ap (put_local t.0 _ Idle ((world_of m g).mine t.0)) (world_record m g o r (omega (arith, s.records)))
      ∙ ap (λ (x : ℕ). put_local t.0 x Idle ((world_of m g).mine t.0) (put_record o.0 r (world_of m g))) (more_byte_is (local_at m t).op.0 (omega arith) ∙ ap suc e)
      ∙ puts_last (world_of m g) o.0 (record_at m o).outcome a t.0

-- the places that a deed writes are there
abbrev pub UpdateInRange : UpdateDeed → Update → Type 0
UpdateInRange Reads u = Unit {0}
UpdateInRange Raises u = (u.node.op.0 < 64) × (u.node.note.0.0 < 8)
UpdateInRange (Forwards n) u = (n.0 < 65) × (u.node.note.0.0 < 8)

abbrev pub SizeInRange : ℕ → SizeDeed → Type 0
SizeInRange cur Looks = Unit {0}
SizeInRange cur Announces = cur < 64
SizeInRange cur (Collects n j v) = (n.0 < 65) × (j.thread.0 < 8)
SizeInRange cur (Lowers n) = n.0 < 65
SizeInRange cur (Keeps j v) = j.thread.0 < 8
SizeInRange cur (Fixes n v) = n.0 < 65
SizeInRange cur (Shares n) = Unit {0}

-- of an operation on this key, while this snapshot is current
abbrev pub DeedInRange : ℕ → ℕ → Deed → Type 0
DeedInRange on cur Rests = Unit {0}
DeedInRange on cur (Finds c) = Unit {0}
DeedInRange on cur (Links n) = on < 16
DeedInRange on cur (Marks n d) = on < 16
DeedInRange on cur Unlinks = on < 16
DeedInRange on cur (Updates d u) = UpdateInRange d u
DeedInRange on cur (Sizes d) = SizeInRange cur d

pub record InRange (m : Machine) (t : ThreadId) (o : OpId) (d : Deed) : Type 0 where
  pub thread : t.0 < 8
  pub op : o.0 < 64
  pub deed : DeedInRange (record_at m o).asked.key m.calculator.current.0 d

module _ (m : Machine) (g : ℕ → ℕ → ℕ) (s : Shape m) where
  world_exchanged : (o : OpId) (v : Target) (c : Content) → o.0 < 64 → (record_at m o).asked.key < 16
      → world_of (with_content (record_at m o).asked.key c (rewritten o (exchanged_at v m.clock) m)) g ≡ exchange o.0 v.0 c (world_of m g)
  world_exchanged o v c h k =
      let r = exchanged_at v m.clock (record_at m o) in
      world_content (with_record o r m) g (record_at m o).asked.key c (omega (arith, s.slots))
      ∙ ap (put_content (record_at m o).asked.key c) (world_record m g o r (omega (arith, s.records)))
      ∙ puts_exchanged (world_of m g) o.0 (record_at m o).outcome v c

  world_written : (n : SnapshotId) (j : Cell) (v : ℕ) → n.0 < 65 → j.thread.0 < 8 → world_of (calculated (written n j v) m) g ≡ write n.0 (no_of j) v (world_of m g)
  world_written n j v h k =
      let x = snapshot_at m.calculator n in
      world_snapshot m g n (record { cells = set_count x.cells j v; collecting = x.collecting; size = x.size }) (omega (arith, s.calculator.snapshots))
      ∙ ap (λ (b : ℕ → ℕ). put_snapshot n.0 x.collecting x.size b (world_of m g)) (block_put x.cells j v (omega (arith, s.calculator.cells n.0 h)))
      ∙ puts_cell (world_of m g) n.0 (no_of j) v

  world_raised : (u : Update) (t : ThreadId) → u.node.op.0 < 64 → u.node.note.0.0 < 8
      → world_of (rewritten u.node.op (raised_at m.clock (window_of m.calculator) t) (calculated (raised (cell_of u) (update_target u)) m)) g
      ≡ update Raises u (world_of m g)
  world_raised u t h k =
      let c = m.calculator in
      let o = u.node.op in
      let r = raised_at m.clock (window_of c) t (record_at m o) in
      world_record (calculated (raised (cell_of u) (update_target u)) m) g o r (omega (arith, s.records))
      ∙ ap (put_record o.0 r) (world_count m g (cell_of u) (update_target u) (omega (arith, s.calculator.counters)))
      ∙ puts_raised (world_of m g) o.0 (record_at m o).outcome (update_cell u) (update_target u) (window_of c) t
      (cond_map (λ (n : SnapshotId). n.0) (eqb (trace_at c c.current).closed 0) c.current (record { 0 = 0 }))

  world_announced : m.calculator.current.0 < 64 → world_of (calculated (announced m.clock) m) g ≡ announce (world_of m g)
  world_announced h =
      let w = world_of m g in
      let n = new_id m.calculator.current in
      let e : n.0 ≡ suc w.cur = more_byte_is w.cur (omega arith) in
      ap (with_current n.0)
      (world_trace (calculated (with_snapshot n (fresh_snapshot true)) m) g n (fresh_trace m.clock) (omega (arith, s.calculator.traces))
      ∙ ap (put_trace n.0 m.clock 0 0 (block (block_of 0))) (world_snapshot m g n (fresh_snapshot true) (omega (arith, s.calculator.snapshots))))
      ∙ (λ i. with_current (e i) (put_trace (e i) m.clock 0 0 (block_zero i) (put_snapshot (e i) true invalid (block_fresh i) w)))

  world_lowered : (n : SnapshotId) (t : ThreadId) (o : OpId) → n.0 < 65 → t.0 < 8
      → world_of (sizes (Lowers n) t o m) (lower n.0 t.0 (world_of m g)).held ≡ lower n.0 t.0 (world_of m g)
  world_lowered n t o h k =
      let w = world_of m g in
      let g' = (lower n.0 t.0 w).held in
      let x = snapshot_at m.calculator n in
      let y = trace_at m.calculator n in
      let x' : Snapshot = record { cells = x.cells; collecting = false; size = x.size } in
      let y' : Trace = record { announced = y.announced; closed = cond x.collecting m.clock y.closed; fixed = y.fixed; seen = y.seen } in
      let l = with_seen (block_of 0) (local_at m t) in
      world_local (calculated (lowered n m.clock) m) g' t l (omega (arith, s.locals))
      ∙ ap (put_local t.0 l.op.0 l.point (block (block_of 0)))
      (world_trace (calculated (with_snapshot n x') m) g' n y' (omega (arith, s.calculator.traces))
      ∙ ap (put_trace n.0 y'.announced y'.closed y'.fixed (block y'.seen)) (world_snapshot m g' n x' (omega (arith, s.calculator.snapshots))))
      ∙ ap (λ (b : ℕ → ℕ). put_local t.0 l.op.0 l.point b (put_trace n.0 y'.announced y'.closed y'.fixed (block y'.seen) (put_snapshot n.0 false x.size (block x.cells) (with_held g' w)))) block_zero
      ∙ puts_lowered w n.0 t.0

  world_kept : (j : Cell) (v : ℕ) (t : ThreadId) (o : OpId) → j.thread.0 < 8 → t.0 < 8 → world_of (sizes (Keeps j v) t o m) g ≡ keep t.0 (no_of j) v (world_of m g)
  world_kept j v t o h k =
      let l = local_at m t in
      world_local m g t (with_seen (set_count l.seen j v) l) (omega (arith, s.locals))
      ∙ ap (λ (b : ℕ → ℕ). put_local t.0 l.op.0 l.point b (world_of m g)) (block_put l.seen j v (omega (arith, s.seen t.0 k)))
      ∙ puts_kept (world_of m g) t.0 (no_of j) v

  world_used : (n : SnapshotId) (o : OpId) → o.0 < 64 → world_of (rewritten o (with_used n) m) g ≡ share n.0 o.0 (world_of m g)
  world_used n o h =
      world_record m g o (with_used n (record_at m o)) (omega (arith, s.records)) ∙ puts_used (world_of m g) o.0 (record_at m o).outcome n

  world_fixed : (n : SnapshotId) (v : ℕ) (t : ThreadId) (o : OpId) → n.0 < 65 → o.0 < 64
      → world_of (sizes (Fixes n v) t o m) g ≡ fix n.0 v t.0 o.0 (world_of m g)
  world_fixed n v t o h k =
      let x = snapshot_at m.calculator n in
      let y = trace_at m.calculator n in
      let x' : Snapshot = record { cells = x.cells; collecting = x.collecting; size = v } in
      let y' : Trace = record { announced = y.announced; closed = y.closed; fixed = m.clock; seen = (local_at m t).seen } in
      let r = with_used n (record_at m o) in
      world_record (calculated (fixed n v m.clock (local_at m t).seen) m) g o r (omega (arith, s.records))
      ∙ ap (put_record o.0 r)
      (world_trace (calculated (with_snapshot n x') m) g n y' (omega (arith, s.calculator.traces))
      ∙ ap (put_trace n.0 y'.announced y'.closed y'.fixed (block y'.seen)) (world_snapshot m g n x' (omega (arith, s.calculator.snapshots))))
      ∙ puts_fixed (world_of m g) o.0 (record_at m o).outcome n v t.0

  pub world_does : (d : Deed) (t : ThreadId) (o : OpId) → InRange m t o d
      → world_of (does d t o m) (act d t.0 o.0 (world_of m g)).held ≡ act d t.0 o.0 (world_of m g)
  world_does Rests t o h = refl
  world_does (Finds c) t o h =
      world_record m g o (with_look (record { read = m.clock; found = c }) (record_at m o)) (omega (arith, h.op, s.records))
      ∙ puts_found (world_of m g) o.0 (record_at m o).outcome c
  world_does (Links n) t o h = world_exchanged o n.note.1 (Live n) h.op h.deed
  world_does (Marks n d) t o h = world_exchanged o d.note.1 (Marked n d) h.op h.deed
  world_does Unlinks t o h = world_content m g (record_at m o).asked.key Empty (omega (arith, h.deed, s.slots))
  world_does (Updates Reads u) t o h = refl
  world_does (Updates Raises u) t o h = world_raised u _ h.deed.0 h.deed.1
  world_does (Updates (Forwards n) u) t o h = world_written n (cell_of u) (update_target u) h.deed.0 h.deed.1
  world_does (Sizes Looks) t o h = refl
  world_does (Sizes Announces) t o h = world_announced h.deed
  world_does (Sizes (Collects n j v)) t o h = world_written n j v h.deed.0 h.deed.1
  world_does (Sizes (Lowers n)) t o h = world_lowered n t o h.deed h.thread
  world_does (Sizes (Keeps j v)) t o h = world_kept j v t o h.deed h.thread
  world_does (Sizes (Fixes n v)) t o h = world_fixed n v t o h.deed h.op
  world_does (Sizes (Shares n)) t o h = world_used n o h.op

-- ---- A whole access.

act_op : (d : Deed) (t o : ℕ) (w : World) → (act d t o w).op ≡ w.op
act_op Rests t o w = refl
act_op (Finds c) t o w = refl
act_op (Links n) t o w = refl
act_op (Marks n d) t o w = refl
act_op Unlinks t o w = refl
act_op (Updates Reads u) t o w = refl
act_op (Updates Raises u) t o w = refl
act_op (Updates (Forwards n) u) t o w = refl
act_op (Sizes Looks) t o w = refl
act_op (Sizes Announces) t o w = refl
act_op (Sizes (Collects n j v)) t o w = refl
act_op (Sizes (Lowers n)) t o w = refl
act_op (Sizes (Keeps j v)) t o w = refl
act_op (Sizes (Fixes n v)) t o w = refl
act_op (Sizes (Shares n)) t o w = refl

key_ticked : (m : Machine) (o : OpId) → (record_at (ticked o m) o).asked.key ≡ (record_at m o).asked.key
key_ticked m o = set_field (λ (r : Record). r.asked.key) m.records o.0 o.0 _ no_record refl

-- the whole step, of thread t in its operation o
module _ (m : Machine) (g : ℕ → ℕ → ℕ) (s : Shape m) (t : ThreadId) (o : OpId) (current : (local_at m t).op ≡ o) (c : m.clock < 4294967295) where
  pub world_access : (nx : Next) (d : Deed) → InRange m t o d
      → world_of (goes_on nx t o (does d t o (ticked o m))) (act d t.0 o.0 (tick o.0 (world_of m g))).held
      ≡ onward nx t.0 o.0 (act d t.0 o.0 (tick o.0 (world_of m g)))
  world_access nx d h =
      let m1 = ticked o m in
      let s1 = shape_ticked o m s in
      let w1 = world_of m1 g in
      let g' = (act d t.0 o.0 w1).held in
      let r : InRange m1 t o d = record { thread = h.thread; op = h.op; deed = rw (key_ticked m o) h.deed } in
      let e = world_does m1 g s1 d t o r in
      let p : (local_at (does d t o m1) t).op.0 ≡ o.0 =
      ap (λ (w : World). w.op t.0) e ∙ ap (λ (f : ℕ → ℕ). f t.0) (act_op d t.0 o.0 w1) ∙ ap (λ (x : OpId). x.0) current
      in
      subst (λ (w : World). world_of (goes_on nx t o (does d t o m1)) (act d t.0 o.0 w).held ≡ onward nx t.0 o.0 (act d t.0 o.0 w))
      (world_ticked m g s o h.op c)
      (world_goes_on (does d t o m1) g' (shape_does t o h.thread d m1 s1) nx t o h.thread h.op p ∙ ap (onward nx t.0 o.0) e)

module _ (m : Machine) (g : ℕ → ℕ → ℕ) (s : Shape m) (t : ThreadId) (c : m.clock < 4294967295) where
  pub world_accessed :
      let o = (local_at m t).op in
      let v = move_of m t in
      InRange m t o v.deed
      → world_of (accessed m t) (act v.deed t.0 o.0 (tick o.0 (world_of m g))).held
      ≡ onward v.next t.0 o.0 (act v.deed t.0 o.0 (tick o.0 (world_of m g)))
  unfolding accessed
  world_accessed h = world_access m g s t (local_at m t).op refl c (move_of m t).next (move_of m t).deed h
