-- What an access asks, and the one number that it hears, tell all: what it does is decided by that number, and its deed changes no more
-- than its request. So the parts after a turn make up the machine after the step.
use Prim.Native.Nat.{ℕ, suc, zero, ◌-◌}
use mathlib.Core.Path.{◌≡◌, refl, sym, ap, subst, ◌∙◌}
use mathlib.Core.Bool.{Bool, true, false, cond, not}
use mathlib.Core.List.{List, [], ◌∷◌}
use lib.ListN.{get_or, set}
use Rattle.std.proofs.lemmas.List.{set-get_or}
use lib.Dec.{eqb}
use Rattle.terms.specs.declared.ThreadId.{ThreadId}
use Rattle.terms.specs.declared.OpId.{OpId}
use Rattle.terms.specs.declared.SnapshotId.{SnapshotId}
use Rattle.terms.specs.declared.Target.{Target}
use Rattle.figures.specs.declared.Cell.{Cell}
use Rattle.figures.specs.declared.Counts.{Counts}
use Rattle.figures.specs.declared.Snapshot.{Snapshot}
use Rattle.figures.specs.declared.Trace.{Trace}
use Rattle.figures.specs.declared.Calculator.{Calculator}
use Rattle.figures.specs.declared.Sight.{Sight}
use Rattle.figures.specs.declared.UpdatePoint.{UpdatePoint}
use Rattle.figures.specs.declared.UpdatePoint.TheVariants.{ReadCount, RaiseCount, ReadCurrent, ReadFlag, ReadAgain, ReadCell, Forward}
use Rattle.figures.specs.declared.UpdateDeed.TheVariants.{Reads, Raises, Forwards}
use Rattle.figures.specs.declared.UpdateMove.{UpdateMove}
use Rattle.figures.specs.declared.UpdateNext.TheVariants.{Done}
use Rattle.figures.specs.declared.SizePoint.{SizePoint}
use Rattle.figures.specs.declared.SizePoint.TheVariants.{FindCurrent, FindFlag, Announce, CollectCount, CollectCell, CollectSet, LowerFlag, SumCell, FixSize}
use Rattle.figures.specs.declared.SizeDeed.TheVariants.{Looks, Announces, Collects, Fixes, Shares}
use Rattle.figures.specs.declared.SizeMove.{SizeMove}
use Rattle.figures.specs.declared.SizeNext.TheVariants.{Goes, Sized}
use Rattle.figures.specs.declared.Content.{Content}
use Rattle.figures.specs.declared.Content.TheVariants.{Empty, Live, Marked}
use Rattle.figures.specs.declared.Call.{Call}
use Rattle.figures.specs.declared.Update.{Update}
use Rattle.figures.specs.declared.After.{After}
use Rattle.figures.specs.declared.After.TheVariants.{ToUnlink}
use Rattle.figures.specs.declared.Node.{Node}
use Rattle.figures.specs.declared.Point.{Point}
use Rattle.figures.specs.declared.Point.TheVariants.{Idle, ReadSlot, Updating, CountInsertions, Link, HelpUnlink, CountDeletions, Mark, Unlink, Sizing}
use Rattle.figures.specs.declared.Deed.TheVariants.{Rests, Marks, Unlinks}
use Rattle.figures.specs.declared.Move.{Move}
use Rattle.figures.specs.declared.Local.{Local}
use Rattle.figures.specs.declared.Record.{Record}
use Rattle.figures.specs.declared.Machine.{Machine}
use Rattle.figures.specs.Limits.{most_threads, invalid}
use Rattle.figures.specs.Figure4.{more, both, block_of, count_of, with_count, count_at, set_count, new_id, snapshot_at, no_snapshot, no_trace, sight_of}
use Rattle.figures.specs.Figure5.{none}
use Rattle.figures.specs.Figure6.{behind, on_to, done, go_to, first_cell, total_of}
use Rattle.figures.specs.Figure3.{update, deletion, node_of, goes_to, link, is_live, is_marked, updating, sizing, cell_of, looks_at_cell, looks_at_snapshot}
use Rattle.figures.specs.Step.{with_calculator, stands_at, access_of, move_of, accessed, idled, step_of}
use Rattle.figures.proofs.Laws.{replicate_holds}
use Rattle.calculator.specs.declared.exchange.Exchange.TheVariants.{OfFlag, Anew}
use Rattle.calculator.specs.declared.request.Request.{Request}
use Rattle.calculator.specs.declared.request.Request.TheVariants.{Nothing, Exchanges}
use Rattle.calculator.specs.Exchanges.{absent, exchanged_of}
use Rattle.calculator.specs.Requests.{record_in, sight_by, heard, counters_by, table_by, current_by, traces_by}
use Rattle.accesses.specs.Requests.{request_at}
use Rattle.machine.specs.declared.Rest.{Rest}
use Rattle.machine.specs.Parts.{whole_of, local_in, own_in, held_in, is_busy, asks_of, request_of, move_in, taken_of, idled_of, decided_of}
use Rattle.machine.proofs.Changes.{updated_by, sized_by, calculated_by, acted_by}
use Rattle.machine.proofs.Together.{together}

-- ---- Defaults. Which one a read past the end gives does not matter to what is the same of both, nor to a store there.

module _ {A B : Type 0} where
  pub either_read : (f : A → B) (d e : A) → f d ≡ f e → (l : List A) (i : ℕ) → f (get_or l i d) ≡ f (get_or l i e)
  either_read f d e h [] i = h
  either_read f d e h (x ∷ l) zero = refl
  either_read f d e h (x ∷ l) (suc i) = either_read f d e h l i

module _ {A : Type 0} where
  pub either_store : (f : A → A) (d e : A) (l : List A) (i : ℕ) → set l i (f (get_or l i d)) ≡ set l i (f (get_or l i e))
  either_store f d e [] i = refl
  either_store f d e (x ∷ l) zero = refl
  either_store f d e (x ∷ l) (suc i) = ap (λ (r : List A). x ∷ r) (either_store f d e l i)

-- a cell of a record that is not there is 0
no_cell : (j : Cell) → count_at (block_of 0) j ≡ count_at [] j
no_cell j = ap (count_of j.kind) (replicate_holds (λ (c : Counts). c ≡ both 0) most_threads j.thread.0 (both 0) (both 0) refl refl)

-- the moves that change something, and a record with another cell
abbrev forwarded : Bool → SnapshotId → UpdateMove
forwarded h n = record { next = Done h; deed = Forwards n }

abbrev announcing : SnapshotId → SizeMove
announcing n = record { next = Goes (CollectCount (new_id n) first_cell); deed = Announces }

abbrev fixing : SnapshotId → ℕ → SizeMove
fixing n v = record { next = Sized v; deed = Fixes n v }

abbrev sharing : SnapshotId → ℕ → SizeMove
sharing n v = record { next = Sized v; deed = Shares n }

abbrev marking : Node → Node → Move
marking n d = record { next = update (deletion d) (ToUnlink n d); deed = Marks n d }

abbrev with_cell : Cell → ℕ → Snapshot → Snapshot
with_cell j v s = record { cells = set_count s.cells j v; collecting = s.collecting; size = s.size }

abbrev with_size : ℕ → Snapshot → Snapshot
with_size v s = record { cells = s.cells; collecting = s.collecting; size = v }

-- the flag, as the number that is heard
flag_heard : (b : Bool) → b ≡ not (eqb (cond b 1 0) 0)
flag_heard true = refl
flag_heard false = refl

first_closes : (b : Bool) (step closed : ℕ) → cond b step closed ≡ cond (eqb (cond b 1 0) 0) closed step
first_closes true step closed = refl
first_closes false step closed = refl

module _ (t : ThreadId) (o : OpId) (k : Call) (threads : ℕ) (seen : List Counts) (held : Content) (step : ℕ) (c : Calculator) where
  abbrev asked : Point → Request
  asked p = request_at p t c.current seen

  abbrev hears : Point → ℕ
  hears p = heard (asked p) c.counters c.snapshots

  abbrev found : SnapshotId → Snapshot
  found n = record_in c.snapshots n

  -- ---- An access is decided by the number heard.

  abbrev by_heard : Point → Move
  by_heard p = access_of p t o k threads seen (sight_by (hears p) c.current) held

  abbrev flagged : Bool → Sight
  flagged b = record { count = 0; current = c.current; collecting = b; cell = 0; size = 0 }

  abbrev valued : ℕ → Sight
  valued v = record { count = 0; current = c.current; collecting = false; cell = v; size = v }

  flag_of : (n : SnapshotId) → (snapshot_at c n).collecting ≡ (found n).collecting
  flag_of n = either_read (λ (s : Snapshot). s.collecting) no_snapshot absent refl c.snapshots n.0

  raised_flag : (n : SnapshotId) → (snapshot_at c n).collecting ≡ not (eqb (cond (found n).collecting 1 0) 0)
  raised_flag n = flag_of n ∙ flag_heard (found n).collecting

  cell_of_lem : (n : SnapshotId) (j : Cell) → count_at (snapshot_at c n).cells j ≡ count_at (found n).cells j
  cell_of_lem n j = either_read (λ (s : Snapshot). count_at s.cells j) no_snapshot absent (sym (no_cell j)) c.snapshots n.0

  size_of : (n : SnapshotId) → (snapshot_at c n).size ≡ (found n).size
  size_of n = either_read (λ (s : Snapshot). s.size) no_snapshot absent refl c.snapshots n.0

  abbrev Decides : Point → Type 0
  Decides p = access_of p t o k threads seen (sight_of c (looks_at_snapshot p) (looks_at_cell t p)) held ≡ by_heard p

  update_decides : (p : UpdatePoint) (u : Update) (a : After) → Decides (Updating p u a)
  update_decides ReadCount u a = refl
  update_decides RaiseCount u a = refl
  update_decides (ReadCurrent h) u a = refl
  update_decides (ReadFlag h n) u a = ap (λ (b : Bool). updating (ReadFlag h n) u a (flagged b)) (raised_flag n)
  update_decides (ReadAgain h n) u a = refl
  update_decides (ReadCell h n) u a = ap (λ (v : ℕ). updating (ReadCell h n) u a (valued v)) (cell_of_lem n (cell_of u))
  update_decides (Forward h n known) u a = ap (λ (v : ℕ). updating (Forward h n known) u a (valued v)) (cell_of_lem n (cell_of u))

  size_decides : (p : SizePoint) → Decides (Sizing p)
  size_decides FindCurrent = refl
  size_decides (FindFlag n) = ap (λ (b : Bool). sizing (FindFlag n) threads seen (flagged b)) (raised_flag n)
  size_decides (Announce n) = refl
  size_decides (CollectCount n j) = refl
  size_decides (CollectCell n j v) = ap (λ (x : ℕ). sizing (CollectCell n j v) threads seen (valued x)) (cell_of_lem n j)
  size_decides (CollectSet n j v) = ap (λ (x : ℕ). sizing (CollectSet n j v) threads seen (valued x)) (cell_of_lem n j)
  size_decides (LowerFlag n) = refl
  size_decides (SumCell n j) = ap (λ (x : ℕ). sizing (SumCell n j) threads seen (valued x)) (cell_of_lem n j)
  size_decides (FixSize n) = ap (λ (x : ℕ). sizing (FixSize n) threads seen (valued x)) (size_of n)

  pub decides : (p : Point) → Decides p
  decides Idle = refl
  decides ReadSlot = refl
  decides (Updating p u a) = update_decides p u a
  decides CountInsertions = refl
  decides (Link g) = refl
  decides (HelpUnlink n d) = refl
  decides (CountDeletions n) = refl
  decides (Mark n g) = refl
  decides (Unlink n d) = refl
  decides (Sizing p) = size_decides p

  -- ---- Its deed changes what its request changes.

  -- the calculator after a request that heard w
  abbrev made : Request → ℕ → Calculator
  made x w =
      record {
        counters = counters_by x c.counters;
        current = current_by x c.current;
        snapshots = table_by x c.snapshots;
        traces = traces_by x w step seen c.traces;
      }

  abbrev Changes : Point → Type 0
  Changes p = calculated_by (by_heard p).deed step seen c ≡ made (asked p) (hears p)

  built : {a a' : List Counts} {n n' : SnapshotId} {s s' : List Snapshot} {r r' : List Trace} → a ≡ a' → n ≡ n' → s ≡ s' → r ≡ r' →
      ◌≡◌ {A = Calculator} (record { counters = a; current = n; snapshots = s; traces = r })
      (record { counters = a'; current = n'; snapshots = s'; traces = r' })
  built e f g h = cc

  same_trace : (n : SnapshotId) → c.traces ≡ set c.traces n.0 (get_or c.traces n.0 no_trace)
  same_trace n = sym (set-get_or c.traces n.0 no_trace)

  -- record n is s now, and nothing else changed
  abbrev changed : Snapshot → SnapshotId → Calculator
  changed s n =
      record {
        counters = c.counters;
        current = c.current;
        snapshots = set c.snapshots n.0 s;
        traces = set c.traces n.0 (get_or c.traces n.0 no_trace);
      }

  -- nothing was asked, or what was asked changed nothing
  unasked : (n : SnapshotId) →
      c ≡ record {
        counters = c.counters;
        current = c.current;
        snapshots = c.snapshots;
        traces = set c.traces n.0
            (get_or c.traces n.0 no_trace);
      }
  unasked n = built refl refl refl (same_trace n)

  unchanged : (n : SnapshotId) → c ≡ changed (found n) n
  unchanged n = built refl refl (sym (set-get_or c.snapshots n.0 absent)) (same_trace n)

  read_only : (p : UpdatePoint) (h : Bool) (u : Update) (b : Bool) → updated_by (cond b (on_to p) (done h)).deed u c ≡ c
  read_only p h u true = refl
  read_only p h u false = refl

  raises : (u : Update) (a : After) → Changes (Updating RaiseCount u a)
  raises u a = go (eqb (count_at c.counters (cell_of u)) (u.node.note.1.0 - 1))
    where
      go : (b : Bool) → updated_by (cond b Raises Reads) u c ≡
          record {
            counters = set c.counters (cell_of u).thread.0
                (cond b (with_count (cell_of u).kind u.node.note.1.0 (get_or c.counters (cell_of u).thread.0 (both 0)))
                (get_or c.counters (cell_of u).thread.0 (both 0)));
            current = c.current;
            snapshots = c.snapshots;
            traces = set c.traces 0 (get_or c.traces 0 no_trace);
          }
      go true = built refl refl refl (same_trace none)
      go false = built (sym (set-get_or c.counters (cell_of u).thread.0 (both 0))) refl refl (same_trace none)

  forwards : (h : Bool) (n : SnapshotId) (known : ℕ) (u : Update) (a : After) → Changes (Updating (Forward h n known) u a)
  forwards h n known u a = go (eqb (count_at (found n).cells (cell_of u)) known)
      (behind (count_at (found n).cells (cell_of u)) u.node.note.1)
    where
      go : (b d : Bool) →
          updated_by (cond b (forwarded h n) (cond d (on_to (Forward h n (count_at (found n).cells (cell_of u)))) (done h))).deed u c ≡
          changed (cond b (with_cell (cell_of u) u.node.note.1.0 (found n)) (found n)) n
      go true d = built refl refl (either_store (with_cell (cell_of u) u.node.note.1.0) no_snapshot absent c.snapshots n.0)
          (same_trace n)
      go false true = unchanged n
      go false false = unchanged n

  update_changes : (p : UpdatePoint) (u : Update) (a : After) → Changes (Updating p u a)
  update_changes ReadCount u a = unasked none
  update_changes RaiseCount u a = raises u a
  update_changes (ReadCurrent h) u a = unasked none
  update_changes (ReadFlag h n) u a = read_only (ReadAgain h n) h u (not (eqb (hears (Updating (ReadFlag h n) u a)) 0)) ∙ unasked n
  update_changes (ReadAgain h n) u a = read_only (ReadCell h n) h u (eqb (count_at c.counters (cell_of u)) u.node.note.1.0) ∙ unasked none
  update_changes (ReadCell h n) u a = read_only (Forward h n (count_at (found n).cells (cell_of u))) h u
      (behind (count_at (found n).cells (cell_of u)) u.node.note.1) ∙ unasked n
  update_changes (Forward h n known) u a = forwards h n known u a

  announces : (n : SnapshotId) → Changes (Sizing (Announce n))
  announces n = go (eqb c.current.0 n.0) (hears (Sizing (Announce n)))
    where
      go : (b : Bool) (w : ℕ) → sized_by (cond b (announcing c.current) (go_to (CollectCount c.current first_cell))).deed step seen c ≡
          made (cond b (Exchanges (new_id c.current) (Anew true)) Nothing) w
      go true w = refl
      go false w = unasked none

  collects : (n : SnapshotId) (j : Cell) (v : ℕ) → Changes (Sizing (CollectSet n j v))
  collects n j v = go (eqb (count_at (found n).cells j) invalid)
    where
      go : (b : Bool) → sized_by (cond b (Collects n j v) Looks) step seen c ≡ changed (cond b (with_cell j v (found n)) (found n)) n
      go true = built refl refl (either_store (with_cell j v) no_snapshot absent c.snapshots n.0) (same_trace n)
      go false = unchanged n

  lowers : (n : SnapshotId) → Changes (Sizing (LowerFlag n))
  lowers n =
      let r = get_or c.traces n.0 no_trace in
      built refl refl (either_store (exchanged_of OfFlag) no_snapshot absent c.snapshots n.0)
      (ap (λ (closed : ℕ). set c.traces n.0 (record { announced = r.announced; closed = closed; fixed = r.fixed; seen = r.seen }))
      (ap (λ (b : Bool). cond b step r.closed) (flag_of n) ∙ first_closes (found n).collecting step r.closed))

  fixes : (n : SnapshotId) → Changes (Sizing (FixSize n))
  fixes n = go (eqb (found n).size invalid)
    where
      go : (b : Bool) → sized_by (cond b (fixing n (total_of seen)) (sharing n (found n).size)).deed step seen c ≡
          record {
            counters = c.counters;
            current = c.current;
            snapshots = set c.snapshots n.0 (cond b (with_size (total_of seen) (found n)) (found n));
            traces = set c.traces n.0
                (cond b (record {
                  announced = (get_or c.traces n.0 no_trace).announced;
                  closed = (get_or c.traces
                      n.0 no_trace).closed;
                  fixed = step;
                  seen = seen;
                }) (get_or c.traces n.0 no_trace));
          }
      go true = built refl refl (either_store (with_size (total_of seen)) no_snapshot absent c.snapshots n.0) refl
      go false = unchanged n

  size_changes : (p : SizePoint) → Changes (Sizing p)
  size_changes FindCurrent = unasked none
  size_changes (FindFlag n) = unasked n
  size_changes (Announce n) = announces n
  size_changes (CollectCount n j) = unasked none
  size_changes (CollectCell n j v) = unasked n
  size_changes (CollectSet n j v) = collects n j v
  size_changes (LowerFlag n) = lowers n
  size_changes (SumCell n j) = unasked n
  size_changes (FixSize n) = fixes n

  links : (g : Target) (h : Content) → calculated_by (link t o g h).deed step seen c ≡ c
  links g Empty = refl
  links g (Live n) = refl
  links g (Marked n d) = refl

  unlinks : (b : Bool) → calculated_by (cond b Unlinks Rests) step seen c ≡ c
  unlinks true = refl
  unlinks false = refl

  marks : (n : Node) (g : Target) (b : Bool) → calculated_by (cond b (marking n (node_of t g o)) (goes_to ReadSlot)).deed step seen c ≡ c
  marks n g true = refl
  marks n g false = refl

  pub changes : (p : Point) → Changes p
  changes Idle = unasked none
  changes ReadSlot = unasked none
  changes (Updating p u a) = update_changes p u a
  changes CountInsertions = unasked none
  changes (Link g) = links g held ∙ unasked none
  changes (HelpUnlink n d) = unlinks (is_marked n d held) ∙ unasked none
  changes (CountDeletions n) = unasked none
  changes (Mark n g) = marks n g (is_live n held) ∙ unasked none
  changes (Unlink n d) = unlinks (is_marked n d held) ∙ unasked none
  changes (Sizing p) = size_changes p

-- ---- The whole step.

module _ (m : Rest) (counters : List Counts) (table : List Snapshot) (t : ThreadId) where
  abbrev whole : Machine
  whole = whole_of m counters table

  abbrev l : Local
  l = local_in m t

  abbrev r : Record
  r = own_in m t

  abbrev p : Point
  p = stands_at l.point r.asked.call

  abbrev w₀ : ℕ
  w₀ = heard (asks_of m t) counters table

  abbrev acted : Move → Machine
  acted v = acted_by v.deed v.next (more m.clock) t.0 l.op r.asked.key whole

  steps : acted (move_in m t w₀) ≡ accessed whole t
  unfolding accessed move_of
  steps =
      ap acted (sym (decides t l.op r.asked.call m.threads l.seen (held_in m t) (more m.clock) whole.calculator p))
      ∙ sym (together whole t l.op (move_of whole t).deed (move_of whole t).next)

  taken : whole_of (taken_of m t w₀) (counters_by (asks_of m t) counters) (table_by (asks_of m t) table) ≡ accessed whole t
  taken =
      ap (λ (c : Calculator). with_calculator c (whole_of (taken_of m t w₀) counters table))
      (sym (changes t l.op r.asked.call m.threads l.seen (held_in m t) (more m.clock) whole.calculator p))
      ∙ steps

  pub taken_steps : (w : ℕ) → w ≡ heard (asks_of m t) counters table →
      whole_of (taken_of m t w) (counters_by (asks_of m t) counters) (table_by (asks_of m t) table) ≡ accessed whole t
  taken_steps w e = subst
      (λ (v : ℕ). whole_of (taken_of m t v) (counters_by (asks_of m t) counters) (table_by (asks_of m t) table) ≡ accessed whole t) (sym e) taken

  -- what is asked, and the rest afterwards, where it is known whether the thread has an operation left
  abbrev asked_if : Bool → Request
  asked_if b = cond b (asks_of m t) Nothing

  abbrev decided_if : Bool → ℕ → Rest
  decided_if b w = cond b (taken_of m t w) (idled_of m)

  abbrev after_if : Bool → ℕ → Machine
  after_if b w = whole_of (decided_if b w) (counters_by (asked_if b) counters) (table_by (asked_if b) table)

  -- the rest after a step, with the counters and the table after its request, is the machine after the step
  pub decided_steps : (w : ℕ) → w ≡ heard (request_of m t) counters table →
      whole_of (decided_of m t w) (counters_by (request_of m t) counters) (table_by (request_of m t) table) ≡ step_of whole t
  unfolding step_of
  decided_steps w = go (is_busy m t)
    where
      go : (b : Bool) → w ≡ heard (asked_if b) counters table → after_if b w ≡ cond b (accessed whole t) (idled whole)
      go true e = taken_steps w e
      go false e = refl

  -- so for a thread with no operation left, which asks for nothing
  pub idle_steps : is_busy m t ≡ false → whole_of (idled_of m) counters table ≡ step_of whole t
  idle_steps e = subst (λ (b : Bool). after_if b 0 ≡ step_of whole t) e
      (decided_steps 0 (ap (λ (b : Bool). heard (asked_if b) counters table) (sym e)))
