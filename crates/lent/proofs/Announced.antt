-- What the announced records of a run hold: cells of absent threads are INVALID, and record 0 is as at the start. For record 0 is never
-- collecting, so that no update forwards into it and no size collects it; and what is written is at a cell of a thread that there is.
use Prim.Native.Nat.{ℕ, ◌-◌, ◌≤◌, ◌<◌}
use mathlib.Core.Path.{◌≡◌, refl, sym, ap, ◌∙◌, subst}
use mathlib.Core.Bool.{Bool, true, false}
use mathlib.Core.List.{List}
use native.Mathlib.Omega.{arith}
use native.Mathlib.Decide.{ℕ_discrete}
use lib.ListN.{length, get_or, set, get_or-replicate}
use lib.Seq.{get_or-set_other}
use lib.Dec.{eqb, ltb}
use Rattle.terms.specs.declared.ThreadId.{ThreadId}
use Rattle.terms.specs.declared.OpId.{OpId}
use Rattle.terms.specs.declared.SnapshotId.{SnapshotId}
use Rattle.terms.specs.declared.Target.{Target}
use Rattle.figures.specs.declared.Kind.{Kind}
use Rattle.figures.specs.declared.Kind.TheVariants.{Insertion, Deletion}
use Rattle.figures.specs.declared.Cell.{Cell}
use Rattle.figures.specs.declared.Counts.{Counts}
use Rattle.figures.specs.declared.Snapshot.{Snapshot}
use Rattle.figures.specs.declared.Sight.{Sight}
use Rattle.figures.specs.declared.UpdatePoint.{UpdatePoint}
use Rattle.figures.specs.declared.UpdatePoint.TheVariants.{ReadCount, RaiseCount, ReadCurrent, ReadFlag, ReadAgain, ReadCell, Forward}
use Rattle.figures.specs.declared.UpdateDeed.{UpdateDeed}
use Rattle.figures.specs.declared.UpdateDeed.TheVariants.{Reads, Raises, Forwards}
use Rattle.figures.specs.declared.UpdateNext.{UpdateNext}
use Rattle.figures.specs.declared.UpdateNext.TheVariants.{Then, Done}
use Rattle.figures.specs.declared.UpdateMove.{UpdateMove}
use Rattle.figures.specs.declared.SizePoint.{SizePoint}
use Rattle.figures.specs.declared.SizePoint.TheVariants.{FindCurrent, FindFlag, Announce, CollectCount, CollectCell, CollectSet, LowerFlag, SumCell, FixSize}
use Rattle.figures.specs.declared.SizeDeed.{SizeDeed}
use Rattle.figures.specs.declared.SizeDeed.TheVariants.{Looks, Announces, Collects, Lowers, Keeps, Fixes, Shares}
use Rattle.figures.specs.declared.SizeNext.{SizeNext}
use Rattle.figures.specs.declared.SizeNext.TheVariants.{Goes, Sized}
use Rattle.figures.specs.declared.SizeMove.{SizeMove}
use Rattle.figures.specs.declared.Node.{Node}
use Rattle.figures.specs.declared.Content.{Content}
use Rattle.figures.specs.declared.Content.TheVariants.{Empty, Live, Marked}
use Rattle.figures.specs.declared.Call.{Call}
use Rattle.figures.specs.declared.Call.TheVariants.{Insert, Delete, Contains, Size}
use Rattle.figures.specs.declared.Update.{Update}
use Rattle.figures.specs.declared.After.{After}
use Rattle.figures.specs.declared.After.TheVariants.{Answer, ToMark, ToHelpUnlink, ToUnlink}
use Rattle.figures.specs.declared.Point.{Point}
use Rattle.figures.specs.declared.Point.TheVariants.{Idle, ReadSlot, Updating, CountInsertions, Link, HelpUnlink, CountDeletions, Mark, Unlink, Sizing}
use Rattle.figures.specs.declared.Deed.{Deed}
use Rattle.figures.specs.declared.Deed.TheVariants.{Rests, Finds, Links, Marks, Unlinks, Updates, Sizes}
use Rattle.figures.specs.declared.Next.{Next}
use Rattle.figures.specs.declared.Next.TheVariants.{To, Returns}
use Rattle.figures.specs.declared.Move.{Move}
use Rattle.figures.specs.declared.Local.{Local}
use Rattle.figures.specs.declared.Machine.{Machine}
use Rattle.figures.specs.Limits.{invalid}
use Rattle.figures.specs.Figure4.{count_of, both, count_at, set_count, fresh_snapshot, no_snapshot, new_id, snapshot_at, sight_of}
use Rattle.figures.specs.Figure6.{behind, forward_from, first_cell, next_cell, collect_next}
use Rattle.figures.specs.Figure5.{update_at, size_at}
use Rattle.figures.specs.Figure3.{found, link_found, update_next, size_next, entry, node_of, is_live, is_marked, cell_of, looks_at_cell, looks_at_snapshot}
use Rattle.figures.specs.Step.{no_local, content_at, local_at, record_at, stands_at, access_of, move_of, updates, sizes, does, goes_on, ticked, accessed, step_of, run_of}
use Rattle.figures.specs.Start.{start_of}
use Rattle.figures.specs.Counts.{Within}
use Rattle.figures.specs.Ranges.{Bounds, bounds_of, SizePointIn, PointIn}
use Rattle.figures.proofs.Laws.{set_holds, count_other, cond_case, eq_case, cond_both, tests_differ}
use Rattle.figures.proofs.Runs.{step_case}
use Rattle.figures.proofs.Ranges.{stands_in}
use Rattle.figures.proofs.Limited.{limited_run}
use Rattle.figures.proofs.Begin.{start_point}
use Rattle.figures.proofs.Sound.{sound_run}
use Rattle.runfile.specs.Read.{read_of}
use Rattle.play.specs.Run.{operations_of, schedule_of, machine_of}
use Rattle.play.proofs.Accepted.{within}
use Rattle.lent.proofs.Prefixes.{run_within}

-- ---- Where a thread is past a flag that it found raised, its snapshot is not record 0.

abbrev Past : SnapshotId → Type 0
Past n = 0 < n.0

abbrev UpdatePast : UpdatePoint → Type 0
UpdatePast ReadCount = Unit {0}
UpdatePast RaiseCount = Unit {0}
UpdatePast (ReadCurrent r) = Unit {0}
UpdatePast (ReadFlag r n) = Unit {0}
UpdatePast (ReadAgain r n) = Past n
UpdatePast (ReadCell r n) = Past n
UpdatePast (Forward r n known) = Past n

abbrev SizePast : SizePoint → Type 0
SizePast FindCurrent = Unit {0}
SizePast (FindFlag n) = Unit {0}
SizePast (Announce n) = Unit {0}
SizePast (CollectCount n j) = Past n
SizePast (CollectCell n j v) = Past n
SizePast (CollectSet n j v) = Past n
SizePast (LowerFlag n) = Past n
SizePast (SumCell n j) = Past n
SizePast (FixSize n) = Past n

abbrev PointPast : Point → Type 0
PointPast Idle = Unit {0}
PointPast ReadSlot = Unit {0}
PointPast (Updating p u a) = UpdatePast p
PointPast CountInsertions = Unit {0}
PointPast (Link c) = Unit {0}
PointPast (HelpUnlink n d) = Unit {0}
PointPast (CountDeletions n) = Unit {0}
PointPast (Mark n c) = Unit {0}
PointPast (Unlink n d) = Unit {0}
PointPast (Sizing p) = SizePast p

abbrev UpdateNextPast : UpdateNext → Type 0
UpdateNextPast (Then p) = UpdatePast p
UpdateNextPast (Done r) = Unit {0}

abbrev SizeNextPast : SizeNext → Type 0
SizeNextPast (Goes p) = SizePast p
SizeNextPast (Sized a) = Unit {0}

abbrev NextPast : Next → Type 0
NextPast (To p) = PointPast p
NextPast (Returns a) = Unit {0}

-- ---- What a deed writes to is not record 0, and at a cell of one of so many threads.

abbrev UpdateSpares : ℕ → Update → UpdateDeed → Type 0
UpdateSpares threads u Reads = Unit {0}
UpdateSpares threads u Raises = Unit {0}
UpdateSpares threads u (Forwards n) = Past n × ((cell_of u).thread.0 < threads)

abbrev SizeSpares : ℕ → SizeDeed → Type 0
SizeSpares threads Looks = Unit {0}
SizeSpares threads Announces = Unit {0}
SizeSpares threads (Collects n j v) = Past n × (j.thread.0 < threads)
SizeSpares threads (Lowers n) = Past n
SizeSpares threads (Keeps j v) = Unit {0}
SizeSpares threads (Fixes n v) = Past n
SizeSpares threads (Shares n) = Unit {0}

abbrev Spares : ℕ → Deed → Type 0
Spares threads Rests = Unit {0}
Spares threads (Finds c) = Unit {0}
Spares threads (Links n) = Unit {0}
Spares threads (Marks n d) = Unit {0}
Spares threads Unlinks = Unit {0}
Spares threads (Updates d u) = UpdateSpares threads u d
Spares threads (Sizes d) = SizeSpares threads d

-- ---- The access of a thread, where record 0's flag is down.

record UpdateGoes (threads : ℕ) (u : Update) (v : UpdateMove) : Type 0 where
  next : UpdateNextPast v.next
  deed : UpdateSpares threads u v.deed

record SizeGoes (threads : ℕ) (v : SizeMove) : Type 0 where
  next : SizeNextPast v.next
  deed : SizeSpares threads v.deed

record MoveGoes (threads : ℕ) (v : Move) : Type 0 where
  next : NextPast v.next
  deed : Spares threads v.deed

module _ (b : Bounds) (s : Sight) (current : s.current.0 ≡ b.current) (few : b.current ≤ 64) where
  -- a flag that is up is not record 0's
  flagged : (n : SnapshotId) → (n.0 ≡ 0 → s.collecting ≡ false) → s.collecting ≡ true → Past n
  flagged n f e = go (ℕ_discrete n.0 0)
    where
      go : Dec (n.0 ≡ 0) → Past n
      go (yes q) = tests_differ e (f q)
      go (no k) = omega arith

  forward_goes : (u : Update) (r : Bool) (n : SnapshotId) (c : Target) (v : ℕ) → Past n → UpdateGoes b.threads u (forward_from r n c v)
  forward_goes u r n c v h =
      cond_both (UpdateGoes b.threads u) (behind v c) _ _ (record { next = h; deed = tt }) (record { next = tt; deed = tt })

  update_goes : (u : Update) (p : UpdatePoint) (c : Target) → ((looks_at_snapshot (Updating p u (Answer 0))).0 ≡ 0 → s.collecting ≡ false)
      → (cell_of u).thread.0 < b.threads → UpdatePast p → UpdateGoes b.threads u (update_at p c s)
  update_goes u ReadCount c f l h = record { next = cond_both UpdatePast (eqb s.count (c.0 - 1)) RaiseCount (ReadCurrent false) tt tt; deed = tt }
  update_goes u RaiseCount c f l h = record { next = tt; deed = cond_both (UpdateSpares b.threads u) (eqb s.count (c.0 - 1)) Raises Reads tt tt }
  update_goes u (ReadCurrent r) c f l h = record { next = tt; deed = tt }
  update_goes u (ReadFlag r n) c f l h =
      cond_case (UpdateGoes b.threads u) s.collecting _ _ (λ e. record { next = flagged n f e; deed = tt }) (λ e. record { next = tt; deed = tt })
  update_goes u (ReadAgain r n) c f l h =
      cond_both (UpdateGoes b.threads u) (eqb s.count c.0) _ _ (record { next = h; deed = tt }) (record { next = tt; deed = tt })
  update_goes u (ReadCell r n) c f l h = forward_goes u r n c s.cell h
  update_goes u (Forward r n known) c f l h =
      cond_both (UpdateGoes b.threads u) (eqb s.cell known) _ _ (record { next = tt; deed = (h, l) }) (forward_goes u r n c s.cell h)

  collect_past : (n : SnapshotId) (j : Cell) → Past n → SizePast (collect_next b.threads n j)
  collect_past n j h = cond_both SizePast (ltb (next_cell j).thread.0 b.threads) (CollectCount n (next_cell j)) (LowerFlag n) h h

  size_goes : (seen : List Counts) (p : SizePoint) → ((looks_at_snapshot (Sizing p)).0 ≡ 0 → s.collecting ≡ false)
      → SizePointIn b p → SizePast p → SizeGoes b.threads (size_at p b.threads seen s)
  size_goes seen FindCurrent f i h = record { next = tt; deed = tt }
  size_goes seen (FindFlag n) f i h =
      record { next = cond_case SizePast s.collecting (CollectCount n first_cell) (Announce n) (flagged n f) (λ e. tt); deed = tt }
  -- the announced one is not record 0, and nor is one that came after the snapshot that was found
  size_goes seen (Announce n) f i h =
      eq_case (SizeGoes b.threads) s.current.0 n.0 _ _
      (λ e. record { next = omega arith; deed = tt }) (λ k. record { next = omega arith; deed = tt })
  size_goes seen (CollectCount n j) f i h = record { next = h; deed = tt }
  size_goes seen (CollectCell n j v) f i h =
      record { next = cond_both SizePast (eqb s.cell invalid) (CollectSet n j v) (collect_next b.threads n j) h (collect_past n j h); deed = tt }
  size_goes seen (CollectSet n j v) f i h =
      record {
        next = collect_past n j h;
        deed = cond_both (SizeSpares b.threads) (eqb s.cell invalid) (Collects n j v) Looks (h, i.1) tt;
      }
  size_goes seen (LowerFlag n) f i h = record { next = h; deed = h }
  size_goes seen (SumCell n j) f i h = record { next = cond_both SizePast (ltb (next_cell j).thread.0 b.threads) (SumCell n (next_cell j)) (FixSize n) h h; deed = tt }
  size_goes seen (FixSize n) f i h =
      cond_both (SizeGoes b.threads) (eqb s.size invalid) _ _ (record { next = tt; deed = h }) (record { next = tt; deed = tt })

  update_next_lem : (v : UpdateNext) (u : Update) (a : After) → UpdateNextPast v → NextPast (update_next v u a)
  update_next_lem (Then p) u a h = h
  update_next_lem (Done r) u (Answer a) h = tt
  update_next_lem (Done r) u (ToMark n) h = tt
  update_next_lem (Done r) u (ToHelpUnlink n d) h = tt
  update_next_lem (Done r) u (ToUnlink n d) h = tt

  size_next_lem : (v : SizeNext) → SizeNextPast v → NextPast (size_next v)
  size_next_lem (Goes p) h = h
  size_next_lem (Sized a) h = tt

  found_next : (k : Call) (x : Content) → NextPast (found k x)
  found_next Insert Empty = tt
  found_next Insert (Live n) = tt
  found_next Insert (Marked n d) = tt
  found_next Delete Empty = tt
  found_next Delete (Live n) = tt
  found_next Delete (Marked n d) = tt
  found_next Contains Empty = tt
  found_next Contains (Live n) = tt
  found_next Contains (Marked n d) = tt
  found_next Size x = tt

  link_goes : (n : Node) (x : Content) → MoveGoes b.threads (link_found n x)
  link_goes n Empty = record { next = tt; deed = tt }
  link_goes n (Live a) = record { next = tt; deed = tt }
  link_goes n (Marked a d) = record { next = tt; deed = tt }

  access_goes : (t : ThreadId) (o : OpId) (k : Call) (seen : List Counts) (c : Content) (p : Point) → ((looks_at_snapshot p).0 ≡ 0 → s.collecting ≡ false)
      → PointIn b p → PointPast p → MoveGoes b.threads (access_of p t o k b.threads seen s c)
  access_goes t o k seen c Idle f i h = record { next = tt; deed = tt }
  access_goes t o k seen c ReadSlot f i h = record { next = found_next k c; deed = tt }
  access_goes t o k seen c (Updating p u a) f i h =
      let g = update_goes u p u.node.note.1 f i.1.thread h in
      record { next = update_next_lem (update_at p u.node.note.1 s).next u a g.next; deed = g.deed }
  access_goes t o k seen c CountInsertions f i h = record { next = tt; deed = tt }
  access_goes t o k seen c (Link g) f i h = link_goes (node_of t g o) c
  access_goes t o k seen c (HelpUnlink n d) f i h = record { next = tt; deed = cond_both (Spares b.threads) (is_marked n d c) Unlinks Rests tt tt }
  access_goes t o k seen c (CountDeletions n) f i h = record { next = tt; deed = tt }
  access_goes t o k seen c (Mark n g) f i h =
      cond_both (MoveGoes b.threads) (is_live n c) _ _ (record { next = tt; deed = tt }) (record { next = tt; deed = tt })
  access_goes t o k seen c (Unlink n d) f i h = record { next = tt; deed = cond_both (Spares b.threads) (is_marked n d c) Unlinks Rests tt tt }
  access_goes t o k seen c (Sizing p) f i h =
      let g = size_goes seen p f i h in
      record { next = size_next_lem (size_at p b.threads seen s).next g.next; deed = g.deed }

entry_past : (k : Call) → PointPast (entry k)
entry_past Insert = tt
entry_past Delete = tt
entry_past Contains = tt
entry_past Size = tt

stands_past : (k : Call) (p : Point) → PointPast p → PointPast (stands_at p k)
stands_past k Idle h = entry_past k
stands_past k ReadSlot h = h
stands_past k (Updating p u a) h = h
stands_past k CountInsertions h = h
stands_past k (Link c) h = h
stands_past k (HelpUnlink n d) h = h
stands_past k (CountDeletions n) h = h
stands_past k (Mark n c) h = h
stands_past k (Unlink n d) h = h
stands_past k (Sizing p) h = h

-- ---- The records, after each write.

-- the cells of threads that are not among so many
abbrev Absent : ℕ → Snapshot → Type 0
Absent threads s = (j : Cell) → threads ≤ j.thread.0 → j.thread.0 < 8 → count_at s.cells j ≡ invalid

record Calm (threads : ℕ) (snapshots : List Snapshot) (locals : List Local) : Type 0 where
  absent : (n : ℕ) → n < 65 → Absent threads (get_or snapshots n no_snapshot)
  first : get_or snapshots 0 no_snapshot ≡ fresh_snapshot false
  points : (t : ℕ) → PointPast (get_or locals t no_local).point

abbrev CalmIn : ℕ → Machine → Type 0
CalmIn threads m = Calm threads m.calculator.snapshots m.locals

fresh_absent : (threads : ℕ) (collecting : Bool) → Absent threads (fresh_snapshot collecting)
fresh_absent threads collecting j h l =
    ap (count_of j.kind) (get_or-replicate 8 j.thread.0 (both invalid) (both 0) l) ∙ of_both j.kind
  where
    of_both : (k : Kind) → count_of k (both invalid) ≡ invalid
    of_both Insertion = refl
    of_both Deletion = refl

module _ (threads : ℕ) (ys : List Snapshot) (ls : List Local) (h : Calm threads ys ls) where
  -- another record than record 0 is stored
  stored : (n : ℕ) (a : Snapshot) → 0 < n → (n < 65 → Absent threads a) → Calm threads (set ys n a) ls
  stored n a some e =
      record {
        absent = λ i l. set_holds (Absent threads) ys n i a no_snapshot (λ q. e (omega arith)) (h.absent i l);
        first = get_or-set_other ys n 0 a no_snapshot (λ q. omega arith) ∙ h.first;
        points = h.points;
      }

  placed : (t : ℕ) (x : Local) → PointPast x.point → Calm threads ys (set ls t x)
  placed t x e =
      record {
        absent = h.absent;
        first = h.first;
        points = λ i. set_holds (λ (y : Local). PointPast y.point) ls t i x no_local (λ q. e) (h.points i);
      }

  -- a cell of one of the threads is written
  cell_absent : (n v : ℕ) (j : Cell) → j.thread.0 < threads → n < 65
      → (i : Cell) → threads ≤ i.thread.0 → i.thread.0 < 8 → count_at (set_count (get_or ys n no_snapshot).cells j v) i ≡ invalid
  cell_absent n v j below l i k k' =
      count_other (get_or ys n no_snapshot).cells j i v (λ e. let q : i.thread.0 ≡ j.thread.0 = ap (λ (x : Cell). x.thread.0) e in omega arith)
      ∙ h.absent n l i k k'

module _ (threads : ℕ) (t : ThreadId) (o : OpId) (m : Machine) (few : m.calculator.current.0 ≤ 64) (h : CalmIn threads m) where
  abbrev ys : List Snapshot
  ys = m.calculator.snapshots

  calm_updates : (d : UpdateDeed) (u : Update) → UpdateSpares threads u d → CalmIn threads (updates d u t m)
  calm_updates Reads u k = h
  calm_updates Raises u k = h
  calm_updates (Forwards n) u k = stored threads ys m.locals h n.0 _ k.0 (cell_absent threads ys m.locals h n.0 _ (cell_of u) k.1)

  calm_sizes : (d : SizeDeed) → SizeSpares threads d → CalmIn threads (sizes d t o m)
  calm_sizes Looks k = h
  calm_sizes Announces k = stored threads ys m.locals h (new_id m.calculator.current).0 _ (omega arith) (λ l. fresh_absent threads true)
  calm_sizes (Collects n j v) k = stored threads ys m.locals h n.0 _ k.0 (cell_absent threads ys m.locals h n.0 v j k.1)
  calm_sizes (Lowers n) k = placed threads _ m.locals (stored threads ys m.locals h n.0 _ k (h.absent n.0)) t.0 _ (h.points t.0)
  calm_sizes (Keeps j v) k = placed threads ys m.locals h t.0 _ (h.points t.0)
  calm_sizes (Fixes n v) k = stored threads ys m.locals h n.0 _ k (h.absent n.0)
  calm_sizes (Shares n) k = h

  calm_does : (d : Deed) → Spares threads d → CalmIn threads (does d t o m)
  calm_does Rests k = h
  calm_does (Finds c) k = h
  calm_does (Links n) k = h
  calm_does (Marks n d) k = h
  calm_does Unlinks k = h
  calm_does (Updates d u) k = calm_updates d u k
  calm_does (Sizes d) k = calm_sizes d k

calm_goes : (threads : ℕ) (t : ThreadId) (o : OpId) (m : Machine) (v : Next) → NextPast v → CalmIn threads m → CalmIn threads (goes_on v t o m)
calm_goes threads t o m (To p) k h = placed threads _ m.locals h t.0 _ k
calm_goes threads t o m (Returns a) k h = placed threads _ m.locals h t.0 _ tt

-- ---- Every run.

module _ (threads keys : ℕ) (counts ops : List ℕ) where
  module _ (s : List ℕ) (w : Within threads keys counts ops s) (t : ThreadId) where
    abbrev m : Machine
    m = run_of (start_of threads keys counts ops) s

    abbrev asked : Call
    asked = (record_at m (local_at m t).op).asked.call

    abbrev point : Point
    point = stands_at (local_at m t).point asked

    goes_now : CalmIn threads m → MoveGoes threads (move_of m t)
    unfolding move_of
    goes_now h =
        let b = bounds_of (length ops) m in
        let f = limited_run threads keys counts ops s w in
        let e = (sound_run threads keys counts ops s w).threads in
        subst (λ (n : ℕ). MoveGoes n (move_of m t)) e
        (access_goes b (sight_of m.calculator (looks_at_snapshot point) (looks_at_cell t point)) refl f.current t (local_at m t).op asked (local_at m t).seen
        (content_at m (record_at m (local_at m t).op).asked.key) point
        (λ q. ap (λ (i : ℕ). (get_or m.calculator.snapshots i no_snapshot).collecting) q ∙ ap (λ (x : Snapshot). x.collecting) h.first)
        (stands_in b asked (local_at m t).point (f.within.points t))
        (stands_past asked (local_at m t).point (h.points t.0)))

    calm_access : CalmIn threads m → CalmIn threads (accessed m t)
    unfolding accessed
    calm_access h =
        let g = goes_now h in
        let o = (local_at m t).op in
        calm_goes threads t o _ (move_of m t).next g.next
        (calm_does threads t o (ticked o m) (limited_run threads keys counts ops s w).current h (move_of m t).deed g.deed)

    calm_step : CalmIn threads m → CalmIn threads (step_of m t)
    calm_step h = step_case (CalmIn threads) m t (λ l. calm_access h) (λ l. h)

  calm_start : CalmIn threads (start_of threads keys counts ops)
  calm_start =
      record {
        absent = λ n l. unfold start_of in subst (Absent threads) (sym (get_or-replicate 65 n (fresh_snapshot false) no_snapshot l)) (fresh_absent threads false);
        first = unfold start_of in refl;
        points = λ t. subst PointPast (sym (start_point threads keys counts ops t)) tt;
      }

  calm_run : (schedule : List ℕ) → Within threads keys counts ops schedule → CalmIn threads (run_of (start_of threads keys counts ops) schedule)
  calm_run = run_within threads keys counts ops (λ s. CalmIn threads) (λ s t w w' h. calm_step s w (record { 0 = t }) h) calm_start

  module _ (schedule : List ℕ) (w : Within threads keys counts ops schedule) where
    -- in an announced record, cells of absent threads are INVALID
    pub absent_invalid : (n : SnapshotId) (j : Cell) → n.0 ≤ (run_of (start_of threads keys counts ops) schedule).calculator.current.0
        → threads ≤ j.thread.0 → j.thread.0 < 8
        → count_at (snapshot_at (run_of (start_of threads keys counts ops) schedule).calculator n).cells j ≡ invalid
    absent_invalid n j l = (calm_run schedule w).absent n.0 (omega (arith, (limited_run threads keys counts ops schedule w).current)) j

    -- record 0 is not collecting, all else INVALID
    pub first_fresh : snapshot_at (run_of (start_of threads keys counts ops) schedule).calculator (record { 0 = 0 }) ≡ fresh_snapshot false
    first_fresh = (calm_run schedule w).first

-- ---- The same of the run that an accepted file asks for.

module _ (f : List ℕ) (ok : (read_of f).number ≡ 0) where
  pub absent_held : (n : SnapshotId) (j : Cell) → n.0 ≤ (machine_of f).calculator.current.0 → (read_of f).threads ≤ j.thread.0 → j.thread.0 < 8
      → count_at (snapshot_at (machine_of f).calculator n).cells j ≡ invalid
  unfolding machine_of
  absent_held = absent_invalid (read_of f).threads (read_of f).keys (read_of f).counts (operations_of f) (schedule_of f) (within f ok)

  pub first_held : snapshot_at (machine_of f).calculator (record { 0 = 0 }) ≡ fresh_snapshot false
  unfolding machine_of
  first_held = first_fresh (read_of f).threads (read_of f).keys (read_of f).counts (operations_of f) (schedule_of f) (within f ok)
