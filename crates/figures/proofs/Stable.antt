-- What survives a part of a step (`Grows`): facts of the history, and what a thread knows that does not step.
use Prim.Native.Nat.{ℕ, suc, ◌≤◌, ◌<◌}
use mathlib.Core.Path.{◌≡◌, refl, sym, ap, ◌∙◌}
use mathlib.Core.Logic.{◌≢◌, ◌⊎◌, inl, inr}
use native.Mathlib.Omega.{arith}
use native.Mathlib.Decide.{ℕ_discrete, dec_lt, dec_le}
use Rattle.figures.specs.declared.Asked.{Asked}
use Rattle.figures.specs.declared.Kind.{Kind}
use Rattle.figures.specs.declared.Kind.TheVariants.{Insertion, Deletion}
use Rattle.figures.specs.declared.Node.{Node}
use Rattle.figures.specs.declared.Update.{Update}
use Rattle.figures.specs.declared.UpdatePoint.{UpdatePoint}
use Rattle.figures.specs.declared.UpdatePoint.TheVariants.{ReadCount, RaiseCount, ReadCurrent, ReadFlag, ReadAgain, ReadCell, Forward}
use Rattle.figures.specs.declared.SizePoint.{SizePoint}
use Rattle.figures.specs.declared.SizePoint.TheVariants.{FindCurrent, FindFlag, Announce, CollectCount, CollectCell, CollectSet, LowerFlag, SumCell, FixSize}
use Rattle.figures.specs.declared.After.{After}
use Rattle.figures.specs.declared.After.TheVariants.{Answer, ToMark, ToHelpUnlink, ToUnlink}
use Rattle.figures.specs.declared.Point.{Point}
use Rattle.figures.specs.declared.Point.TheVariants.{Idle, ReadSlot, Updating, CountInsertions, Link, HelpUnlink, CountDeletions, Mark, Unlink, Sizing}
use Rattle.figures.specs.Limits.{invalid}
use Rattle.figures.proofs.World.{World, thr, key, call, cell_op, cell_no, kind_of, update_cell, update_target, update_op}
use Rattle.figures.proofs.Inv.{Core, Known, Fair, ReadFor, Settles, Settled, InWindow, Noted, Raised, Sighted, Forwarding, AtUpdate, Owning, Helping, Afterwards, AtLink, AtMark, Looking, Using, Collecting, Carrying, Lowering, Summing, AtSize, Knows}
use Rattle.figures.proofs.Inv.Settles.{alone, after, reached, caught}
use Rattle.figures.proofs.Grows.{Grows, Alone, Ages, Owed}

-- a cell's number tells its thread and its kind
pub cell_no_thread : (t t' : ℕ) (k k' : Kind) → cell_no t k ≡ cell_no t' k' → t ≡ t'
cell_no_thread t t' Insertion Insertion e = omega arith
cell_no_thread t t' Insertion Deletion e = omega arith
cell_no_thread t t' Deletion Insertion e = omega arith
cell_no_thread t t' Deletion Deletion e = omega arith

pub cell_no_kind : (t t' : ℕ) (k k' : Kind) → cell_no t k ≡ cell_no t' k' → k ≡ k'
cell_no_kind t t' Insertion Insertion e = refl
cell_no_kind t t' Insertion Deletion e = absurd (omega arith)
cell_no_kind t t' Deletion Insertion e = absurd (omega arith)
cell_no_kind t t' Deletion Deletion e = refl

pub settles_later : {w : World} {u y y' : ℕ} → y ≤ y' → Settles w u y → Settles w u y'
settles_later h (alone e) = alone e
settles_later h (after c b) = after c (omega arith)
settles_later h (reached c i e) = reached c i e
settles_later h (caught c e) = caught c e

pub settled_later : {w : World} {u y y' : ℕ} → y ≤ y' → Settled w u y → Settled w u y'
settled_later h s = record { raised = s.raised; before = omega arith; how = settles_later h s.how }

-- v has every update of cell q that was raised before the announcement of s
abbrev pub Reaches : World → ℕ → ℕ → ℕ → Type 0
Reaches w s q v = (u : ℕ) → 0 < w.raised u → cell_op w u ≡ q → w.raised u < w.ann s → w.target u ≤ v

module _ {T n x t a : ℕ} {w w' : World} (core : Core T n x w) (g : Grows x t a w w') where
  -- ---- Operations.

  pub thr_grows : (o : ℕ) → thr w' o ≡ thr w o
  thr_grows o = ap (λ (f : ℕ → Asked). (f o).thread.0) g.asked

  pub key_grows : (o : ℕ) → key w' o ≡ key w o
  key_grows o = ap (λ (f : ℕ → Asked). (f o).key) g.asked

  pub call_grows : (o : ℕ) → call w' o ≡ call w o
  call_grows o = ap (λ (f : ℕ → Asked). (f o).call) g.asked

  pub cell_op_grows : (o : ℕ) → cell_op w' o ≡ cell_op w o
  cell_op_grows o = ap (λ (f : ℕ → Asked). cell_no (f o).thread.0 (kind_of (f o).call)) g.asked

  pub noted_grows : {d : Node} {k : Kind} {on : ℕ} → Noted w d k on → Noted w' d k on
  noted_grows {d} m =
      let o = d.op.0 in
      let s = (g.swap o).kept m.exchanged in
      record {
        exchanged = rw s.0 m.exchanged;
        does = call_grows o ∙ m.does;
        on_key = key_grows o ∙ m.on_key;
        by_thread = thr_grows o ∙ m.by_thread;
        aims = s.1 ∙ m.aims;
      }

  -- an update that is raised keeps its step, its window and its target
  pub risen_grows : (u : ℕ) → 0 < w.raised u → (w'.raised u ≡ w.raised u) × (w'.window u ≡ w.window u) × (w'.target u ≡ w.target u)
  risen_grows u r =
      let k = (g.rise u).kept r in
      (k.0, k.1, ((g.swap u).kept (core.records.raises u r).exchanged).1)

  -- one that is raised by step x was raised before
  pub risen_before : (u : ℕ) → 0 < w'.raised u → w'.raised u ≤ x → 0 < w.raised u
  risen_before u r b = go (dec_lt 0 (w.raised u))
    where
      go : Dec (0 < w.raised u) → 0 < w.raised u
      go (yes h) = h
      go (no h) = absurd (omega (arith, (g.rise u).new (omega arith) r))

  -- ---- Snapshots.

  pub known_grows : {s : ℕ} → Known w s → Known w' s
  known_grows k = record { some = k.some; there = omega (arith, g.cur) }

  pub reaches_grows : (s q v : ℕ) → Known w s → Reaches w s q v → Reaches w' s q v
  reaches_grows s q v k f u r e b =
      let ann = (g.ages s k).ann in
      let at = core.snaps.announced s k in
      let old : 0 < w.raised u = risen_before u r (omega arith) in
      let same = risen_grows u old in
      omega (arith, f u old (sym (cell_op_grows u) ∙ e) (omega arith))

  pub fair_grows : {s q v : ℕ} → Known w s → Fair w s q v → Fair w' s q v
  fair_grows {s} {q} {v} k f =
      record {
        low = omega (arith, g.count q);
        reach = reaches_grows s q v k f.reach;
        early = λ u r e b c. early u r (sym (cell_op_grows u) ∙ e) b c (dec_lt 0 (w.raised u)) (dec_lt 0 (w.closed s));
      }
    where
      early : (u : ℕ) → 0 < w'.raised u → cell_op w u ≡ q → w'.target u ≤ v → 0 < w'.closed s → Dec (0 < w.raised u) → Dec (0 < w.closed s) → w'.raised u < w'.closed s
      early u r e b c (yes h) (yes d) =
          let same = risen_grows u h in
          let closed = (g.ages s k).closed d in
          omega (arith, f.early u h e (omega arith) d)
      early u r e b c (yes h) (no d) =
          let same = risen_grows u h in
          omega (arith, (g.ages s k).closes (omega arith) c, (core.records.raises u h).past)
      early u r e b c (no h) d =
          let new = (g.rise u).new (omega arith) r in
          let here : w.count (cell_op w u) ≡ w.count q = ap w.count e in
          absurd (omega (arith, f.low))

  pub read_for_grows : {s q v : ℕ} → Known w s → 0 < w.closed s → ReadFor w s q v → ReadFor w' s q v
  read_for_grows {s} {q} k c f = record { fair = fair_grows k f.fair; since = rw ((g.ages s k).held c q) f.since }

  pub in_window_grows : {u s : ℕ} → 0 < w.raised u → InWindow w u s → InWindow w' u s
  in_window_grows {u} {s} r i =
      let same = risen_grows u r in
      let ann = (g.ages s i.known).ann in
      record { known = known_grows i.known; after = omega (arith, i.after); before = λ c. before c (dec_lt 0 (w.closed s)) }
    where
      before : 0 < w'.closed s → Dec (0 < w.closed s) → w'.raised u < w'.closed s
      before c (yes d) = omega (arith, risen_grows u r, (g.ages s i.known).closed d, i.before d)
      before c (no d) = omega (arith, risen_grows u r, (g.ages s i.known).closes (omega arith) c, (core.records.raises u r).past)

  -- ---- Settled.

  settles_grows : (u y : ℕ) → 0 < w.raised u → Known w (w.window u) → Settles w u y → Settles w' u y
  settles_grows u y r k how = go how
    where
      aged : Ages x w w' (w.window u)
      aged = g.ages (w.window u) k

      win : w'.window u ≡ w.window u
      win = (risen_grows u r).1

      aim : w'.target u ≡ w.target u
      aim = (risen_grows u r).2

      reaching : w.cell (w.window u) (cell_op w u) ≢ invalid → w.target u ≤ w.cell (w.window u) (cell_op w u) → w.closed (w.window u) ≡ 0 → Dec (0 < w'.closed (w.window u)) → Settles w' u y
      reaching i e c (yes d) =
          caught (rw win d) (rw (win, aim, cell_op_grows u) (omega (arith, aged.holds c d (cell_op w u) i)))
      reaching i e c (no d) =
          let cell = aged.cell (cell_op w u) i in
          reached (rw win (omega arith)) (rw (win, cell_op_grows u) cell.0) (rw (win, aim, cell_op_grows u) (omega (arith, cell.1)))

      go : Settles w u y → Settles w' u y
      go (alone e) = alone (win ∙ e)
      go (after c b) = after (rw (win, aged.closed c) c) (rw (win, aged.closed c) b)
      go (reached c i e) = reaching i e c (dec_lt 0 (w'.closed (w.window u)))
      go (caught c e) = caught (rw (win, aged.closed c) c) (rw (win, aim, cell_op_grows u, aged.held c (cell_op w u)) e)

  pub settled_grows : {u y : ℕ} → Settled w u y → Settled w' u y
  settled_grows {u} {y} s =
      let same = risen_grows u s.raised in
      record { raised = omega arith; before = omega (arith, s.before); how = go (ℕ_discrete (w.window u) 0) }
    where
      go : Dec (w.window u ≡ 0) → Settles w' u y
      go (yes e) = alone ((risen_grows u s.raised).1 ∙ e)
      go (no e) = settles_grows u y s.raised (core.windows.told u s.raised (omega arith)).known s.how

  -- ---- Inside an update of the metadata.

  module _ {u : Update} {s : ℕ} where
    pub raised_grows : Raised w u s → Raised w' u s
    raised_grows h =
        let same = risen_grows (update_op u) h.raised in
        record { raised = omega (arith, h.raised); window = omega (arith, h.window); there = omega (arith, h.there, g.cur) }

    pub sighted_grows : Sighted w u s → Sighted w' u s
    sighted_grows h =
        record { raised = raised_grows h.raised; some = h.some; early = λ c. early c (dec_lt 0 (w.closed s)) }
      where
        known : Known w s
        known = record { some = h.some; there = h.raised.there }

        early : 0 < w'.closed s → Dec (0 < w.closed s) → w'.raised (update_op u) < w'.closed s
        early c (yes d) = omega (arith, risen_grows (update_op u) h.raised.raised, (g.ages s known).closed d, h.early d)
        early c (no d) = omega (arith, risen_grows (update_op u) h.raised.raised, (g.ages s known).closes (omega arith) c, (core.records.raises (update_op u) h.raised.raised).past)

    pub forwarding_grows : Forwarding w u s → Forwarding w' u s
    forwarding_grows h =
        let known : Known w s = record { some = h.sighted.some; there = h.sighted.raised.there } in
        record { sighted = sighted_grows h.sighted; reach = reaches_grows s (update_cell u) (update_target u) known h.reach }

  pub at_update_grows : {u : Update} (p : UpdatePoint) → Noted w u.node u.kind (key w (update_op u)) → AtUpdate w u p → AtUpdate w' u p
  at_update_grows ReadCount m h = tt
  at_update_grows RaiseCount m h = tt
  at_update_grows {u} (ReadCurrent r) m h = rw (risen_grows (update_op u) h).0 h
  at_update_grows (ReadFlag r s) m h = raised_grows h
  at_update_grows (ReadAgain r s) m h = sighted_grows h
  at_update_grows (ReadCell r s) m h = forwarding_grows h
  at_update_grows (Forward r s v) m h = (forwarding_grows h.0, h.1)

  -- ---- An operation that does not step.

  module _ {o : ℕ} (other : o ≢ a) where
    rests : Alone w w' o
    rests = g.alone o other

    noted_own : {d : Node} {k : Kind} → Noted w d k (key w o) → Noted w' d k (key w' o)
    noted_own m = rw (key_grows o) (noted_grows m)

    fresh_grows : w.exch o ≡ 0 → w'.exch o ≡ 0
    fresh_grows e = rests.exch ∙ e

    on_key_grows : (d : Node) → key w d.op.0 ≡ key w o → key w' d.op.0 ≡ key w' o
    on_key_grows d e = rw (key_grows d.op.0, key_grows o) e

    owning_grows : {u : Update} {b : ℕ} → Owning w o u b → Owning w' o u b
    owning_grows h = record { own = h.own; does = call_grows o ∙ h.does; one = h.one }

    helping_grows : {u : Update} {b : ℕ} → Helping w o u b → Helping w' o u b
    helping_grows h =
        record {
          fresh = fresh_grows h.fresh;
          looked = rw rests.read h.looked;
          is_found = rw rests.found h.is_found;
          fits = rw (call_grows o, rests.found) h.fits;
        }

    pub afterwards_grows : (u : Update) (b : After) → Afterwards w o u b → Afterwards w' o u b
    afterwards_grows u (Answer b) (inl h) = inl (owning_grows h)
    afterwards_grows u (Answer b) (inr h) = inr (helping_grows h)
    afterwards_grows u (ToMark d) h =
        record { fresh = fresh_grows h.fresh; does = call_grows o ∙ h.does; same = h.same; on_key = on_key_grows d h.on_key }
    afterwards_grows u (ToHelpUnlink m d) h =
        record { fresh = fresh_grows h.fresh; does = call_grows o ∙ h.does; same = h.same; on_key = on_key_grows d h.on_key }
    afterwards_grows u (ToUnlink m d) h = record { does = call_grows o ∙ h.does; same = h.same; own = h.own }

  -- ---- A size; its first step was not after x where it looks, and not after this step where it uses a snapshot.

  module _ {o s : ℕ} (same : w'.first o ≡ w.first o) where
    pub looking_grows : w.first o ≤ x → Looking w o s → Looking w' o s
    looking_grows b h =
        record { there = omega (arith, h.there, g.cur); later = λ s' l i. later s' l i (dec_le s' w.cur) }
      where
        later : (s' : ℕ) → s < s' → s' ≤ w'.cur → Dec (s' ≤ w.cur) → w'.first o < w'.ann s'
        later s' l i (yes d) =
            let known : Known w s' = record { some = omega arith; there = d } in
            omega (arith, (g.ages s' known).ann, h.later s' l d)
        later s' l i (no d) = omega (arith, g.new s' (omega arith) i)

    pub using_grows : w.first o ≤ suc x → Using w o s → Using w' o s
    using_grows b h = record { known = known_grows h.known; began = λ c. began c (dec_lt 0 (w.closed s)) }
      where
        began : 0 < w'.closed s → Dec (0 < w.closed s) → w'.first o ≤ w'.closed s
        began c (yes d) = omega (arith, (g.ages s h.known).closed d, h.began d)
        began c (no d) = omega (arith, (g.ages s h.known).closes (omega arith) c)

    pub collecting_grows : {q : ℕ} → w.first o ≤ suc x → Collecting T w o s q → Collecting T w' o s q
    collecting_grows b h =
        record {
          using' = using_grows b h.using';
          inside = h.inside;
          valid = λ q i. ((g.ages s h.using'.known).cell q (h.valid q i)).0;
        }

    pub carrying_grows : {q v : ℕ} → w.first o ≤ suc x → Carrying T w o s q v → Carrying T w' o s q v
    carrying_grows {q} {v} b h =
        record {
          collecting = collecting_grows b h.collecting;
          low = omega (arith, h.low, g.count q);
          reach = reaches_grows s q v h.collecting.using'.known h.reach;
        }

    pub lowering_grows : w.first o ≤ suc x → Lowering T w o s → Lowering T w' o s
    lowering_grows b h =
        record { using' = using_grows b h.using'; valid = λ q i. ((g.ages s h.using'.known).cell q (h.valid q i)).0 }

    pub summing_grows : {t' q : ℕ} → w'.mine t' ≡ w.mine t' → w.first o ≤ suc x → Summing T w t' o s q → Summing T w' t' o s q
    summing_grows {t'} {q} m b h =
        let known = h.using'.known in
        record {
          using' = using_grows b h.using';
          inside = h.inside;
          closed = rw ((g.ages s known).closed h.closed) h.closed;
          reads = λ q' i. rw m (read_for_grows known h.closed (h.reads q' i));
          rest = λ q' i. rw m (h.rest q' i);
        }

  -- ---- A thread that does not step.

  -- its counters stay, unless its operation is exchanged
  pub count_grows : (t' : ℕ) (k : Kind) → w.exch (w.op t') ≡ 0 → w'.count (cell_no t' k) ≡ w.count (cell_no t' k)
  count_grows t' k e = go (g.owed (cell_no t' k))
    where
      go : (w'.count (cell_no t' k) ≡ w.count (cell_no t' k)) ⊎ Owed w (cell_no t' k) → w'.count (cell_no t' k) ≡ w.count (cell_no t' k)
      go (inl h) = h
      go (inr h) =
          let mine : thr w h.u ≡ t' = cell_no_thread (thr w h.u) t' (kind_of (call w h.u)) k h.cell in
          let own : w.op t' ≡ h.u = rw mine at h.current in
          absurd (omega (arith, h.exch, ap w.exch own))

  pub at_size_grows : {t' o : ℕ} → w'.mine t' ≡ w.mine t' → w'.first o ≡ w.first o → w.first o ≤ x → (p : SizePoint) → AtSize T w t' o p → AtSize T w' t' o p
  at_size_grows m e b FindCurrent h = tt
  at_size_grows m e b (FindFlag s) h = looking_grows e b h
  at_size_grows m e b (Announce s) h =
      (looking_grows e b h.0, λ p. (g.ages s.0 (record { some = p; there = h.0.there })).flag (h.1 p))
  at_size_grows m e b (CollectCount s j) h = collecting_grows e (omega arith) h
  at_size_grows m e b (CollectCell s j v) h = carrying_grows e (omega arith) h
  at_size_grows m e b (CollectSet s j v) h = carrying_grows e (omega arith) h
  at_size_grows m e b (LowerFlag s) h = lowering_grows e (omega arith) h
  at_size_grows m e b (SumCell s j) h = (h.0, summing_grows e m (omega arith) h.1)
  at_size_grows m e b (FixSize s) h = summing_grows e m (omega arith) h

  -- a thread that keeps its operation, which is not the acting one, and the values that it has read
  module _ {x' t' : ℕ} (later : x ≤ x') (stays : w'.op t' ≡ w.op t') (keeps : w'.mine t' ≡ w.mine t') (other : w.op t' ≢ a) (began : w.first (w.op t') ≤ x) where
    abbrev o : ℕ
    o = w.op t'

    settled_by : {u : ℕ} → Settled w u (suc x) → Settled w' u (suc x')
    settled_by s = settled_later (omega arith) (settled_grows s)

    at_link : AtLink w t' o → AtLink w' t' o
    at_link h = record { fresh = fresh_grows other h.fresh; does = call_grows o ∙ h.does }

    at_mark : {d : Node} → AtMark x w o d → AtMark x' w' o d
    at_mark h =
        record {
          fresh = fresh_grows other h.fresh;
          does = call_grows o ∙ h.does;
          noted = noted_own other h.noted;
          settled = settled_by h.settled;
        }

    own : (p : Point) → Knows T x w t' o p → Knows T x' w' t' o p
    own Idle h = tt
    own ReadSlot h = (fresh_grows other h.0, rw (call_grows o) h.1)
    own (Updating p u b) h =
        record {
          noted = rw (key_grows (update_op u)) (noted_grows h.noted);
          here = at_update_grows p h.noted h.here;
          then' = afterwards_grows other u b h.then';
        }
    own CountInsertions h = at_link h
    own (Link c) h = (at_link h.0, h.1 ∙ ap suc (sym (count_grows t' Insertion h.0.fresh)))
    own (HelpUnlink m d) h =
        record {
          fresh = fresh_grows other h.fresh;
          does = call_grows o ∙ h.does;
          noted = noted_own other h.noted;
          settled = settled_by h.settled;
        }
    own (CountDeletions d) h = at_mark h
    own (Mark d c) h = (at_mark h.0, h.1 ∙ ap suc (sym (count_grows t' Deletion h.0.fresh)))
    own (Unlink m d) h =
        record { own = h.own; does = call_grows o ∙ h.does; noted = noted_own other h.noted; settled = settled_by h.settled }
    own (Sizing p) h =
        (call_grows o ∙ h.0, at_size_grows keeps (g.alone o other).first began p h.1)

    pub knows_grows : (p : Point) → Knows T x w t' (w.op t') p → Knows T x' w' t' (w'.op t') p
    knows_grows p h = rw stays (own p h)
