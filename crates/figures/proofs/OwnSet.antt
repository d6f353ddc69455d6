-- What a thread inside an insert, a delete or a contains may change, and what it knows after its access.
use Prim.Native.Nat.{ℕ, suc, ◌≤◌, ◌<◌}
use mathlib.Core.Path.{◌≡◌, refl, sym, ◌∙◌}
use mathlib.Core.Logic.{◌≢◌, ◌⊎◌, inl, inr}
use mathlib.Core.Bool.{true}
use mathlib.Core.List.{List}
use native.Mathlib.Omega.{arith}
use borrow.Author.Tests.{eqb-true}
use Rattle.terms.specs.declared.Target.{Target}
use Rattle.figures.specs.declared.Kind.{Kind}
use Rattle.figures.specs.declared.Kind.TheVariants.{Insertion, Deletion}
use Rattle.figures.specs.declared.Counts.{Counts}
use Rattle.figures.specs.declared.Sight.{Sight}
use Rattle.figures.specs.declared.Content.{Content}
use Rattle.figures.specs.declared.Content.TheVariants.{Empty, Live, Marked}
use Rattle.figures.specs.declared.Call.{Call}
use Rattle.figures.specs.declared.Call.TheVariants.{Insert, Delete, Contains, Size}
use Rattle.figures.specs.declared.Node.{Node}
use Rattle.figures.specs.declared.Update.{Update}
use Rattle.figures.specs.declared.UpdatePoint.TheVariants.{ReadCount}
use Rattle.figures.specs.declared.After.TheVariants.{Answer, ToMark, ToUnlink}
use Rattle.figures.specs.declared.Point.{Point}
use Rattle.figures.specs.declared.Point.TheVariants.{Idle, ReadSlot, Updating, CountInsertions, Link, HelpUnlink, CountDeletions, Mark, Unlink, Sizing}
use Rattle.figures.specs.declared.Deed.TheVariants.{Rests, Unlinks}
use Rattle.figures.specs.declared.Next.TheVariants.{To, Returns}
use Rattle.figures.specs.Figure4.{more}
use Rattle.figures.specs.Figure6.{total_of}
use Rattle.figures.specs.Figure3.{insertion, deletion, found, read_slot, link_found, mark, help_unlink, unlink, is_live, is_marked, same_node, node_of, goes_to, looks_at_cell, looks_at_snapshot}
use Rattle.figures.specs.Step.{access_of}
use Rattle.figures.proofs.Laws.{cond_case, and_true}
use Rattle.figures.proofs.World.{World, put, put_same, thr, key, call, cell_no, no_of, find, exchange, empty, update_op}
use Rattle.figures.proofs.Inv.{Core, Noted, Settled, Holds, Fits, FoundSettled, IsFound, AtUpdating, AtMark, AtHelp, AtUnlink, Knows, total}
use Rattle.figures.proofs.Guar.{Acting, New, UnlinksNow, ReturnsNow}
use Rattle.figures.proofs.Guar.ReturnsNow.{changed, finder}
use Rattle.figures.proofs.Same.{noted_same, settled_empty}
use Rattle.figures.proofs.Stable.{settled_later}
use Rattle.figures.proofs.OwnUpdate.{Sees, Onward, Branch, Past, count_small, update_branch}
use Rattle.figures.proofs.OwnSize.{size_branch}

-- the node, whichever key it is asked of
own_key : {w : World} {d : Node} {k : Kind} {on : ℕ} → Noted w d k on → Noted w d k (key w d.op.0)
own_key m = record { exchanged = m.exchanged; does = m.does; on_key = refl; by_thread = m.by_thread; aims = m.aims }

not_size : {k : Call} → k ≡ Insert ⊎ k ≡ Delete → k ≢ Size
not_size (inl e) i = let z : ◌≡◌ {A = ℕ} 0 1 = cc in omega arith
not_size (inr e) i = let z : ◌≡◌ {A = ℕ} 0 1 = cc in omega arith

module _ {T n x : ℕ} {w : World} {t o : ℕ} (core : Core T n x w) (acting : Acting T n x w t o) where
  -- ---- Reading the slot.

  module _ (fresh : w.exch o ≡ 0) (c : Content) (is : c ≡ w.content (key w o)) where
    abbrev looked : World
    looked = find o c w

    found_is : looked.found o ≡ c
    found_is = put_same w.found o c

    read_on : 0 < looked.read o
    read_on = rw put_same (omega (arith, acting.clock))

    -- an answer that needs nothing more
    returns : (a : ℕ) → Fits (call w o) c a → FoundSettled w c (suc (suc x)) → FoundSettled looked c (suc (suc x)) → ReturnsNow (suc x) looked o a
    returns a f _ s = finder (record { fresh = fresh; looked = read_on; fits = rw found_is f; settled = rw found_is s })

    helping : (u : Update) (a : ℕ) → Noted w u.node u.kind (key w (update_op u)) → IsFound c u → Fits (call w o) c a
        → AtUpdating looked o ReadCount u (Answer a)
    helping u a m i f =
        record {
          noted = noted_same w looked refl refl refl m;
          here = tt;
          then' = inr (record { fresh = fresh; looked = read_on; is_found = rw found_is i; fits = rw found_is f });
        }

  holds : (c : Content) → c ≡ w.content (key w o) → Holds x w (key w o) c
  holds c e = rw e (core.keys.holds (key w o))

  module _ (fresh : w.exch o ≡ 0) where
    look : (k : Call) → k ≡ call w o → k ≢ Size → (c : Content) → c ≡ w.content (key w o) → Onward T (suc x) (find o c w) t o (found k c)
    look Insert e i Empty b = record { fresh = fresh; does = sym e }
    look Insert e i (Live d) b = helping fresh (Live d) b (insertion d) 0 (own_key (holds (Live d) b).noted) refl (rw (sym e) refl)
    look Insert e i (Marked m d) b =
        let h = holds (Marked m d) b in
        record { noted = noted_same w _ refl refl refl (own_key h.noted); here = tt; then' = record { fresh = fresh; does = sym e; same = refl; on_key = h.noted.on_key } }
    look Delete e i Empty b = returns fresh Empty b 0 (rw (sym e) refl) tt tt
    look Delete e i (Live d) b =
        let h = holds (Live d) b in
        let at : AtUpdating (find o (Live d) w) o ReadCount (insertion d) (ToMark d) =
        record { noted = noted_same w _ refl refl refl (own_key h.noted); here = tt; then' = record { fresh = fresh; does = sym e; same = refl; on_key = h.noted.on_key } } in
        at
    look Delete e i (Marked m d) b = helping fresh (Marked m d) b (deletion d) 0 (own_key (holds (Marked m d) b).noted) refl (rw (sym e) refl)
    look Contains e i Empty b = returns fresh Empty b 0 (rw (sym e) refl) tt tt
    look Contains e i (Live d) b = helping fresh (Live d) b (insertion d) 1 (own_key (holds (Live d) b).noted) refl (rw (sym e) refl)
    look Contains e i (Marked m d) b = helping fresh (Marked m d) b (deletion d) 0 (own_key (holds (Marked m d) b).noted) refl (rw (sym e) refl)
    look Size e i c b = absurd (i refl)

  read_branch : (k : Call) (c : Content) → k ≡ call w o → c ≡ w.content (key w o) → Knows T x w t o ReadSlot → Branch T x w t o (read_slot k c)
  read_branch k c e i h = record { guar = i; onward = look h.0 k e (λ z. h.1 (sym e ∙ z)) c i }

  -- ---- Exchanging the slot.

  -- an exchange that fails reads again
  again : (k : Call) → w.exch o ≡ 0 → call w o ≡ k → k ≡ Insert ⊎ k ≡ Delete → Branch T x w t o (goes_to ReadSlot)
  again k f e i = record { guar = tt; onward = (f, λ z. not_size i (sym e ∙ z)) }

  -- the new node, or mark, of o
  module _ (k : Kind) (c : Content) (u : Update) (new : New w t o (cell_no t k) u.node) (kind : u.kind ≡ k) (does : call w o ≡ Rattle.figures.proofs.World.call_for k) where
    abbrev exchanged : World
    exchanged = exchange o u.node.note.1.0 c w

    noted_new : Noted exchanged u.node u.kind (key w (update_op u))
    noted_new =
        record {
          exchanged = rw (new.op, put_same) (omega (arith, acting.clock));
          does = rw (new.op, kind) does;
          on_key = refl;
          by_thread = rw new.op (acting.thread ∙ sym new.by_thread);
          aims = rw (new.op, put_same);
        }

  module _ (small : n ≤ 64) (past : Past w) where
    one_more : (q : ℕ) → more (w.count q) ≡ suc (w.count q)
    one_more q = omega (arith, count_small core acting small past q)

    link_branch : (g : Target) (c : Content) → c ≡ w.content (key w o) → Knows T x w t o (Link g) → Branch T x w t o (link_found (node_of (record { 0 = t }) g (record { 0 = o })) c)
    link_branch g Empty e h =
        let new : New w t o (cell_no t Insertion) (node_of (record { 0 = t }) g (record { 0 = o })) = record { op = refl; by_thread = refl; aims = h.1 } in
        record {
          guar = record { fresh = h.0.fresh; does = h.0.does; empty = sym e; node = new };
          onward =
              record {
                noted = noted_new Insertion (Live (node_of (record { 0 = t }) g (record { 0 = o }))) (insertion (node_of (record { 0 = t }) g (record { 0 = o }))) new refl h.0.does;
                here = tt;
                then' = inl (record { own = refl; does = h.0.does; one = refl });
              };
        }
    link_branch g (Live a) e h = again Insert h.0.fresh h.0.does (inl refl)
    link_branch g (Marked a b) e h = again Insert h.0.fresh h.0.does (inl refl)

    -- what a comparison of the slot tells
    live_is : (d : Node) (c : Content) → is_live d c ≡ true → (b : Node) × (c ≡ Live b) × (b.op.0 ≡ d.op.0)
    live_is d Empty e = let z : ◌≡◌ {A = ℕ} 0 1 = cc in absurd (omega arith)
    live_is d (Live a) e = (a, refl, eqb-true a.op.0 d.op.0 e)
    live_is d (Marked a b) e = let z : ◌≡◌ {A = ℕ} 0 1 = cc in absurd (omega arith)

    marked_is : (m d : Node) (c : Content) → is_marked m d c ≡ true → (a : Node) × (b : Node) × (c ≡ Marked a b) × (b.op.0 ≡ d.op.0)
    marked_is m d Empty e = let z : ◌≡◌ {A = ℕ} 0 1 = cc in absurd (omega arith)
    marked_is m d (Live a) e = let z : ◌≡◌ {A = ℕ} 0 1 = cc in absurd (omega arith)
    marked_is m d (Marked a b) e = (a, b, refl, eqb-true b.op.0 d.op.0 (and_true (same_node a m) (same_node b d) e).1)

    mark_branch : (d : Node) (g : Target) (c : Content) → c ≡ w.content (key w o) → Knows T x w t o (Mark d g)
        → Branch T x w t o (mark (record { 0 = t }) (record { 0 = o }) d g c)
    mark_branch d g c e h =
        let mk = node_of (record { 0 = t }) g (record { 0 = o }) in
        let new : New w t o (cell_no t Deletion) mk = record { op = refl; by_thread = refl; aims = h.1 } in
        cond_case (Branch T x w t o) (is_live d c) _ (goes_to ReadSlot)
        (λ i. let l = live_is d c i in
        record {
          guar = record { fresh = h.0.fresh; does = h.0.does; b = l.0; live = sym e ∙ l.1; same = l.2; noted = h.0.noted; settled = h.0.settled; node = new };
          onward =
              let at : AtUpdating (exchange o mk.note.1.0 (Marked d mk) w) o ReadCount (deletion mk) (ToUnlink d mk) =
              record {
                noted = noted_new Deletion (Marked d mk) (deletion mk) new refl h.0.does;
                here = tt;
                then' = record { does = h.0.does; same = refl; own = refl };
              } in
              at;
        })
        (λ i. again Delete h.0.fresh h.0.does (inr refl))

    unlinks_now : (m d : Node) (c : Content) → c ≡ w.content (key w o) → Settled w d.op.0 (suc x) → is_marked m d c ≡ true → UnlinksNow x w o
    unlinks_now m d c e s i = let l = marked_is m d c i in record { n = l.0; d = l.1; marked = sym e ∙ l.2; settled = rw l.3 s }

    help_branch : (m d : Node) (c : Content) → c ≡ w.content (key w o) → AtHelp x w o d → Branch T x w t o (help_unlink m d c)
    help_branch m d c e h =
        cond_case (λ b. Branch T x w t o (record { next = To ReadSlot; deed = b })) (is_marked m d c) Unlinks Rests
        (λ i. record { guar = unlinks_now m d c e h.settled i; onward = (h.fresh, λ z. not_size (inl h.does) z) })
        (λ i. record { guar = tt; onward = (h.fresh, λ z. not_size (inl h.does) z) })

    unlink_branch : (m d : Node) (c : Content) → c ≡ w.content (key w o) → AtUnlink x w o d → Branch T x w t o (unlink m d c)
    unlink_branch m d c e h =
        cond_case (λ b. Branch T x w t o (record { next = Returns 1; deed = b })) (is_marked m d c) Unlinks Rests
        (λ i. record {
          guar = unlinks_now m d c e (rw h.own h.settled) i;
          onward = changed (record { exchanged = there; one = refl; settled = settled_empty w (key w o) (settled_later (omega arith) h.settled) });
        })
        (λ i. record { guar = tt; onward = changed (record { exchanged = there; one = refl; settled = settled_later (omega arith) h.settled }) })
      where
        there : 0 < w.exch o
        there = rw (← h.own) h.noted.exchanged

    later_mark : {d : Node} → AtMark x w o d → AtMark (suc x) w o d
    later_mark h = record { fresh = h.fresh; does = h.does; noted = h.noted; settled = settled_later (omega arith) h.settled }

    -- ---- Any access.

    pub access_branch : T ≤ 8 → w.cur < 255 → (p : Point) (seen : List Counts) (g : Sight) (c : Content)
        → total_of seen ≡ total (w.mine t) → Sees w (no_of (looks_at_cell (record { 0 = t }) p)) (looks_at_snapshot p).0 g
        → c ≡ w.content (key w o) → Knows T x w t o p → (p ≡ Idle → ⊥)
        → Branch T x w t o (access_of p (record { 0 = t }) (record { 0 = o }) (call w o) T seen g c)
    access_branch few room Idle seen g c e s i h z = absurd (z refl)
    access_branch few room ReadSlot seen g c e s i h z = read_branch (call w o) c refl i h
    access_branch few room (Updating p u a) seen g c e s i h z = update_branch core acting small past u h.noted a h.then' p g s h.here
    access_branch few room CountInsertions seen g c e s i h z =
        record { guar = tt; onward = (h, rw s.count (one_more (cell_no t Insertion))) }
    access_branch few room (Link r) seen g c e s i h z = link_branch r c i h
    access_branch few room (HelpUnlink m d) seen g c e s i h z = help_branch m d c i h
    access_branch few room (CountDeletions d) seen g c e s i h z =
        record { guar = tt; onward = (later_mark h, rw s.count (one_more (cell_no t Deletion))) }
    access_branch few room (Mark d r) seen g c e s i h z = mark_branch d r c i h
    access_branch few room (Unlink m d) seen g c e s i h z = unlink_branch m d c i h
    access_branch few room (Sizing p) seen g c e s i h z = size_branch core acting small few room past h.0 p seen g e s h.1
