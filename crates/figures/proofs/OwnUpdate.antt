-- What a thread inside an update of the metadata may change, and what it knows after its access.
use Prim.Native.Nat.{ℕ, suc, ◌-◌, ◌≤◌, ◌<◌}
use mathlib.Core.Path.{◌≡◌, refl, sym, ap, ◌∙◌, subst}
use mathlib.Core.Logic.{◌≢◌, ◌⊎◌, inl, inr}
use mathlib.Core.Bool.{Bool, true, false, cond, ◌||◌}
use native.Mathlib.Omega.{arith}
use native.Mathlib.Nat.{le_refl}
use native.Mathlib.Decide.{ℕ_discrete}
use lib.Dec.{eqb, ltb}
use borrow.Author.Tests.{eqb-true, eqb-false, ltb-true, ltb-false}
use Rattle.history.proofs.Tally.{tally_all}
use Rattle.terms.specs.declared.SnapshotId.{SnapshotId}
use Rattle.figures.specs.declared.Kind.{Kind}
use Rattle.figures.specs.declared.Kind.TheVariants.{Insertion, Deletion}
use Rattle.figures.specs.declared.Content.{Content}
use Rattle.figures.specs.declared.Content.TheVariants.{Empty, Live, Marked}
use Rattle.figures.specs.declared.Node.{Node}
use Rattle.figures.specs.declared.Update.{Update}
use Rattle.figures.specs.declared.Sight.{Sight}
use Rattle.figures.specs.declared.UpdatePoint.{UpdatePoint}
use Rattle.figures.specs.declared.UpdatePoint.TheVariants.{ReadCount, RaiseCount, ReadCurrent, ReadFlag, ReadAgain, ReadCell, Forward}
use Rattle.figures.specs.declared.UpdateDeed.TheVariants.{Reads, Raises, Forwards}
use Rattle.figures.specs.declared.UpdateMove.{UpdateMove}
use Rattle.figures.specs.declared.After.{After}
use Rattle.figures.specs.declared.After.TheVariants.{Answer, ToMark, ToHelpUnlink, ToUnlink}
use Rattle.figures.specs.declared.Point.TheVariants.{Updating}
use Rattle.figures.specs.declared.Deed.TheVariants.{Updates}
use Rattle.figures.specs.declared.Next.{Next}
use Rattle.figures.specs.declared.Next.TheVariants.{To, Returns}
use Rattle.figures.specs.declared.Move.{Move}
use Rattle.figures.specs.Limits.{invalid}
use Rattle.figures.specs.Figure6.{on_to, done, behind, forward_from}
use Rattle.figures.specs.Figure5.{update_looks_at}
use Rattle.figures.specs.Figure3.{afterwards, update_next, updating}
use Rattle.figures.proofs.Laws.{cond_case, eq_case, test_case}
use Rattle.figures.proofs.World.{World, put, put_same, put_other, thr, key, cell_op, update_cell, update_target, update_op, act, write, raise, kind_call}
use Rattle.figures.proofs.Inv.{Core, Known, Settles, Settled, Noted, Raised, Sighted, Forwarding, Behind, AtUpdate, IsFound, Owning, Helping, Marking, Clearing, Unlinking, Afterwards, AtUpdating, AtMark, AtHelp, AtUnlink, FoundSettled, Knows}
use Rattle.figures.proofs.Inv.Settles.{alone, after, reached, caught}
use Rattle.figures.proofs.Guar.{Acting, Guar, ReturnsNow}
use Rattle.figures.proofs.Guar.ReturnsNow.{changed, finder}
use Rattle.figures.proofs.Stable.{settled_later}
use Rattle.figures.proofs.Same.{noted_same, afterwards_same}

-- ---- What an access sees, of cell q and of snapshot s.

pub record Sees (w : World) (q s : ℕ) (g : Sight) : Type 0 where
  pub count : g.count ≡ w.count q
  pub current : g.current.0 ≡ w.cur
  pub collecting : g.collecting ≡ w.flag s
  pub cell : g.cell ≡ w.cell s q
  pub size : g.size ≡ w.size s

-- what holds after the access: the thread knows what its next point needs, or may return
abbrev pub Onward : ℕ → ℕ → World → ℕ → ℕ → Next → Type 0
Onward T x w t o (To p) = Knows T x w t o p
Onward T x w t o (Returns a) = ReturnsNow x w o a

pub record Branch (T x : ℕ) (w : World) (t o : ℕ) (v : Move) : Type 0 where
  pub guar : Guar T x w t o v.deed
  pub onward : Onward T (suc x) (act v.deed t o w) t o v.next

-- an exchanged operation that is not its thread's current one has returned
abbrev pub Past : World → Type 0
Past w = (u : ℕ) → 0 < w.exch u → w.op (thr w u) ≢ u → 0 < w.last u

-- ---- What follows an update that is settled.

module _ (x : ℕ) (w : World) (t o : ℕ) (u : Update) (noted : Noted w u.node u.kind (key w (update_op u)))
    (settled : Settled w (update_op u) (suc x)) where
  found_settled : (c : Content) → IsFound c u → FoundSettled w c (suc x)
  found_settled Empty e = absurd e
  found_settled (Live d) e = rw (ap (λ (v : Update). update_op v) e) settled
  found_settled (Marked n d) e = rw (ap (λ (v : Update). update_op v) e) settled

  noted_on : (d : Node) (k : Kind) {on : ℕ} → record { kind = k; node = d } ≡ u → key w d.op.0 ≡ on → Noted w d k on
  noted_on d k {on} e i =
      let m : Noted w d k (key w d.op.0) =
      subst (λ (v : Update). Noted w v.node v.kind (key w (update_op v))) (sym e) noted in
      record { exchanged = m.exchanged; does = m.does; on_key = i; by_thread = m.by_thread; aims = m.aims }

  settled_on : (d : Node) (k : Kind) → record { kind = k; node = d } ≡ u → Settled w d.op.0 (suc x)
  settled_on d k e = rw (ap (λ (v : Update). update_op v) e) settled

  answers : (a : ℕ) → Owning w o u a ⊎ Helping w o u a → ReturnsNow x w o a
  answers a (inl h) =
      changed (record { exchanged = rw (← h.own) noted.exchanged; one = h.one; settled = rw (← h.own) settled })
  answers a (inr h) =
      finder (record { fresh = h.fresh; looked = h.looked; fits = h.fits; settled = found_settled (w.found o) h.is_found })

  pub ends : (T : ℕ) (a : After) → Afterwards w o u a → Onward T x w t o (afterwards a)
  ends T (Answer a) h = answers a h
  ends T (ToMark d) h =
      record { fresh = h.fresh; does = h.does; noted = noted_on d Insertion h.same h.on_key; settled = settled_on d Insertion h.same }
  ends T (ToHelpUnlink n d) h =
      record { fresh = h.fresh; does = h.does; noted = noted_on d Deletion h.same h.on_key; settled = settled_on d Deletion h.same }
  ends T (ToUnlink n d) h =
      record {
        own = h.own;
        does = h.does;
        noted = noted_on d Deletion h.same (ap (key w) h.own);
        settled = rw (← h.own) (settled_on d Deletion h.same);
      }

-- ---- One access.

module _ {T n x : ℕ} {w : World} {t o : ℕ} (core : Core T n x w) (acting : Acting T n x w t o) (small : n ≤ 64) (past : Past w) where
  pub count_small : (q : ℕ) → w.count q ≤ 64
  count_small q = let e = core.tallies q (w.count q) (le_refl _) in omega (arith, tally_all (Rattle.figures.proofs.Inv.raised_to w q (w.count q)) n)

  module _ (u : Update) (noted : Noted w u.node u.kind (key w (update_op u))) where
    pub cell_is : cell_op w (update_op u) ≡ update_cell u
    cell_is = rw (noted.by_thread, noted.does, kind_call u.kind)

    aim : 0 < update_target u
    aim = rw noted.aims at (core.records.exchanges (update_op u) noted.exchanged).aim

    -- unless the counter is one below the target, it is raised
    risen : w.count (update_cell u) ≢ update_target u - 1 → 0 < w.raised (update_op u)
    risen h = go (ℕ_discrete (w.raised (update_op u)) 0)
      where
        go : Dec (w.raised (update_op u) ≡ 0) → 0 < w.raised (update_op u)
        go (yes e) =
            let d = rw (cell_is, noted.aims) at (core.counters.due (update_op u) noted.exchanged e).1 in
            absurd (h (omega arith))
        go (no e) = omega arith

    module _ (raised : 0 < w.raised (update_op u)) where
      reaches : update_target u ≤ w.count (update_cell u)
      reaches = rw (noted.aims, cell_is) at (core.counters.done (update_op u) raised)

      within : w.raised (update_op u) < suc x
      within = let r = core.records.raises (update_op u) raised in omega (arith, r.past)

      -- a snapshot below the current one closed before now
      closed_past : (s : ℕ) → 0 < s → s < w.cur → (0 < w.closed s) × (w.closed s < suc x)
      closed_past s z h =
          let k : Known w s = record { some = z; there = omega arith } in
          let c = core.snaps.shut s k (core.snaps.past s h) in
          (c, omega (arith, (core.snaps.spans s k c).1))

      -- settled if it is as far as its window is the snapshot s
      settle : (s : ℕ) → w.window (update_op u) ≤ s → s ≤ w.cur → (Known w s → w.window (update_op u) ≡ s → Settles w (update_op u) (suc x)) → Settled w (update_op u) (suc x)
      settle s a b f = record { raised = raised; before = within; how = go (ℕ_discrete (w.window (update_op u)) 0) (ℕ_discrete (w.window (update_op u)) s) }
        where
          go : Dec (w.window (update_op u) ≡ 0) → Dec (w.window (update_op u) ≡ s) → Settles w (update_op u) (suc x)
          go (yes e) d = alone e
          go (no e) (yes i) = f (record { some = omega arith; there = b }) i
          go (no e) (no i) = let c = closed_past (w.window (update_op u)) (omega arith) (omega arith) in after c.0 c.1

    -- a move of the update, as the thread's move
    abbrev Goes : After → UpdateMove → Type 0
    Goes a v = Branch T x w t o (record { next = update_next v.next u a; deed = Updates v.deed u })

    module _ (a : After) (then' : Afterwards w o u a) where
      -- on to the next access, with nothing changed
      on : (p : UpdatePoint) → AtUpdate w u p → Goes a (on_to p)
      on p h = record { guar = tt; onward = record { noted = noted; here = h; then' = then' } }

      -- it is settled: the end of the update
      over : (told : Bool) → Settled w (update_op u) (suc x) → Goes a (done told)
      over told s = record { guar = tt; onward = ends (suc x) w t o u noted (settled_later (omega arith) s) T a then' }

      -- the cell's value v is known: exchange it, or it has come to the target
      known_cell : (told : Bool) (s : SnapshotId) (v : ℕ) → Forwarding w u s.0 → v ≡ w.cell s.0 (update_cell u) → Goes a (forward_from told s u.node.note.1 v)
      known_cell told s v f e =
          cond_case (Goes a) (behind v u.node.note.1) (on_to (Forward told s v)) (done told)
          (λ b. on (Forward told s v) (f, behind_is b))
          (λ b. let c = not_behind b in
          let r = f.sighted.raised in
          over told (settle r.raised s.0 r.window r.there (λ k i. holds k i c.0 c.1 (ℕ_discrete (w.closed s.0) 0))))
        where
          behind_is : behind v u.node.note.1 ≡ true → Behind u v
          behind_is b = test_case (λ z. (z || ltb v (update_target u)) ≡ true → Behind u v) (eqb v invalid)
              (λ i _. inl (eqb-true v invalid i)) (λ i l. inr (ltb-true v (update_target u) l)) b

          not_behind : behind v u.node.note.1 ≡ false → (v ≢ invalid) × (update_target u ≤ v)
          not_behind b = test_case (λ z. (eqb v invalid ≡ z) → (z || ltb v (update_target u)) ≡ false → (v ≢ invalid) × (update_target u ≤ v)) (eqb v invalid)
              (λ _ i l. let z : ◌≡◌ {A = ℕ} 0 1 = cc in absurd (omega arith))
              (λ _ i l. (eqb-false v invalid i, ltb-false v (update_target u) l)) refl b

          holds : Known w s.0 → w.window (update_op u) ≡ s.0 → v ≢ invalid → update_target u ≤ v → Dec (w.closed s.0 ≡ 0) → Settles w (update_op u) (suc x)
          holds k i c d (yes z) = reached (rw i z) (rw (i, cell_is, ← e) c) (rw (i, cell_is, ← e, noted.aims) d)
          holds k i c d (no z) =
              let y : 0 < w.closed s.0 = omega arith in
              after (rw i y) (rw i (omega (arith, (core.snaps.spans s.0 k y).1)))

      -- the exchange of the counter, whatever is told of it
      raise_branch : (told : Bool) (g : Sight) → Sees w (update_cell u) 0 g
          → Branch T x w t o (record { next = To (Updating (ReadCurrent told) u a); deed = Updates (cond (eqb g.count (update_target u - 1)) Raises Reads) u })
      raise_branch told g sees =
          eq_case (λ d. Branch T x w t o (record { next = To (Updating (ReadCurrent told) u a); deed = Updates d u })) g.count (update_target u - 1) Raises Reads
          (λ e. let i = aim in let c = sees.count in record {
            guar = record { noted = noted; below = omega arith };
            onward = record { noted = noted_same w (raised_now) refl refl refl noted; here = rw put_same (omega (arith, acting.clock)); then' = afterwards_same w raised_now refl refl refl refl o u a then' };
          })
          (λ e. on (ReadCurrent told) (risen (λ i. e (sees.count ∙ i))))
        where
          raised_now : World
          raised_now = raise (update_op u) (update_cell u) (update_target u) w

      -- one access of updateMetadata
      pub update_branch : (p : UpdatePoint) (g : Sight) → Sees w (update_cell u) (update_looks_at p).0 g → AtUpdate w u p → Branch T x w t o (updating p u a g)
      update_branch ReadCount g sees h =
          eq_case (λ p. Goes a (on_to p)) g.count (update_target u - 1) RaiseCount (ReadCurrent false)
          (λ e. on RaiseCount tt)
          (λ e. on (ReadCurrent false) (risen (λ i. e (sees.count ∙ i))))
      update_branch RaiseCount g sees h = raise_branch _ g sees
      update_branch (ReadCurrent told) g sees h =
          on (ReadFlag told g.current) (record { raised = h; window = rw sees.current (windowed (ℕ_discrete (w.window (update_op u)) 0)); there = rw sees.current (le_refl _) })
        where
          windowed : Dec (w.window (update_op u) ≡ 0) → w.window (update_op u) ≤ w.cur
          windowed (yes e) = omega arith
          windowed (no e) = (core.windows.told (update_op u) h (omega arith)).known.there
      update_branch (ReadFlag told s) g sees h =
          cond_case (Goes a) g.collecting (on_to (ReadAgain told s)) (done told)
          (λ e. let f = sym sees.collecting ∙ e in on (ReadAgain told s) (record { raised = h; some = up f (ℕ_discrete s.0 0); early = λ l. let z = core.snaps.open' s.0 (record { some = up f (ℕ_discrete s.0 0); there = h.there }) f in absurd (omega arith) }))
          (λ e. let f = sym sees.collecting ∙ e in
          over told (settle h.raised s.0 h.window h.there (λ k i. let c = core.snaps.shut s.0 k f in after (rw i c) (rw i (omega (arith, (core.snaps.spans s.0 k c).1))))))
        where
          up : w.flag s.0 ≡ true → Dec (s.0 ≡ 0) → 0 < s.0
          up f (yes e) = let i : true ≡ false = sym (rw e at f) ∙ core.snaps.none in let z : ◌≡◌ {A = ℕ} 0 1 = cc in absurd (omega arith)
          up f (no e) = omega arith
      update_branch (ReadAgain told s) g sees h =
          eq_case (Goes a) g.count (update_target u) (on_to (ReadCell told s)) (done told)
          (λ e. on (ReadCell told s) (record { sighted = h; reach = λ v r i l. let c = rw i at (core.counters.done v r) in omega (arith, sees.count) }))
          (λ e. over told (gone (λ i. e (sees.count ∙ i)) (ℕ_discrete (w.op (thr w (update_op u))) (update_op u))))
        where
          gone : w.count (update_cell u) ≢ update_target u → Dec (w.op (thr w (update_op u)) ≡ update_op u) → Settled w (update_op u) (suc x)
          gone e (yes i) =
              let c = rw (cell_is, noted.aims) at (core.counters.own (update_op u) noted.exchanged i) in
              let d = reaches h.raised.raised in
              absurd (e (omega arith))
          gone e (no i) =
              let l = past (update_op u) noted.exchanged i in
              settled_later (omega (arith, (core.records.ends (update_op u) l).past)) (core.returned.changed (update_op u) l noted.exchanged).settled
      update_branch (ReadCell told s) g sees h = known_cell told s g.cell h sees.cell
      update_branch (Forward told s v) g sees h =
          eq_case (Goes a) g.cell v (record { next = Rattle.figures.specs.declared.UpdateNext.TheVariants.Done _; deed = Forwards s }) (forward_from told s u.node.note.1 g.cell)
          (λ e. record {
            guar = record { noted = noted; forwarding = h.0; behind = rw (sym sees.cell ∙ e) h.1 };
            onward = ends (suc x) (write s.0 (update_cell u) (update_target u) w) t o u (noted_same w forwarded refl refl refl noted) (settled_later (omega arith) settled) T a (afterwards_same w forwarded refl refl refl refl o u a then');
          })
          (λ e. known_cell told s g.cell h.0 sees.cell)
        where
          forwarded : World
          forwarded = write s.0 (update_cell u) (update_target u) w

          r : Raised w u s.0
          r = h.0.sighted.raised

          here : forwarded.cell s.0 (update_cell u) ≡ update_target u
          here = rw (put_same, put_same)

          valid : update_target u ≢ invalid
          valid i = let c = count_small (update_cell u) in let d = reaches r.raised in omega arith

          elsewhere : Settles w (update_op u) (suc x) → w.window (update_op u) ≢ s.0 ⊎ (0 < w.closed (w.window (update_op u))) → Settles forwarded (update_op u) (suc x)
          elsewhere (alone e) j = alone e
          elsewhere (after c b) j = after c b
          elsewhere (caught c b) j = caught c b
          elsewhere (reached c b d) (inl j) = let e = put_other w.cell s.0 (put (w.cell s.0) (update_cell u) (update_target u)) (w.window (update_op u)) j in reached c (rw e b) (rw e d)
          elsewhere (reached c b d) (inr j) = absurd (omega arith)

          how : Dec (w.window (update_op u) ≡ s.0) → Dec (w.closed s.0 ≡ 0) → Settles forwarded (update_op u) (suc x)
          how (yes i) (yes z) = reached (rw i z) (rw (i, cell_is, here) valid) (rw (i, cell_is, here, noted.aims) (le_refl _))
          how (yes i) (no z) = elsewhere (settle r.raised s.0 r.window r.there (λ k j. let y : 0 < w.closed s.0 = omega arith in after (rw j y) (rw j (omega (arith, (core.snaps.spans s.0 k y).1))))).how (inr (rw i (omega arith)))
          how (no i) z = elsewhere (settle r.raised s.0 r.window r.there (λ k j. absurd (i j))).how (inl i)

          settled : Settled forwarded (update_op u) (suc x)
          settled = record { raised = r.raised; before = within r.raised; how = how (ℕ_discrete _ _) (ℕ_discrete _ _) }
