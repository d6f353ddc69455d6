-- The snapshots are kept by each part of a step.
use Prim.Native.Nat.{ℕ, suc, ◌+◌, ◌≤◌, ◌<◌}
use mathlib.Core.Path.{◌≡◌, refl, sym, ap, ◌∙◌}
use mathlib.Core.Logic.{◌≢◌}
use mathlib.Core.Bool.{Bool, true, false}
use native.Mathlib.Omega.{arith}
use native.Mathlib.Decide.{ℕ_discrete, dec_le}
use borrow.Author.Tests.{lt-ltb}
use Rattle.figures.specs.declared.Update.{Update}
use Rattle.figures.specs.declared.UpdateDeed.{UpdateDeed}
use Rattle.figures.specs.declared.UpdateDeed.TheVariants.{Reads, Raises, Forwards}
use Rattle.figures.specs.declared.SizeDeed.{SizeDeed}
use Rattle.figures.specs.declared.SizeDeed.TheVariants.{Looks, Announces, Collects, Lowers, Keeps, Fixes, Shares}
use Rattle.figures.specs.declared.Deed.{Deed}
use Rattle.figures.specs.declared.Deed.TheVariants.{Rests, Finds, Links, Marks, Unlinks, Updates, Sizes}
use Rattle.figures.specs.declared.Next.{Next}
use Rattle.figures.specs.declared.Next.TheVariants.{To, Returns}
use Rattle.figures.specs.Limits.{invalid}
use Rattle.figures.proofs.Laws.{test_case, tests_differ}
use Rattle.figures.proofs.World.{World, put, put_same, put_other, put_case, put_field, tick, act, onward, announce, lower, write, fix, fresh, cell_op, no_of, update_op, update_cell, update_target, kind_call}
use Rattle.figures.proofs.Inv.{Core, Known, Fair, ReadFor, Fixed, total, Snaps, Lowering}
use Rattle.figures.proofs.Grows.{Grows}
use Rattle.figures.proofs.Guar.{Acting, Guar, ForwardsNow, CollectsNow, FixesNow}
use Rattle.figures.proofs.Stable.{fair_grows, read_for_grows}

-- ---- One snapshot's part of it.

-- when it was announced and closed
record Timed (T x : ℕ) (w : World) (s : ℕ) : Type 0 where
  shut : w.flag s ≡ false → 0 < w.closed s
  open' : w.flag s ≡ true → w.closed s ≡ 0
  announced : (0 < w.ann s) × (w.ann s ≤ x)
  spans : 0 < w.closed s → (w.ann s < w.closed s) × (w.closed s ≤ x)
  whole : 0 < w.closed s → (q : ℕ) → q < T + T → w.cell s q ≢ invalid
  kept : 0 < w.closed s → (q : ℕ) → q < T + T → w.held s q ≤ w.cell s q

-- what is in it
record Valued (T x : ℕ) (w : World) (s : ℕ) : Type 0 where
  fair : (q : ℕ) → q < T + T → w.cell s q ≢ invalid → Fair w s q (w.cell s q)
  fixed : w.size s ≢ invalid → Fixed T w s
  valid : 0 < w.fixed s → w.size s ≢ invalid
  dated : w.fixed s ≤ x

-- none was announced or closed
record Steady (w w' : World) : Type 0 where
  cur : w'.cur ≡ w.cur
  flag : (s : ℕ) → w'.flag s ≡ w.flag s
  closed : (s : ℕ) → w'.closed s ≡ w.closed s

-- what of the snapshots changes
abbrev Table : Type 0
Table = ℕ × (ℕ → Bool) × (ℕ → ℕ) × (ℕ → ℕ → ℕ) × (ℕ → ℕ) × (ℕ → ℕ)

abbrev table : World → Table
table w = (w.cur, w.flag, w.closed, w.cell, w.size, w.fixed)

module _ {T n x t a : ℕ} {w w' : World} (core : Core T n x w) (g : Grows x t a w w') where
  -- ---- Values: a cell or a sum that stands, and a new one.

  fair_stands : {s : ℕ} → Known w s → (q : ℕ) → w'.cell s q ≡ w.cell s q → q < T + T → w'.cell s q ≢ invalid → Fair w' s q (w'.cell s q)
  fair_stands {s} k q e h v = rw e (fair_grows core g k (core.snaps.fair s k q h (λ i. v (e ∙ i))))

  fixed_by : {s : ℕ} → Known w s → 0 < w.closed s → w.closed s < w'.fixed s → w'.size s ≡ total (w'.seen s) → ((q : ℕ) → q < T + T → ReadFor w s q (w'.seen s q)) → ((q : ℕ) → T + T ≤ q → w'.seen s q ≡ 0) → Fixed T w' s
  fixed_by {s} k c after sum reads rest =
      record {
        closed = omega (arith, (g.ages s k).closed c);
        after = omega (arith, (g.ages s k).closed c);
        sum = sum;
        reads = λ q h. read_for_grows core g k c (reads q h);
        rest = rest;
      }

  fixed_stands : {s : ℕ} → Known w s → w'.size s ≡ w.size s → w'.size s ≢ invalid → Fixed T w' s
  fixed_stands {s} k e v = fixed_by k f.closed (omega (arith, f.after, ((g.ages s k).size z).2)) (rw seen (e ∙ f.sum)) (rw seen f.reads) (rw seen f.rest)
    where
      z : w.size s ≢ invalid
      z = λ i. v (e ∙ i)

      f : Fixed T w s
      f = core.snaps.fixed s k z

      seen : w'.seen s ≡ w.seen s
      seen = ((g.ages s k).size z).1

  valued_stands : {s x' : ℕ} → x ≤ x' → ((q : ℕ) → w'.cell s q ≡ w.cell s q) → w'.size s ≡ w.size s → w'.fixed s ≡ w.fixed s
      → Known w s → Valued T x' w' s
  valued_stands {s} later cells size dated k =
      record {
        fair = λ q. fair_stands k q (cells q);
        fixed = fixed_stands k size;
        valid = λ h e. core.snaps.valid s k (omega arith) (sym size ∙ e);
        dated = omega (arith, core.snaps.dated s k);
      }

  -- ---- A snapshot whose flag and closing stand.

  timed_stands : {s x' : ℕ} → x ≤ x' → w'.flag s ≡ w.flag s → w'.closed s ≡ w.closed s → Known w s → Timed T x' w' s
  timed_stands {s} {x'} later f c k =
      record {
        shut = λ e. rw c (old.shut s k (sym f ∙ e));
        open' = λ e. c ∙ old.open' s k (sym f ∙ e);
        announced = omega (arith, ann, old.announced s k);
        spans = λ h. omega (arith, ann, old.spans s k (omega arith));
        whole = λ h q i. (cell q i (omega arith)).0;
        kept = λ h q i. omega (arith, (g.ages s k).held (omega arith) q, old.kept s k (omega arith) q i, (cell q i (omega arith)).1);
      }
    where
      old : Snaps T x w
      old = core.snaps

      ann : w'.ann s ≡ w.ann s
      ann = (g.ages s k).ann

      cell : (q : ℕ) → q < T + T → 0 < w.closed s → (w'.cell s q ≢ invalid) × (w.cell s q ≤ w'.cell s q)
      cell q i h = (g.ages s k).cell q (old.whole s k h q i)

  -- ---- All of them. Before the current one none was being collected.

  module _ (none : w'.flag 0 ≡ false) (none_closed : w'.closed 0 ≡ 0) (future : (s : ℕ) → w'.cur < s → w'.closed s ≡ 0) (before : (s : ℕ) → s < w'.cur → (s ≤ w.cur) × (w.flag s ≡ false)) where
    past_later : (s : ℕ) → s < w'.cur → w'.flag s ≡ false
    past_later s h = go (ℕ_discrete s 0)
      where
        go : Dec (s ≡ 0) → w'.flag s ≡ false
        go (yes e) = rw e none
        go (no z) = (g.ages s (record { some = omega arith; there = (before s h).0 })).flag (before s h).1

    apart_later : (s s' : ℕ) → Known w' s → Known w' s' → s < s' → w'.closed s < w'.ann s'
    apart_later s s' k k' h = go (dec_le s' w.cur)
      where
        h' : s < w'.cur
        h' = omega (arith, k'.there)

        l : Known w s
        l = record { some = k.some; there = (before s h').0 }

        shut : 0 < w.closed s
        shut = core.snaps.shut s l (before s h').1

        same : w'.closed s ≡ w.closed s
        same = (g.ages s l).closed shut

        go : Dec (s' ≤ w.cur) → w'.closed s < w'.ann s'
        go (yes i) =
            let l' : Known w s' = record { some = k'.some; there = i } in
            omega (arith, same, (g.ages s' l').ann, core.snaps.apart s s' l l' h)
        go (no i) = omega (arith, same, (core.snaps.spans s l shut).1, g.new s' (omega arith) k'.there)

    snaps_grow : {x' : ℕ} → ((s : ℕ) → Known w' s → Timed T x' w' s) → ((s : ℕ) → Known w' s → Valued T x' w' s) → Snaps T x' w'
    snaps_grow timed valued =
        record {
          none = none;
          none_closed = none_closed;
          future = future;
          past = past_later;
          shut = λ s k. (timed s k).shut;
          open' = λ s k. (timed s k).open';
          announced = λ s k. (timed s k).announced;
          spans = λ s k. (timed s k).spans;
          apart = apart_later;
          whole = λ s k. (timed s k).whole;
          fair = λ s k. (valued s k).fair;
          kept = λ s k. (timed s k).kept;
          fixed = λ s k. (valued s k).fixed;
          valid = λ s k. (valued s k).valid;
          dated = λ s k. (valued s k).dated;
        }

  -- where flags and closings stand
  snaps_steady : {x' : ℕ} → x ≤ x' → Steady w w' → ((s : ℕ) → Known w s → Valued T x' w' s) → Snaps T x' w'
  snaps_steady later same valued =
      snaps_grow (same.flag 0 ∙ core.snaps.none) (same.closed 0 ∙ core.snaps.none_closed) (λ s h. same.closed s ∙ core.snaps.future s (omega (arith, same.cur)))
      (λ s h. (omega (arith, same.cur), core.snaps.past s (omega (arith, same.cur)))) (λ s k. timed_stands later (same.flag s) (same.closed s) (back s k)) (λ s k. valued s (back s k))
    where
      back : (s : ℕ) → Known w' s → Known w s
      back s k = record { some = k.some; there = omega (arith, same.cur, k.there) }

  -- where cells and sizes stand too
  pub snaps_stand : {x' : ℕ} → x ≤ x' → table w' ≡ table w → Snaps T x' w'
  snaps_stand later e =
      snaps_steady later (record { cur = ap (λ (p : Table). p.0) e; flag = λ s. ap (λ (p : Table). p.1 s) e; closed = λ s. ap (λ (p : Table). p.2 s) e })
      (λ s. valued_stands later (λ q. ap (λ (p : Table). p.3 s q) e) (ap (λ (p : Table). p.4 s) e) (ap (λ (p : Table). p.5 s) e))

-- ---- A cell that is written: forwarded or collected.

module _ (P : ℕ → Type 0) (w : World) (m p v s q : ℕ) where
  write_case : (s ≡ m → q ≡ p → P v) → P (w.cell s q) → P ((write m p v w).cell s q)
  write_case new old = put_case (λ f. P (f q)) w.cell m (put (w.cell m) p v) s (λ e. put_case P (w.cell m) p v q (new e) (λ n. rw e at old)) (λ n. old)

fresh_invalid : (q : ℕ) → q < 16 → fresh q ≡ invalid
fresh_invalid q h = rw (lt-ltb q 16 h)

module _ {T n x t o : ℕ} {w : World} (core : Core T n x w) (now : Acting T n x w t o) where
  snaps_write : (m p v : ℕ) → Grows x t o w (write m p v w) → Fair w m p v → Snaps T (suc x) (write m p v w)
  snaps_write m p v g new = snaps_steady core g (omega arith) (record { cur = refl; flag = λ s. refl; closed = λ s. refl }) valued
    where
      w' : World
      w' = write m p v w

      valued : (s : ℕ) → Known w s → Valued T (suc x) w' s
      valued s k =
          record {
            fair = λ q h. write_case (λ c. c ≢ invalid → Fair w' s q c) w m p v s q (λ e e' i. fair_grows core g k (rw (e, e') new)) (λ i. fair_grows core g k (core.snaps.fair s k q h i));
            fixed = fixed_stands core g k refl;
            valid = core.snaps.valid s k;
            dated = omega (arith, core.snaps.dated s k);
          }

  -- u's target, and all of its counter's updates up to u were raised no later than u
  forwards_fair : (s : ℕ) (u : Update) → ForwardsNow w s u → Fair w s (update_cell u) (update_target u)
  forwards_fair s u d = record { low = low; reach = d.forwarding.reach; early = early }
    where
      cell : cell_op w (update_op u) ≡ update_cell u
      cell = rw (d.noted.does, kind_call, d.noted.by_thread)

      raised : 0 < w.raised (update_op u)
      raised = d.forwarding.sighted.raised.raised

      low : update_target u ≤ w.count (update_cell u)
      low = omega (arith, d.noted.aims, core.counters.done (update_op u) raised, ap w.count cell)

      early : (v : ℕ) → 0 < w.raised v → cell_op w v ≡ update_cell u → w.target v ≤ update_target u → 0 < w.closed s → w.raised v < w.closed s
      early v r e b c = omega (arith, d.forwarding.sighted.early c, core.counters.order v (update_op u) r raised (e ∙ sym cell) (omega (arith, d.noted.aims)))

  -- it was not there, so the snapshot is not closed
  collects_fair : (s q v : ℕ) → CollectsNow T w o s q v → Fair w s q v
  collects_fair s q v d =
      record {
        low = d.carrying.low;
        reach = d.carrying.reach;
        early = λ u r e l c. absurd (core.snaps.whole s d.carrying.collecting.using'.known c q d.carrying.collecting.inside d.empty);
      }

  -- ---- A new snapshot.

  snaps_announce : T ≤ 8 → w.flag w.cur ≡ false → Grows x t o w (announce w) → Snaps T (suc x) (announce w)
  snaps_announce few down g = snaps_grow core g (rest_flag 0 (omega arith) ∙ core.snaps.none) (rest_closed 0 (omega arith) ∙ core.snaps.none_closed) future before timed valued
    where
      w' : World
      w' = announce w

      m : ℕ
      m = suc w.cur

      rest_flag : (s : ℕ) → s ≢ m → w'.flag s ≡ w.flag s
      rest_flag = put_other w.flag m true

      rest_closed : (s : ℕ) → s ≢ m → w'.closed s ≡ w.closed s
      rest_closed = put_other w.closed m 0

      future : (s : ℕ) → m < s → w'.closed s ≡ 0
      future s h = rest_closed s (omega arith) ∙ core.snaps.future s (omega arith)

      before : (s : ℕ) → s < m → (s ≤ w.cur) × (w.flag s ≡ false)
      before s h = (omega arith, go (ℕ_discrete s w.cur))
        where
          go : Dec (s ≡ w.cur) → w.flag s ≡ false
          go (yes e) = rw e down
          go (no e) = core.snaps.past s (omega arith)

      back : (s : ℕ) → s ≢ m → Known w' s → Known w s
      back s e k = record { some = k.some; there = omega (arith, k.there) }

      unclosed : w'.closed m ≡ 0
      unclosed = put_same w.closed m 0

      ann : w'.ann m ≡ suc x
      ann = put_same w.ann m w.clock ∙ now.clock

      new_timed : Timed T (suc x) w' m
      new_timed =
          record {
            shut = λ e. tests_differ (put_same w.flag m true) e;
            open' = λ e. unclosed;
            announced = omega (arith, ann);
            spans = λ h. absurd (omega (arith, unclosed));
            whole = λ h. absurd (omega (arith, unclosed));
            kept = λ h. absurd (omega (arith, unclosed));
          }

      unfixed : w'.fixed m ≡ 0
      unfixed = put_same w.fixed m 0

      new_valued : Valued T (suc x) w' m
      new_valued =
          record {
            fair = λ q h v. absurd (v (ap (λ (f : ℕ → ℕ). f q) (put_same w.cell m (λ q. fresh q)) ∙ fresh_invalid q (omega arith)));
            fixed = λ v. absurd (v (put_same w.size m invalid));
            valid = λ h. absurd (omega (arith, unfixed));
            dated = omega (arith, unfixed);
          }

      timed : (s : ℕ) → Known w' s → Timed T (suc x) w' s
      timed s k = go (ℕ_discrete s m)
        where
          go : Dec (s ≡ m) → Timed T (suc x) w' s
          go (yes e) = rw e new_timed
          go (no e) = timed_stands core g (omega arith) (rest_flag s e) (rest_closed s e) (back s e k)

      valued : (s : ℕ) → Known w' s → Valued T (suc x) w' s
      valued s k = go (ℕ_discrete s m)
        where
          go : Dec (s ≡ m) → Valued T (suc x) w' s
          go (yes e) = rw e new_valued
          go (no e) = valued_stands core g (omega arith) (λ q. ap (λ (f : ℕ → ℕ). f q) (put_other w.cell m (λ q. fresh q) s e)) (put_other w.size m invalid s e) (put_other w.fixed m 0 s e) (back s e k)

  -- ---- The flag is lowered: of the snapshot that is being collected, or of one that has closed.

  module _ (m : ℕ) (l : Lowering T w o m) (g : Grows x t o w (lower m t w)) where
    lower_closed : w.flag m ≡ false → Snaps T (suc x) (lower m t w)
    lower_closed down = snaps_steady core g (omega arith) (record { cur = refl; flag = λ s. put_field (λ b. b) w.flag m false s (sym down); closed = λ s. put_field (λ c. c) w.closed m _ s (rw down) }) (λ s. valued_stands core g (omega arith) (λ q. refl) refl refl)

    lower_open : w.flag m ≡ true → Snaps T (suc x) (lower m t w)
    lower_open up =
        snaps_grow core g (put_other w.flag m false 0 (omega (arith, known.some)) ∙ core.snaps.none) (closed_other 0 (omega (arith, known.some)) ∙ core.snaps.none_closed)
        (λ s h. closed_other s (omega (arith, known.there)) ∙ core.snaps.future s h) (λ s h. (omega arith, core.snaps.past s h)) timed (λ s k. valued_stands core g (omega arith) (λ q. refl) refl refl (back s k))
      where
        w' : World
        w' = lower m t w

        known : Known w m
        known = l.using'.known

        back : (s : ℕ) → Known w' s → Known w s
        back s k = record { some = k.some; there = k.there }

        closed_other : (s : ℕ) → s ≢ m → w'.closed s ≡ w.closed s
        closed_other = put_other w.closed m _

        closed_now : w'.closed m ≡ suc x
        closed_now = put_same w.closed m _ ∙ rw up now.clock

        held_now : w'.held m ≡ w.cell m
        held_now = put_same w.held m _ ∙ rw up

        now_timed : Timed T (suc x) w' m
        now_timed =
            record {
              shut = λ e. omega (arith, closed_now);
              open' = λ e. tests_differ e (put_same w.flag m false);
              announced = omega (arith, core.snaps.announced m known);
              spans = λ h. omega (arith, closed_now, core.snaps.announced m known);
              whole = λ h. l.valid;
              kept = λ h q i. rw held_now (omega arith);
            }

        timed : (s : ℕ) → Known w' s → Timed T (suc x) w' s
        timed s k = go (ℕ_discrete s m)
          where
            go : Dec (s ≡ m) → Timed T (suc x) w' s
            go (yes e) = rw e now_timed
            go (no e) = timed_stands core g (omega arith) (put_other w.flag m false s e) (closed_other s e) (back s k)

    snaps_lower : Snaps T (suc x) (lower m t w)
    snaps_lower = test_case (λ b. Snaps T (suc x) (lower m t w)) (w.flag m) lower_open lower_closed

  -- ---- A size is fixed.

  snaps_fix : (m v : ℕ) → FixesNow T w t o m v → Grows x t o w (fix m v t o w) → Snaps T (suc x) (fix m v t o w)
  snaps_fix m v d g = snaps_steady core g (omega arith) (record { cur = refl; flag = λ s. refl; closed = λ s. refl }) valued
    where
      w' : World
      w' = fix m v t o w

      seen : w'.seen m ≡ w.mine t
      seen = put_same w.seen m (w.mine t)

      dated : w'.fixed m ≡ suc x
      dated = put_same w.fixed m w.clock ∙ now.clock

      known : Known w m
      known = d.summing.using'.known

      fixed_now : Fixed T w' m
      fixed_now = fixed_by core g known d.summing.closed (omega (arith, dated, (core.snaps.spans m known d.summing.closed).1)) (put_same w.size m v ∙ rw seen d.sum) (rw seen d.summing.reads) (rw seen d.summing.rest)

      valued : (s : ℕ) → Known w s → Valued T (suc x) w' s
      valued s k = go (ℕ_discrete s m)
        where
          go : Dec (s ≡ m) → Valued T (suc x) w' s
          go (yes e) =
              record {
                fair = λ q. fair_stands core g k q refl;
                fixed = λ i. rw e fixed_now;
                valid = λ h. rw (e, put_same w.size m v) d.valid;
                dated = rw e (omega (arith, dated));
              }
          go (no e) = valued_stands core g (omega arith) (λ q. refl) (put_other w.size m v s e) (put_other w.fixed m w.clock s e) k

  -- ---- By deed.

  snaps_update : (d : UpdateDeed) (u : Update) → Guar T x w t o (Updates d u) → Grows x t o w (act (Updates d u) t o w) → Snaps T (suc x) (act (Updates d u) t o w)
  snaps_update Reads u h g = snaps_stand core g (omega arith) refl
  snaps_update Raises u h g = snaps_stand core g (omega arith) refl
  snaps_update (Forwards s) u h g = snaps_write s.0 (update_cell u) (update_target u) g (forwards_fair s.0 u h)

  snaps_compute : T ≤ 8 → (d : SizeDeed) → Guar T x w t o (Sizes d) → Grows x t o w (act (Sizes d) t o w) → Snaps T (suc x) (act (Sizes d) t o w)
  snaps_compute few Looks h g = snaps_stand core g (omega arith) refl
  snaps_compute few Announces h g = snaps_announce few h g
  snaps_compute few (Collects s j v) h g = snaps_write s.0 (no_of j) v g (collects_fair s.0 (no_of j) v h)
  snaps_compute few (Lowers s) h g = snaps_lower s.0 h g
  snaps_compute few (Keeps j v) h g = snaps_stand core g (omega arith) refl
  snaps_compute few (Fixes s v) h g = snaps_fix s.0 v h.1 g
  snaps_compute few (Shares s) h g = snaps_stand core g (omega arith) refl

  pub snaps_act : T ≤ 8 → (d : Deed) → Guar T x w t o d → Grows x t o w (act d t o w) → Snaps T (suc x) (act d t o w)
  snaps_act few Rests h g = snaps_stand core g (omega arith) refl
  snaps_act few (Finds c) h g = snaps_stand core g (omega arith) refl
  snaps_act few (Links d) h g = snaps_stand core g (omega arith) refl
  snaps_act few (Marks m d) h g = snaps_stand core g (omega arith) refl
  snaps_act few Unlinks h g = snaps_stand core g (omega arith) refl
  snaps_act few (Updates d u) h g = snaps_update d u h g
  snaps_act few (Sizes d) h g = snaps_compute few d h g

-- ---- The rest of a step changes none of it.

module _ {T n x t o : ℕ} {w : World} (core : Core T n x w) where
  pub snaps_tick : Grows x t o w (tick o w) → Snaps T x (tick o w)
  snaps_tick g = snaps_stand core g (omega arith) refl

  pub snaps_onward : (nx : Next) → Grows x t o w (onward nx t o w) → Snaps T x (onward nx t o w)
  snaps_onward (To p) g = snaps_stand core g (omega arith) refl
  snaps_onward (Returns a) g = snaps_stand core g (omega arith) refl
