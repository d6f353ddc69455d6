-- What a thread inside a size may change, and what it knows after its access.
use Prim.Native.Nat.{ℕ, zero, suc, ◌+◌, ◌*◌, ◌≤◌, ◌<◌}
use mathlib.Core.Path.{◌≡◌, sym, ◌∙◌}
use mathlib.Core.Logic.{◌≢◌}
use mathlib.Core.Bool.{true, false, cond}
use mathlib.Core.List.{List}
use native.Mathlib.Omega.{arith}
use native.Mathlib.Nat.{le_refl}
use native.Mathlib.Decide.{ℕ_discrete, dec_lt}
use Rattle.terms.specs.declared.SnapshotId.{SnapshotId}
use Rattle.figures.specs.declared.Kind.{Kind}
use Rattle.figures.specs.declared.Kind.TheVariants.{Insertion, Deletion}
use Rattle.figures.specs.declared.Cell.{Cell}
use Rattle.figures.specs.declared.Counts.{Counts}
use Rattle.figures.specs.declared.Sight.{Sight}
use Rattle.figures.specs.declared.Call.TheVariants.{Size}
use Rattle.figures.specs.declared.SizePoint.{SizePoint}
use Rattle.figures.specs.declared.SizePoint.TheVariants.{FindCurrent, FindFlag, Announce, CollectCount, CollectCell, CollectSet, LowerFlag, SumCell, FixSize}
use Rattle.figures.specs.declared.SizeDeed.TheVariants.{Looks, Announces, Collects, Fixes, Shares}
use Rattle.figures.specs.declared.SizeNext.TheVariants.{Goes, Sized}
use Rattle.figures.specs.declared.SizeMove.{SizeMove}
use Rattle.figures.specs.declared.Deed.TheVariants.{Sizes}
use Rattle.figures.specs.declared.Next.TheVariants.{To}
use Rattle.figures.specs.declared.Point.TheVariants.{Sizing}
use Rattle.figures.specs.Limits.{invalid}
use Rattle.figures.specs.Figure4.{more_byte, new_id}
use Rattle.figures.specs.Figure6.{first_cell, next_cell, each_cell, go_to, collect_next, total_of}
use Rattle.figures.specs.Figure5.{size_looks_at, size_cell}
use Rattle.figures.specs.Figure3.{size_next, sizing}
use Rattle.figures.proofs.Laws.{cond_case, eq_case, lt_case}
use Rattle.figures.proofs.World.{World, put_same, put_case, call, cell_no, no_of, announce, write, lower, keep, fix, share}
use Rattle.figures.proofs.Inv.{Core, Known, ReadFor, Using, Collecting, Summing, AtSize, total, sum_by}
use Rattle.figures.proofs.Guar.{Acting, ReturnsSize}
use Rattle.figures.proofs.Guar.ReturnsNow.{sized}
use Rattle.figures.proofs.OwnUpdate.{Sees, Branch, Past, count_small}

-- ---- The cells in order.

byte_more : (i : ℕ) → i < 255 → more_byte i ≡ suc i
byte_more i h = omega arith

pub next_no : (j : Cell) → j.thread.0 < 255 → no_of (next_cell j) ≡ suc (no_of j)
next_no j h = go j.kind
  where
    go : (k : Kind) → no_of (next_cell (record { thread = j.thread; kind = k })) ≡ suc (no_of (record { thread = j.thread; kind = k }))
    go Insertion = omega arith
    go Deletion = omega (arith, byte_more j.thread.0 h)

-- a cell of the threads there are has one of these threads
pub thread_in : (T : ℕ) (j : Cell) → no_of j < T + T → j.thread.0 < T
thread_in T j h = go j.kind h
  where
    go : (k : Kind) → no_of (record { thread = j.thread; kind = k }) < T + T → j.thread.0 < T
    go Insertion l = omega arith
    go Deletion l = omega arith

next_in : (T : ℕ) (j : Cell) → j.thread.0 < 255 → no_of j < T + T → (next_cell j).thread.0 < T → suc (no_of j) < T + T
next_in T j i h l = go j.kind h l
  where
    go : (k : Kind) → no_of (record { thread = j.thread; kind = k }) < T + T → (next_cell (record { thread = j.thread; kind = k })).thread.0 < T → suc (no_of (record { thread = j.thread; kind = k })) < T + T
    go Insertion h l = omega arith
    go Deletion h l = omega (arith, byte_more j.thread.0 i)

pub next_out : (T : ℕ) (j : Cell) → j.thread.0 < 255 → no_of j < T + T → T ≤ (next_cell j).thread.0 → suc (no_of j) ≡ T + T
next_out T j i h l = go j.kind h l
  where
    go : (k : Kind) → no_of (record { thread = j.thread; kind = k }) < T + T → T ≤ (next_cell (record { thread = j.thread; kind = k })).thread.0 → suc (no_of (record { thread = j.thread; kind = k })) ≡ T + T
    go Insertion h l = omega arith
    go Deletion h l = omega (arith, byte_more j.thread.0 i)

-- ---- A sum of small numbers is small.

sum_small : (k : Kind) (f : ℕ → ℕ) (m : ℕ) → ((q : ℕ) → f q ≤ 64) → sum_by k f m ≤ 64 * m
unfolding sum_by
sum_small k f zero h = omega arith
sum_small k f (suc m) h = let i = sum_small k f m h in omega (arith, h (cell_no m k))

total_small : (f : ℕ → ℕ) → ((q : ℕ) → f q ≤ 64) → total f ≢ invalid
total_small f h e = let i = sum_small Insertion f 8 h in omega arith

-- ---- A record of facts, told of a state that has the same values where they look.

using_keep : (w : World) (t q v : ℕ) {o s : ℕ} → Using w o s → Using (keep t q v w) o s
using_keep w t q v u = record { known = record { some = u.known.some; there = u.known.there }; began = u.began }

read_for_keep : (w : World) (t q v : ℕ) {s q' v' : ℕ} → ReadFor w s q' v' → ReadFor (keep t q v w) s q' v'
read_for_keep w t q v r =
    let f = r.fair in
    record { fair = record { low = f.low; reach = f.reach; early = f.early }; since = r.since }

-- every cell up to q, and q
with_last : (P : ℕ → Type 0) (q : ℕ) → ((q' : ℕ) → q' < q → P q') → P q → (q' : ℕ) → q' < suc q → P q'
with_last P q f p q' h = go (ℕ_discrete q' q)
  where
    go : Dec (q' ≡ q) → P q'
    go (yes e) = rw e p
    go (no n) = f q' (omega arith)

module _ {T n x : ℕ} {w : World} {t o : ℕ} (core : Core T n x w) (acting : Acting T n x w t o) (small : n ≤ 64) (few : T ≤ 8) (room : w.cur < 255)
    (past : Past w) (does : call w o ≡ Size) where
  abbrev Goes' : SizeMove → Type 0
  Goes' v = Branch T x w t o (record { next = size_next v.next; deed = Sizes v.deed })

  some_cell : 0 < T + T
  some_cell = omega (arith, acting.runs)

  thread_small : (j : Cell) → no_of j < T + T → j.thread.0 < 255
  thread_small j h = omega (arith, thread_in T j h)

  -- on to the next access, with nothing changed
  on : (p : SizePoint) → AtSize T w t o p → Goes' (go_to p)
  on p h = record { guar = tt; onward = (does, h) }

  -- the cell j is done
  collect_on : (w' : World) (s : SnapshotId) (j : Cell) → no_of j < T + T → Using w' o s.0 → ((q : ℕ) → q < suc (no_of j) → w'.cell s.0 q ≢ invalid) → AtSize T w' t o (collect_next T s j)
  collect_on w' s j h u v =
      lt_case (λ p. AtSize T w' t o p) (next_cell j).thread.0 T (CollectCount s (next_cell j)) (LowerFlag s)
      (λ l. let e = next_no j (thread_small j h) in
      record { using' = u; inside = omega (arith, next_in T j (thread_small j h) h l); valid = λ q i. v q (omega arith) })
      (λ l. let e = next_out T j (thread_small j h) h l in record { using' = u; valid = λ q i. v q (omega arith) })

  sum_on : (w' : World) (s : SnapshotId) (j : Cell) → no_of j < T + T → Summing T w' t o s.0 (suc (no_of j)) → AtSize T w' t o (each_cell T j (SumCell s) (FixSize s))
  sum_on w' s j h v =
      lt_case (λ p. AtSize T w' t o p) (next_cell j).thread.0 T (SumCell s (next_cell j)) (FixSize s)
      (λ l. let e = next_no j (thread_small j h) in (rw e (next_in T j (thread_small j h) h l), rw e v))
      (λ l. let e = next_out T j (thread_small j h) h l in rw (← e) v)

  flag_known : (s : ℕ) → s ≤ w.cur → w.flag s ≡ true → Known w s
  flag_known s h f = go (ℕ_discrete s 0)
    where
      go : Dec (s ≡ 0) → Known w s
      go (yes e) = let i : true ≡ false = sym (rw e at f) ∙ core.snaps.none in let z : ◌≡◌ {A = ℕ} 0 1 = cc in absurd (omega arith)
      go (no e) = record { some = omega arith; there = h }

  pub size_branch : (p : SizePoint) (seen : List Counts) (g : Sight) → total_of seen ≡ total (w.mine t) → Sees w (no_of (size_cell p)) (size_looks_at p).0 g → AtSize T w t o p → Branch T x w t o (sizing p T seen g)
  size_branch FindCurrent seen g e sees h =
      on (FindFlag g.current) (rw sees.current (record { there = le_refl _; later = λ s l m. absurd (omega arith) }))
  size_branch (FindFlag s) seen g e sees h =
      cond_case (λ p. Goes' (go_to p)) g.collecting (CollectCount s first_cell) (Announce s)
      (λ c. let f = sym sees.collecting ∙ c in
      let k = flag_known s.0 h.there f in
      on (CollectCount s first_cell) (record { using' = record { known = k; began = λ l. absurd (omega (arith, core.snaps.open' s.0 k f)) }; inside = some_cell; valid = λ q l. absurd (omega arith) }))
      (λ c. on (Announce s) (h, λ l. sym sees.collecting ∙ c))
  size_branch (Announce s) seen g e sees h =
      eq_case Goes' g.current.0 s.0 (record { next = Goes (CollectCount (new_id g.current) first_cell); deed = Announces }) (go_to (CollectCount g.current first_cell))
      (λ i. record { guar = down (sym sees.current ∙ i) (ℕ_discrete s.0 0); onward = (does, rw new_is fresh_one) })
      (λ i. on (CollectCount g.current first_cell) (rw sees.current (witnessed (λ j. i (sees.current ∙ j)))))
    where
      down : w.cur ≡ s.0 → Dec (s.0 ≡ 0) → w.flag w.cur ≡ false
      down i (yes z) = rw (i, z) core.snaps.none
      down i (no z) = rw i (h.1 (omega arith))

      new_is : more_byte g.current.0 ≡ suc w.cur
      new_is = rw sees.current (byte_more w.cur room)

      fresh_one : Collecting T (announce w) o (suc w.cur) 0
      fresh_one =
          record {
            using' =
                record {
                  known = record { some = omega arith; there = le_refl _ };
                  began = λ l. absurd (omega (arith, put_same w.closed (suc w.cur) 0));
                };
            inside = some_cell;
            valid = λ q l. absurd (omega arith);
          }

      witnessed : w.cur ≢ s.0 → Collecting T w o w.cur 0
      witnessed i =
          let k : Known w w.cur = record { some = omega (arith, h.0.there); there = le_refl _ } in
          record {
            using' = record { known = k; began = λ l. omega (arith, h.0.later w.cur (omega (arith, h.0.there)) (le_refl _), (core.snaps.spans w.cur k l).0) };
            inside = some_cell;
            valid = λ q l. absurd (omega arith);
          }
  size_branch (CollectCount s j) seen g e sees h =
      on (CollectCell s j g.count) (record { collecting = h; low = rw sees.count (le_refl _); reach = λ u r i l. let c = rw i at (core.counters.done u r) in omega (arith, sees.count) })
  size_branch (CollectCell s j v) seen g e sees h =
      eq_case (λ p. Goes' (go_to p)) g.cell invalid (CollectSet s j v) (collect_next T s j)
      (λ i. on (CollectSet s j v) h)
      (λ i. on (collect_next T s j) (collect_on w s j h.collecting.inside h.collecting.using' (with_last (λ q. w.cell s.0 q ≢ invalid) (no_of j) h.collecting.valid (λ z. i (sees.cell ∙ z)))))
  size_branch (CollectSet s j v) seen g e sees h =
      eq_case (λ d. Branch T x w t o (record { next = To (Sizing (collect_next T s j)); deed = Sizes d })) g.cell invalid (Collects s j v) Looks
      (λ i. record {
        guar = record { carrying = h; empty = sym sees.cell ∙ i };
        onward = (does, collect_on written s j inside (record { known = record { some = using'.known.some; there = using'.known.there }; began = using'.began }) valid);
      })
      (λ i. record {
        guar = tt;
        onward = (does, collect_on w s j inside using' (with_last (λ q. w.cell s.0 q ≢ invalid) (no_of j) h.collecting.valid (λ z. i (sees.cell ∙ z))));
      })
    where
      inside : no_of j < T + T
      inside = h.collecting.inside

      using' : Using w o s.0
      using' = h.collecting.using'

      written : World
      written = write s.0 (no_of j) v w

      valid : (q : ℕ) → q < suc (no_of j) → written.cell s.0 q ≢ invalid
      valid q l =
          rw put_same
          (put_case (λ z. z ≢ invalid) (w.cell s.0) (no_of j) v q (λ i z. omega (arith, h.low, count_small core acting small past (no_of j)))
          (λ i. h.collecting.valid q (omega arith)))
  size_branch (LowerFlag s) seen g e sees h =
      record { guar = h; onward = (does, (some_cell, summing)) }
    where
      closed_is : (lower s.0 t w).closed s.0 ≡ cond (w.flag s.0) w.clock (w.closed s.0)
      closed_is = rw put_same

      summing : Summing T (lower s.0 t w) t o s.0 0
      summing =
          record {
            using' =
                record {
                  known = record { some = h.using'.known.some; there = h.using'.known.there };
                  began = λ l. rw closed_is (cond_case (λ c. w.first o ≤ c) (w.flag s.0) w.clock (w.closed s.0) (λ f. core.records.firsts o) (λ f. h.using'.began (core.snaps.shut s.0 h.using'.known f)));
                };
            inside = omega arith;
            closed = rw closed_is (cond_case (λ c. 0 < c) (w.flag s.0) w.clock (w.closed s.0) (λ f. omega (arith, acting.clock)) (λ f. core.snaps.shut s.0 h.using'.known f));
            reads = λ q l. absurd (omega arith);
            rest = λ q l. rw put_same;
          }
  size_branch (SumCell s j) seen g e sees h =
      record { guar = h.0; onward = (does, sum_on kept s j h.0 summing) }
    where
      kept : World
      kept = keep t (no_of j) g.cell w

      known : Known w s.0
      known = h.1.using'.known

      now' : ReadFor w s.0 (no_of j) g.cell
      now' =
          rw sees.cell (record {
            fair = core.snaps.fair s.0 known (no_of j) h.0 (core.snaps.whole s.0 known h.1.closed (no_of j) h.0);
            since = core.snaps.kept s.0 known h.1.closed (no_of j) h.0;
          })

      summing : Summing T kept t o s.0 (suc (no_of j))
      summing =
          record {
            using' = using_keep w t (no_of j) g.cell h.1.using';
            inside = h.0;
            closed = h.1.closed;
            reads = λ q l. rw put_same
                (put_case (λ z. ReadFor kept s.0 q z) (w.mine t) (no_of j) g.cell q (λ i. rw i (read_for_keep w t (no_of j) g.cell now'))
                (λ i. read_for_keep w t (no_of j) g.cell (h.1.reads q (omega arith))));
            rest = λ q l. rw put_same
                (put_case (λ z. z ≡ 0) (w.mine t) (no_of j) g.cell q (λ i. absurd (omega arith)) (λ i. h.1.rest q (omega arith)));
          }
  size_branch (FixSize s) seen g e sees h =
      eq_case Goes' g.size invalid (record { next = Sized (total_of seen); deed = Fixes s (total_of seen) }) (record { next = Sized g.size; deed = Shares s })
      (λ i. record { guar = (does, record { summing = h; unfixed = sym sees.size ∙ i; sum = e; valid = valid }); onward = sized fixes })
      (λ i. record { guar = does; onward = sized (shares i) })
    where
      low : (q : ℕ) → Dec (q < T + T) → w.mine t q ≤ 64
      low q (yes l) = omega (arith, (h.reads q l).fair.low, count_small core acting small past q)
      low q (no l) = omega (arith, h.rest q (omega arith))

      valid : total_of seen ≢ invalid
      valid = rw e (total_small (w.mine t) (λ q. low q (dec_lt q (T + T))))

      fixes : ReturnsSize (fix s.0 (total_of seen) t o w) o (total_of seen)
      fixes =
          record {
            does = does;
            using' = rw put_same (record { known = record { some = h.using'.known.some; there = h.using'.known.there }; began = h.using'.began });
            closed = rw put_same h.closed;
            fixed = rw (put_same w.used o s.0, put_same w.size s.0 (total_of seen)) valid;
            answer = rw (put_same w.used o s.0, put_same w.size s.0 (total_of seen));
          }

      shares : g.size ≢ invalid → ReturnsSize (share s.0 o w) o g.size
      shares i =
          record {
            does = does;
            using' = rw put_same (record { known = record { some = h.using'.known.some; there = h.using'.known.there }; began = h.using'.began });
            closed = rw put_same h.closed;
            fixed = rw put_same (λ z. i (sees.size ∙ z));
            answer = rw put_same sees.size;
          }
