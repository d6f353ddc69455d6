-- Where a raised update stands: at its raising, or, if its window's sum missed it, at that window's closing. What is settled by a step
-- stands before it.
use Prim.Native.Nat.{ℕ, ◌+◌, ◌≤◌, ◌<◌}
use mathlib.Core.Path.{◌≡◌, refl, sym, ap, ◌∙◌}
use mathlib.Core.Bool.{true, not, ◌&&◌}
use mathlib.Core.List.{List}
use native.Mathlib.Omega.{arith}
use lib.Dec.{eqb, ltb}
use borrow.Author.Tests.{ltb-true, lt-ltb, eqb-false, ne_eqb, not-true}
use Rattle.history.specs.Places.{place}
use Rattle.figures.specs.declared.Kind.{Kind}
use Rattle.figures.specs.declared.Kind.TheVariants.{Insertion, Deletion}
use Rattle.figures.specs.declared.Call.{Call}
use Rattle.figures.specs.declared.Call.TheVariants.{Insert, Delete, Contains, Size}
use Rattle.figures.specs.declared.Machine.{Machine}
use Rattle.figures.specs.Figure4.{count_at, trace_at}
use Rattle.figures.specs.Step.{record_at}
use Rattle.figures.specs.Counts.{ops_before}
use Rattle.figures.specs.Places.{op, own_cell, missed, update_stands}
use Rattle.figures.specs.Places as Places
use Rattle.figures.proofs.Laws.{cond_case, and_true, tests_differ}
use Rattle.figures.proofs.World.{World, thr, key, call, cell_op, cell_no, kind_of}
use Rattle.figures.proofs.Inv.{Core, Exchange, InWindow, Fixed, Settled, Settles, alone, after, reached, caught}
use Rattle.figures.proofs.Threads.{Threads}
use Rattle.figures.proofs.Mirror.{world_of, seen_at}

-- what is known at the end of a run of T threads and n operations
pub record Ended (T n : ℕ) (m : Machine) (g : ℕ → ℕ → ℕ) (counts : List ℕ) : Type 0 where
  pub threads : T ≤ 8
  pub operations : n ≤ 64
  pub steps : m.clock ≤ 4096
  pub core : Core T n m.clock (world_of m g)
  pub owners : Threads counts m
  pub all : ops_before counts 8 ≡ n

-- ---- The exception.

pub record Missed (w : World) (u : ℕ) : Type 0 where
  pub some : 0 < w.window u
  pub fixed : 0 < w.fixed (w.window u)
  pub low : w.seen (w.window u) (cell_op w u) < w.target u

kind_same : (c : Call) → Places.kind_of c ≡ kind_of c
kind_same Insert = refl
kind_same Delete = refl
kind_same Contains = refl
kind_same Size = refl

-- its three tests
module _ (s z v t : ℕ) where
  tests_are : (not (eqb s 0) && not (eqb z 0) && ltb v t) ≡ true → (0 < s) × (0 < z) × (v < t)
  tests_are e =
      let b = and_true (not (eqb s 0) && not (eqb z 0)) (ltb v t) e in
      let a = and_true (not (eqb s 0)) (not (eqb z 0)) b.0 in
      let n = eqb-false s 0 (not-true (eqb s 0) a.0) in
      let k = eqb-false z 0 (not-true (eqb z 0) a.1) in
      (omega (arith, n), omega (arith, k), ltb-true v t b.1)

  are_tests : 0 < s → 0 < z → v < t → (not (eqb s 0) && not (eqb z 0) && ltb v t) ≡ true
  are_tests a b c = rw (ne_eqb s 0 (λ e. omega arith), ne_eqb z 0 (λ e. omega arith), lt-ltb v t c)

-- the step at which an update stands
unfoldable pub standing : Machine → ℕ → ℕ
standing m u = (update_stands m (record_at m (op u))).step

module _ (m : Machine) (g : ℕ → ℕ → ℕ) (u : ℕ) where
  seen_own : (world_of m g).seen ((world_of m g).window u) (cell_op (world_of m g) u) ≡ count_at (trace_at m.calculator (record_at m (op u)).change.window).seen (own_cell (record_at m (op u)))
  seen_own =
      ap (λ k. (world_of m g).seen ((world_of m g).window u) (cell_no (thr (world_of m g) u) k)) (sym (kind_same (call (world_of m g) u)))
      ∙ seen_at m g (record_at m (op u)).change.window (own_cell (record_at m (op u)))

  missed_is : missed m (record_at m (op u)) ≡ true → Missed (world_of m g) u
  missed_is e =
      let t = tests_are ((world_of m g).window u) ((world_of m g).fixed ((world_of m g).window u)) _ ((world_of m g).target u) e in
      record { some = t.0; fixed = t.1; low = rw seen_own t.2 }

  is_missed : Missed (world_of m g) u → missed m (record_at m (op u)) ≡ true
  is_missed h = are_tests ((world_of m g).window u) ((world_of m g).fixed ((world_of m g).window u)) _ ((world_of m g).target u) h.some h.fixed (rw seen_own at h.low)

  pub standing_case : (P : ℕ → Type 0) → (Missed (world_of m g) u → P ((world_of m g).closed ((world_of m g).window u)))
      → ((Missed (world_of m g) u → ⊥) → P ((world_of m g).raised u)) → P (standing m u)
  unfolding standing
  standing_case P f h = cond_case P (missed m (record_at m (op u))) _ _ (λ e. f (missed_is e)) (λ e. h (λ x. tests_differ (is_missed x) e))

  pub stands_update : update_stands m (record_at m (op u)) ≡ place (standing m u) 1 ((world_of m g).raised u) 0
  unfolding standing
  stands_update = refl

-- ---- The step.

module _ {T n : ℕ} {m : Machine} {g : ℕ → ℕ → ℕ} {counts : List ℕ} (i : Ended T n m g counts) where
  abbrev w : World
  w = world_of m g

  pub exchange_of : (u : ℕ) → 0 < w.raised u → Exchange T n m.clock w u
  exchange_of u r = i.core.records.exchanges u (i.core.records.raises u r).exchanged

  pub cell_small : (u : ℕ) → 0 < w.raised u → cell_op w u < T + T
  cell_small u r = go (kind_of (call w u)) (exchange_of u r).thread
    where
      go : (k : Kind) → thr w u < T → cell_no (thr w u) k < T + T
      go Insertion h = omega arith
      go Deletion h = omega arith

  -- the window of a missed update
  missed_window : (u : ℕ) → 0 < w.raised u → Missed w u → InWindow w u (w.window u)
  missed_window u r h = i.core.windows.told u r h.some

  missed_fixed : (u : ℕ) → 0 < w.raised u → Missed w u → Fixed T w (w.window u)
  missed_fixed u r h =
      let k = (missed_window u r h).known in
      i.core.snaps.fixed (w.window u) k (i.core.snaps.valid (w.window u) k h.fixed)

  pub raised_standing : (u : ℕ) → 0 < w.raised u → w.raised u ≤ standing m u
  raised_standing u r =
      standing_case m g u (λ s. w.raised u ≤ s)
      (λ h. omega (arith, (missed_window u r h).before (missed_fixed u r h).closed)) (λ h. omega arith)

  pub exchanged_standing : (u : ℕ) → 0 < w.raised u → w.exch u < standing m u
  exchanged_standing u r = omega (arith, (i.core.records.raises u r).after, raised_standing u r)

  pub settled_standing : (u y : ℕ) → Settled w u y → standing m u < y
  settled_standing u y s = standing_case m g u (λ p. p < y) (λ h. go h s.how) (λ h. s.before)
    where
      go : Missed w u → Settles w u y → w.closed (w.window u) < y
      go h (alone e) = absurd (omega (arith, h.some))
      go h (after a l) = l
      go h (reached e a l) = absurd (omega (arith, (missed_fixed u s.raised h).closed))
      go h (caught a l) = absurd (omega (arith, h.low, ((missed_fixed u s.raised h).reads (cell_op w u) (cell_small u s.raised)).since))

  -- of two updates of one key the one exchanged before is raised, and stands before the other is exchanged
  pub pair : (u v : ℕ) → 0 < w.exch u → 0 < w.exch v → key w u ≡ key w v → w.exch u < w.exch v → (0 < w.raised u) × (standing m u < w.exch v)
  pair u v a b e l = let s = i.core.keys.pairs u v a b e l in (s.raised, settled_standing u (w.exch v) s)
