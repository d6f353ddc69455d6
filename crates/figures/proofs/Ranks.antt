-- How many own steps a size has taken, by where it stands: at least and at most. Each own step leads on in that order.
use Prim.Native.Nat.{ℕ, suc, ◌+◌, ◌*◌, ◌≤◌, ◌<◌}
use mathlib.Core.Path.{◌≡◌, refl, sym, subst}
use mathlib.Core.Logic.{◌≢◌}
use mathlib.Core.List.{List}
use native.Mathlib.Omega.{arith}
use lib.Dec.{eqb}
use Rattle.terms.specs.declared.ThreadId.{ThreadId}
use Rattle.terms.specs.declared.OpId.{OpId}
use Rattle.terms.specs.declared.SnapshotId.{SnapshotId}
use Rattle.figures.specs.declared.Kind.{Kind}
use Rattle.figures.specs.declared.Kind.TheVariants.{Insertion, Deletion}
use Rattle.figures.specs.declared.Cell.{Cell}
use Rattle.figures.specs.declared.Counts.{Counts}
use Rattle.figures.specs.declared.Sight.{Sight}
use Rattle.figures.specs.declared.UpdateNext.{UpdateNext}
use Rattle.figures.specs.declared.UpdateNext.TheVariants.{Then, Done}
use Rattle.figures.specs.declared.SizePoint.{SizePoint}
use Rattle.figures.specs.declared.SizePoint.TheVariants.{FindCurrent, FindFlag, Announce, CollectCount, CollectCell, CollectSet, LowerFlag, SumCell, FixSize}
use Rattle.figures.specs.declared.SizeNext.{SizeNext}
use Rattle.figures.specs.declared.SizeNext.TheVariants.{Goes, Sized}
use Rattle.figures.specs.declared.SizeMove.{SizeMove}
use Rattle.figures.specs.declared.Node.{Node}
use Rattle.figures.specs.declared.Content.{Content}
use Rattle.figures.specs.declared.Content.TheVariants.{Empty, Live, Marked}
use Rattle.figures.specs.declared.Call.{Call}
use Rattle.figures.specs.declared.Call.TheVariants.{Insert, Delete, Contains, Size}
use Rattle.figures.specs.declared.Update.{Update}
use Rattle.figures.specs.declared.After.{After}
use Rattle.figures.specs.declared.After.TheVariants.{Answer, ToMark, ToHelpUnlink, ToUnlink}
use Rattle.figures.specs.declared.Point.{Point}
use Rattle.figures.specs.declared.Point.TheVariants.{Idle, ReadSlot, Updating, CountInsertions, Link, HelpUnlink, CountDeletions, Mark, Unlink, Sizing}
use Rattle.figures.specs.declared.Next.{Next}
use Rattle.figures.specs.declared.Next.TheVariants.{To, Returns}
use Rattle.figures.specs.declared.Move.{Move}
use Rattle.figures.specs.Limits.{invalid}
use Rattle.figures.specs.Figure6.{first_cell, next_cell, each_cell, collect_next}
use Rattle.figures.specs.Figure5.{update_at, size_at}
use Rattle.figures.specs.Figure3.{found, link_found, update_next, size_next, entry, node_of, is_live}
use Rattle.figures.specs.Step.{stands_at, access_of}
use Rattle.figures.proofs.Laws.{cond_both, lt_case, more_byte_is}

-- the cells in order, from 0
abbrev kind_number : Kind → ℕ
kind_number Insertion = 0
kind_number Deletion = 1

abbrev pub place : Cell → ℕ
place j = 2 * j.thread.0 + kind_number j.kind

-- so many own steps at least, and at most
pub record Between (least own most : ℕ) : Type 0 where
  pub low : least ≤ own
  pub high : own ≤ most

-- the same at a cell, which is one of the threads'
pub record AtCell (threads : ℕ) (j : Cell) (least own most : ℕ) : Type 0 where
  pub thread : j.thread.0 < threads
  pub low : least ≤ own
  pub high : own ≤ most

abbrev pub Ranked : ℕ → SizePoint → ℕ → Type 0
Ranked n FindCurrent own = Between 0 own 0
Ranked n (FindFlag s) own = Between 1 own 1
Ranked n (Announce s) own = Between 2 own 2
Ranked n (CollectCount s j) own = AtCell n j (2 + 2 * place j) own (3 + 3 * place j)
Ranked n (CollectCell s j v) own = AtCell n j (3 + 2 * place j) own (4 + 3 * place j)
Ranked n (CollectSet s j v) own = AtCell n j (4 + 2 * place j) own (5 + 3 * place j)
Ranked n (LowerFlag s) own = Between (2 + 4 * n) own (3 + 6 * n)
Ranked n (SumCell s j) own = AtCell n j (3 + 4 * n + place j) own (4 + 6 * n + place j)
Ranked n (FixSize s) own = Between (3 + 6 * n) own (4 + 8 * n)

abbrev pub Sized-in : ℕ → ℕ → Type 0
Sized-in n own = Between (6 * n + 4) own (8 * n + 5)

abbrev NextRanked : ℕ → SizeNext → ℕ → Type 0
NextRanked n (Goes p) own = Ranked n p own
NextRanked n (Sized a) own = Sized-in n own

module _ (n : ℕ) (some : 1 ≤ n) (most : n ≤ 8) where
  next_place : (i : ThreadId) (k : Kind) → i.0 < n → place (next_cell (record { thread = i; kind = k })) ≡ suc (place (record { thread = i; kind = k }))
  next_place i Insertion l = omega arith
  next_place i Deletion l = omega (arith, more_byte_is i.0 (omega arith))

  last_place : (i : ThreadId) (k : Kind) → i.0 < n → n ≤ (next_cell (record { thread = i; kind = k })).thread.0 → suc (place (record { thread = i; kind = k })) ≡ 2 * n
  last_place i Insertion l h = absurd (omega arith)
  last_place i Deletion l h = omega (arith, more_byte_is i.0 (omega arith))

  -- on to the next cell, or to what follows the last
  each : (P : SizePoint → Type 0) (j : Cell) (again : Cell → SizePoint) (after : SizePoint) → j.thread.0 < n
      → ((j' : Cell) → j'.thread.0 < n → place j' ≡ suc (place j) → P (again j')) → (suc (place j) ≡ 2 * n → P after) → P (each_cell n j again after)
  each P j again after l f g =
      lt_case P (next_cell j).thread.0 n (again (next_cell j)) after (λ h. f (next_cell j) h (next_place j.thread j.kind l)) (λ h. g (last_place j.thread j.kind l h))

  collect_next_lem : (s : SnapshotId) (j : Cell) (own : ℕ) → AtCell n j (4 + 2 * place j) own (6 + 3 * place j) → Ranked n (collect_next n s j) own
  collect_next_lem s j own r =
      each (λ p. Ranked n p own) j (CollectCount s) (LowerFlag s) r.thread
      (λ j' l e. record { thread = l; low = omega (arith, r.low); high = omega (arith, r.high) })
      (λ e. record { low = omega (arith, r.low); high = omega (arith, r.high) })

  ranked_step : (p : SizePoint) (seen : List Counts) (s : Sight) (own : ℕ) → Ranked n p own → NextRanked n (size_at p n seen s).next (suc own)
  ranked_step FindCurrent seen s own r = record { low = omega arith; high = omega arith }
  ranked_step (FindFlag k) seen s own r =
      cond_both (λ p. Ranked n p (suc own)) s.collecting (CollectCount k first_cell) (Announce k)
      (record { thread = omega arith; low = omega arith; high = omega arith }) (record { low = omega arith; high = omega arith })
  ranked_step (Announce k) seen s own r =
      cond_both (λ (v : SizeMove). NextRanked n v.next (suc own)) (eqb s.current.0 k.0) _ _
      (record { thread = omega arith; low = omega arith; high = omega arith }) (record { thread = omega arith; low = omega arith; high = omega arith })
  ranked_step (CollectCount k j) seen s own r = record { thread = r.thread; low = omega (arith, r.low); high = omega (arith, r.high) }
  ranked_step (CollectCell k j v) seen s own r =
      cond_both (λ p. Ranked n p (suc own)) (eqb s.cell invalid) (CollectSet k j v) (collect_next n k j)
      (record { thread = r.thread; low = omega (arith, r.low); high = omega (arith, r.high) })
      (collect_next_lem k j (suc own) (record { thread = r.thread; low = omega (arith, r.low); high = omega (arith, r.high) }))
  ranked_step (CollectSet k j v) seen s own r =
      collect_next_lem k j (suc own) (record { thread = r.thread; low = omega (arith, r.low); high = omega (arith, r.high) })
  ranked_step (LowerFlag k) seen s own r = record { thread = omega arith; low = omega (arith, r.low); high = omega (arith, r.high) }
  ranked_step (SumCell k j) seen s own r =
      each (λ p. Ranked n p (suc own)) j (SumCell k) (FixSize k) r.thread
      (λ j' l e. record { thread = l; low = omega (arith, r.low); high = omega (arith, r.high) })
      (λ e. record { low = omega (arith, r.low); high = omega (arith, r.high) })
  ranked_step (FixSize k) seen s own r =
      cond_both (λ (v : SizeMove). NextRanked n v.next (suc own)) (eqb s.size invalid) _ _
      (record { low = omega (arith, r.low); high = omega (arith, r.high) }) (record { low = omega (arith, r.low); high = omega (arith, r.high) })

  place_small : (j : Cell) → j.thread.0 < n → suc (place j) ≤ 2 * n
  place_small j l = go j.kind
    where
      go : (k : Kind) → suc (2 * j.thread.0 + kind_number k) ≤ 2 * n
      go Insertion = omega arith
      go Deletion = omega arith

  -- never past the most that a size takes
  pub ranked_most : (p : SizePoint) (own : ℕ) → Ranked n p own → own ≤ 8 * n + 5
  ranked_most FindCurrent own r = omega (arith, r.high)
  ranked_most (FindFlag s) own r = omega (arith, r.high)
  ranked_most (Announce s) own r = omega (arith, r.high)
  ranked_most (CollectCount s j) own r = omega (arith, r.high, place_small j r.thread)
  ranked_most (CollectCell s j v) own r = omega (arith, r.high, place_small j r.thread)
  ranked_most (CollectSet s j v) own r = omega (arith, r.high, place_small j r.thread)
  ranked_most (LowerFlag s) own r = omega (arith, r.high)
  ranked_most (SumCell s j) own r = omega (arith, r.high, place_small j r.thread)
  ranked_most (FixSize s) own r = omega (arith, r.high)

-- ---- Where a thread stands fits what its operation asks: a size is inside compute, and nothing else is.

abbrev pub Fits : ℕ → Call → Point → ℕ → Type 0
Fits n k Idle own = Unit {0}
Fits n k ReadSlot own = k ≢ Size
Fits n k (Updating p u a) own = k ≢ Size
Fits n k CountInsertions own = k ≢ Size
Fits n k (Link c) own = k ≢ Size
Fits n k (HelpUnlink a b) own = k ≢ Size
Fits n k (CountDeletions a) own = k ≢ Size
Fits n k (Mark a c) own = k ≢ Size
Fits n k (Unlink a b) own = k ≢ Size
Fits n k (Sizing p) own = (k ≡ Size) × Ranked n p own

abbrev pub NextFits : ℕ → Call → Next → ℕ → Type 0
NextFits n k (To p) own = Fits n k p own
NextFits n k (Returns a) own = k ≡ Size → Sized-in n own

module _ (n : ℕ) (own : ℕ) where
  fits_found : (k : Call) (c : Content) → k ≢ Size → NextFits n k (found k c) own
  fits_found Insert Empty h = h
  fits_found Insert (Live a) h = h
  fits_found Insert (Marked a b) h = h
  fits_found Delete Empty h = λ e. absurd (h e)
  fits_found Delete (Live a) h = h
  fits_found Delete (Marked a b) h = h
  fits_found Contains Empty h = λ e. absurd (h e)
  fits_found Contains (Live a) h = h
  fits_found Contains (Marked a b) h = h
  fits_found Size c h = absurd (h refl)

  module _ (k : Call) (h : k ≢ Size) where
    fits_update : (v : UpdateNext) (u : Update) (a : After) → NextFits n k (update_next v u a) own
    fits_update (Then p) u a = h
    fits_update (Done r) u (Answer a) = λ e. absurd (h e)
    fits_update (Done r) u (ToMark a) = h
    fits_update (Done r) u (ToHelpUnlink a b) = h
    fits_update (Done r) u (ToUnlink a b) = h

    fits_link : (a : Node) (c : Content) → NextFits n k (link_found a c).next own
    fits_link a Empty = h
    fits_link a (Live b) = h
    fits_link a (Marked b d) = h

  fits_size : (v : SizeNext) → NextRanked n v own → NextFits n Size (size_next v) own
  fits_size (Goes p) r = (refl, r)
  fits_size (Sized a) r = λ e. r

module _ (n : ℕ) (some : 1 ≤ n) (most : n ≤ 8) (t : ThreadId) (o : OpId) (seen : List Counts) (s : Sight) (c : Content) (own : ℕ) where
  pub fits_access : (k : Call) (p : Point) → Fits n k p own → NextFits n k (access_of p t o k n seen s c).next (suc own)
  fits_access k Idle h = tt
  fits_access k ReadSlot h = fits_found n (suc own) k c h
  fits_access k (Updating p u a) h = fits_update n (suc own) k h (update_at p u.node.note.1 s).next u a
  fits_access k CountInsertions h = h
  fits_access k (Link g) h = fits_link n (suc own) k h (node_of t g o) c
  fits_access k (HelpUnlink a b) h = h
  fits_access k (CountDeletions a) h = h
  fits_access k (Mark a g) h = cond_both (λ (v : Move). NextFits n k v.next (suc own)) (is_live a c) _ _ h h
  fits_access k (Unlink a b) h = λ e. absurd (h e)
  fits_access k (Sizing p) h =
      subst (λ (k' : Call). NextFits n k' (size_next (size_at p n seen s).next) (suc own)) (sym h.0)
      (fits_size n (suc own) (size_at p n seen s).next (ranked_step n some most p seen s own h.1))

module _ (n own : ℕ) where
  fits_entry : (k : Call) → own ≡ 0 → Fits n k (entry k) own
  fits_entry Insert e = λ q. let z : ◌≡◌ {A = ℕ} 0 1 = cc in omega arith
  fits_entry Delete e = λ q. let z : ◌≡◌ {A = ℕ} 0 1 = cc in omega arith
  fits_entry Contains e = λ q. let z : ◌≡◌ {A = ℕ} 0 1 = cc in omega arith
  fits_entry Size e = (refl, record { low = omega arith; high = omega arith })

  pub fits_stands : (k : Call) (p : Point) → Fits n k p own → (p ≡ Idle → own ≡ 0) → Fits n k (stands_at p k) own
  fits_stands k Idle h z = fits_entry k (z refl)
  fits_stands k ReadSlot h z = h
  fits_stands k (Updating p u a) h z = h
  fits_stands k CountInsertions h z = h
  fits_stands k (Link c) h z = h
  fits_stands k (HelpUnlink a b) h z = h
  fits_stands k (CountDeletions a) h z = h
  fits_stands k (Mark a c) h z = h
  fits_stands k (Unlink a b) h z = h
  fits_stands k (Sizing p) h z = h
