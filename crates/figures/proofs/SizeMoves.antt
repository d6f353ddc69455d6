-- The accesses of a size, by what they are to its sum: a read for it, the write of false before it, the exchange after it, or another.
use Prim.Native.Nat.{ℕ, suc, ◌+◌, ◌<◌}
use mathlib.Core.Path.{◌≡◌, refl, sym, ap, ◌∙◌, subst}
use mathlib.Core.Logic.{◌⊎◌, inl, inr}
use mathlib.Core.Bool.{Bool, true, false}
use mathlib.Core.List.{List}
use lib.Dec.{eqb, ltb}
use borrow.Author.Tests.{eqb-false}
use Rattle.terms.specs.declared.ThreadId.{ThreadId}
use Rattle.terms.specs.declared.OpId.{OpId}
use Rattle.terms.specs.declared.SnapshotId.{SnapshotId}
use Rattle.terms.specs.declared.Target.{Target}
use Rattle.figures.specs.declared.Cell.{Cell}
use Rattle.figures.specs.declared.Counts.{Counts}
use Rattle.figures.specs.declared.Sight.{Sight}
use Rattle.figures.specs.declared.UpdateNext.{UpdateNext}
use Rattle.figures.specs.declared.UpdateNext.TheVariants.{Then, Done}
use Rattle.figures.specs.declared.SizePoint.{SizePoint}
use Rattle.figures.specs.declared.SizePoint.TheVariants.{FindCurrent, FindFlag, Announce, CollectCount, CollectCell, CollectSet, LowerFlag, SumCell, FixSize}
use Rattle.figures.specs.declared.SizeDeed.TheVariants.{Looks, Announces, Collects, Lowers, Keeps, Fixes, Shares}
use Rattle.figures.specs.declared.SizeMove.{SizeMove}
use Rattle.figures.specs.declared.Node.{Node}
use Rattle.figures.specs.declared.Content.{Content}
use Rattle.figures.specs.declared.Content.TheVariants.{Empty, Live, Marked}
use Rattle.figures.specs.declared.Call.{Call}
use Rattle.figures.specs.declared.Call.TheVariants.{Insert, Delete, Contains, Size}
use Rattle.figures.specs.declared.Update.{Update}
use Rattle.figures.specs.declared.After.{After}
use Rattle.figures.specs.declared.After.TheVariants.{Answer, ToMark, ToHelpUnlink, ToUnlink}
use Rattle.figures.specs.declared.Point.{Point}
use Rattle.figures.specs.declared.Point.TheVariants.{Idle, ReadSlot, Updating, CountInsertions, Link, HelpUnlink, CountDeletions, Mark, Unlink, Sizing}
use Rattle.figures.specs.declared.Deed.{Deed}
use Rattle.figures.specs.declared.Deed.TheVariants.{Rests, Finds, Links, Marks, Unlinks, Updates, Sizes}
use Rattle.figures.specs.declared.Next.{Next}
use Rattle.figures.specs.declared.Next.TheVariants.{To, Returns}
use Rattle.figures.specs.declared.Move.{Move}
use Rattle.figures.specs.Limits.{invalid}
use Rattle.figures.specs.Figure6.{next_cell, collect_next}
use Rattle.figures.specs.Figure5.{update_at}
use Rattle.figures.specs.Figure3.{found, update_next, link_found, is_marked, is_live, size_next, sizing}
use Rattle.figures.specs.Step.{stands_at, access_of}
use Rattle.figures.proofs.Laws.{cond_both, lt_case}
use Rattle.figures.proofs.World.{World, no_of, call}
use Rattle.figures.proofs.Inv.{Knows, Fits, Afterwards}
use Rattle.figures.proofs.OwnSize.{next_no, next_out}

-- how many cells a thread that stands there has read for its sum
abbrev pub reach : ℕ → Point → ℕ
reach T Idle = 0
reach T ReadSlot = 0
reach T (Updating p u a) = 0
reach T CountInsertions = 0
reach T (Link c) = 0
reach T (HelpUnlink n d) = 0
reach T (CountDeletions n) = 0
reach T (Mark n c) = 0
reach T (Unlink n d) = 0
reach T (Sizing FindCurrent) = 0
reach T (Sizing (FindFlag n)) = 0
reach T (Sizing (Announce n)) = 0
reach T (Sizing (CollectCount n j)) = 0
reach T (Sizing (CollectCell n j v)) = 0
reach T (Sizing (CollectSet n j v)) = 0
reach T (Sizing (LowerFlag n)) = 0
reach T (Sizing (SumCell n j)) = no_of j
reach T (Sizing (FixSize n)) = T + T

abbrev pub on_reach : ℕ → Next → ℕ
on_reach T (To p) = reach T p
on_reach T (Returns a) = 0

abbrev pub is_sizing : Point → Bool
is_sizing Idle = false
is_sizing ReadSlot = false
is_sizing (Updating p u a) = false
is_sizing CountInsertions = false
is_sizing (Link c) = false
is_sizing (HelpUnlink n d) = false
is_sizing (CountDeletions n) = false
is_sizing (Mark n c) = false
is_sizing (Unlink n d) = false
is_sizing (Sizing p) = true

-- what a deed is to the sum of its size
abbrev pub sum_tag : Deed → ℕ
sum_tag Rests = 0
sum_tag (Finds c) = 0
sum_tag (Links n) = 0
sum_tag (Marks n d) = 0
sum_tag Unlinks = 0
sum_tag (Updates d u) = 0
sum_tag (Sizes Looks) = 0
sum_tag (Sizes Announces) = 0
sum_tag (Sizes (Collects n j v)) = 0
sum_tag (Sizes (Lowers n)) = 2
sum_tag (Sizes (Keeps j v)) = 1
sum_tag (Sizes (Fixes n v)) = 3
sum_tag (Sizes (Shares n)) = 4

pub data SumMove (T : ℕ) (p : Point) (v : Move) : Type 0 where
  keeps : (n : SnapshotId) (j : Cell) (c : ℕ) (q : Point) → p ≡ Sizing (SumCell n j) → v.deed ≡ Sizes (Keeps j c) → v.next ≡ To q
      → (j.thread.0 < 255 → no_of j < T + T → reach T q ≡ suc (no_of j)) → SumMove T p v
  lowers : (n : SnapshotId) (q : Point) → v.deed ≡ Sizes (Lowers n) → v.next ≡ To q → reach T p ≡ 0 → reach T q ≡ 0 → SumMove T p v
  answers : (n : SnapshotId) (a : ℕ) → p ≡ Sizing (FixSize n) → v.next ≡ Returns a
      → (v.deed ≡ Sizes (Fixes n a)) ⊎ (v.deed ≡ Sizes (Shares n)) → SumMove T p v
  sizes : (q : Point) → v.next ≡ To q → sum_tag v.deed ≡ 0 → reach T p ≡ 0 → reach T q ≡ 0 → SumMove T p v
  sets : is_sizing p ≡ false → sum_tag v.deed ≡ 0 → reach T p ≡ 0 → on_reach T v.next ≡ 0 → SumMove T p v

-- ---- Each access.

found_reach : (T : ℕ) (k : Call) (c : Content) → on_reach T (found k c) ≡ 0
found_reach T Insert Empty = refl
found_reach T Insert (Live n) = refl
found_reach T Insert (Marked n d) = refl
found_reach T Delete Empty = refl
found_reach T Delete (Live n) = refl
found_reach T Delete (Marked n d) = refl
found_reach T Contains Empty = refl
found_reach T Contains (Live n) = refl
found_reach T Contains (Marked n d) = refl
found_reach T Size c = refl

update_reach : (T : ℕ) (x : UpdateNext) (u : Update) (a : After) → on_reach T (update_next x u a) ≡ 0
update_reach T (Then p) u a = refl
update_reach T (Done r) u (Answer a) = refl
update_reach T (Done r) u (ToMark n) = refl
update_reach T (Done r) u (ToHelpUnlink n d) = refl
update_reach T (Done r) u (ToUnlink n d) = refl

link_move : (T : ℕ) (g : Target) (n : Node) (c : Content) → SumMove T (Link g) (link_found n c)
link_move T g n Empty = sets refl refl refl refl
link_move T g n (Live a) = sets refl refl refl refl
link_move T g n (Marked a b) = sets refl refl refl refl

size_move : (T : ℕ) (p : SizePoint) (seen : List Counts) (s : Sight) → SumMove T (Sizing p) (sizing p T seen s)
size_move T FindCurrent seen s = sizes _ refl refl refl refl
size_move T (FindFlag n) seen s = sizes _ refl refl refl (cond_both (λ q. reach T (Sizing q) ≡ 0) s.collecting _ _ refl refl)
size_move T (Announce n) seen s =
    cond_both (λ (v : SizeMove). SumMove T (Sizing (Announce n)) (record { next = size_next v.next; deed = Sizes v.deed }))
    (eqb s.current.0 n.0) _ _ (sizes _ refl refl refl refl) (sizes _ refl refl refl refl)
size_move T (CollectCount n j) seen s = sizes _ refl refl refl refl
size_move T (CollectCell n j v) seen s =
    sizes _ refl refl refl (cond_both (λ q. reach T (Sizing q) ≡ 0) (eqb s.cell invalid) _ _ refl (collect_reach T n j))
  where
    collect_reach : (T : ℕ) (n : SnapshotId) (j : Cell) → reach T (Sizing (collect_next T n j)) ≡ 0
    collect_reach T n j = cond_both (λ q. reach T (Sizing q) ≡ 0) (ltb (next_cell j).thread.0 T) _ _ refl refl
size_move T (CollectSet n j v) seen s =
    sizes _ refl (cond_both (λ d. sum_tag (Sizes d) ≡ 0) (eqb s.cell invalid) _ _ refl refl) refl
    (cond_both (λ q. reach T (Sizing q) ≡ 0) (ltb (next_cell j).thread.0 T) _ _ refl refl)
size_move T (LowerFlag n) seen s = lowers n _ refl refl refl refl
size_move T (SumCell n j) seen s =
    keeps n j s.cell _ refl refl refl
    (λ l h. lt_case (λ q. reach T (Sizing q) ≡ suc (no_of j)) (next_cell j).thread.0 T (SumCell n (next_cell j)) (FixSize n)
    (λ i. next_no j l) (λ i. sym (next_out T j l h i)))
size_move T (FixSize n) seen s =
    cond_both (λ (v : SizeMove). SumMove T (Sizing (FixSize n)) (record { next = size_next v.next; deed = Sizes v.deed }))
    (eqb s.size invalid) _ _ (answers n _ refl refl (inl refl)) (answers n _ refl refl (inr refl))

pub sum_move : (T : ℕ) (p : Point) (t : ThreadId) (o : OpId) (k : Call) (seen : List Counts) (s : Sight) (c : Content)
    → SumMove T p (access_of p t o k T seen s c)
sum_move T Idle t o k seen s c = sets refl refl refl refl
sum_move T ReadSlot t o k seen s c = sets refl refl refl (found_reach T k c)
sum_move T (Updating p u a) t o k seen s c = sets refl refl refl (update_reach T (update_at p u.node.note.1 s).next u a)
sum_move T CountInsertions t o k seen s c = sets refl refl refl refl
sum_move T (Link g) t o k seen s c = link_move T g _ c
sum_move T (HelpUnlink n d) t o k seen s c = sets refl (cond_both (λ e. sum_tag e ≡ 0) (is_marked n d c) Unlinks Rests refl refl) refl refl
sum_move T (CountDeletions n) t o k seen s c = sets refl refl refl refl
sum_move T (Mark n g) t o k seen s c =
    cond_both (λ (v : Move). SumMove T (Mark n g) v) (is_live n c) _ _ (sets refl refl refl refl) (sets refl refl refl refl)
sum_move T (Unlink n d) t o k seen s c = sets refl (cond_both (λ e. sum_tag e ≡ 0) (is_marked n d c) Unlinks Rests refl refl) refl refl
sum_move T (Sizing p) t o k seen s c = size_move T p seen s

-- ---- Where a size stands.

abbrev kind_no : Call → ℕ
kind_no Insert = 0
kind_no Delete = 1
kind_no Contains = 2
kind_no Size = 3

pub stands_reach : (T : ℕ) (p : Point) (k : Call) → reach T (stands_at p k) ≡ reach T p
stands_reach T Idle Insert = refl
stands_reach T Idle Delete = refl
stands_reach T Idle Contains = refl
stands_reach T Idle Size = refl
stands_reach T ReadSlot k = refl
stands_reach T (Updating p u a) k = refl
stands_reach T CountInsertions k = refl
stands_reach T (Link c) k = refl
stands_reach T (HelpUnlink n d) k = refl
stands_reach T (CountDeletions n) k = refl
stands_reach T (Mark n c) k = refl
stands_reach T (Unlink n d) k = refl
stands_reach T (Sizing p) k = refl

module _ (T x : ℕ) (w : World) (t o : ℕ) (size : call w o ≡ Size) where
  other : {A : Type 0} {k : Call} → call w o ≡ k → eqb (kind_no k) 3 ≡ false → A
  other {A} {k} e n = absurd (eqb-false (kind_no k) 3 n (ap kind_no (sym e ∙ size)))

  no_update_lem : {A : Type 0} (u : Update) (a : After) → Afterwards w o u a → A
  no_update_lem u (Answer a) (inl h) = other h.does refl
  no_update_lem u (Answer a) (inr h) = absurd (subst (λ (k : Call). Fits k (w.found o) a) size h.fits)
  no_update_lem u (ToMark n) h = other h.does refl
  no_update_lem u (ToHelpUnlink n d) h = other h.does refl
  no_update_lem u (ToUnlink n d) h = other h.does refl

  pub size_stands_lem : (p : Point) → Knows T x w t o p → is_sizing (stands_at p (call w o)) ≡ true
  size_stands_lem Idle h = rw size refl
  size_stands_lem ReadSlot h = absurd (h.1 size)
  size_stands_lem (Updating p u a) h = no_update_lem u a h.then'
  size_stands_lem CountInsertions h = other h.does refl
  size_stands_lem (Link g) h = other h.0.does refl
  size_stands_lem (HelpUnlink n d) h = other h.does refl
  size_stands_lem (CountDeletions n) h = other h.does refl
  size_stands_lem (Mark n g) h = other h.0.does refl
  size_stands_lem (Unlink n d) h = other h.does refl
  size_stands_lem (Sizing p) h = refl
