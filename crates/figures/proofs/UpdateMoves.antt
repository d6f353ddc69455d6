-- One access of updateMetadata: what it tells of the raising, and where it leads. An access past the first is reached from the same update
-- alone.
use Prim.Native.Nat.{ℕ, ◌-◌}
use mathlib.Core.Path.{◌≡◌, refl, ap}
use mathlib.Core.Logic.{◌⊎◌, inl, inr}
use mathlib.Core.Bool.{Bool, true, false, cond, ◌||◌}
use mathlib.Core.List.{List}
use native.Mathlib.Omega.{arith}
use lib.Dec.{eqb}
use Rattle.terms.specs.declared.ThreadId.{ThreadId}
use Rattle.terms.specs.declared.OpId.{OpId}
use Rattle.terms.specs.declared.SnapshotId.{SnapshotId}
use Rattle.terms.specs.declared.Target.{Target}
use Rattle.figures.specs.declared.Counts.{Counts}
use Rattle.figures.specs.declared.Sight.{Sight}
use Rattle.figures.specs.declared.UpdatePoint.{UpdatePoint}
use Rattle.figures.specs.declared.UpdatePoint.TheVariants.{ReadCount, RaiseCount, ReadCurrent, ReadFlag, ReadAgain, ReadCell, Forward}
use Rattle.figures.specs.declared.UpdateDeed.{UpdateDeed}
use Rattle.figures.specs.declared.UpdateDeed.TheVariants.{Reads, Raises, Forwards}
use Rattle.figures.specs.declared.UpdateNext.{UpdateNext}
use Rattle.figures.specs.declared.UpdateNext.TheVariants.{Then, Done}
use Rattle.figures.specs.declared.UpdateMove.{UpdateMove}
use Rattle.figures.specs.declared.SizeNext.{SizeNext}
use Rattle.figures.specs.declared.Content.{Content}
use Rattle.figures.specs.declared.Content.TheVariants.{Empty, Live, Marked}
use Rattle.figures.specs.declared.Node.{Node}
use Rattle.figures.specs.declared.Call.{Call}
use Rattle.figures.specs.declared.Call.TheVariants.{Insert, Delete, Contains, Size}
use Rattle.figures.specs.declared.Update.{Update}
use Rattle.figures.specs.declared.After.{After}
use Rattle.figures.specs.declared.After.TheVariants.{Answer, ToMark, ToHelpUnlink, ToUnlink}
use Rattle.figures.specs.declared.Point.{Point}
use Rattle.figures.specs.declared.Point.TheVariants.{Idle, ReadSlot, Updating, CountInsertions, Link, HelpUnlink, CountDeletions, Mark, Unlink, Sizing}
use Rattle.figures.specs.declared.Next.{Next}
use Rattle.figures.specs.declared.Move.{Move}
use Rattle.figures.specs.declared.Machine.{Machine}
use Rattle.figures.specs.Figure4.{sight_of}
use Rattle.figures.specs.Figure6.{behind, forward_from}
use Rattle.figures.specs.Figure5.{update_at, size_at, update_looks_at}
use Rattle.figures.specs.Figure3.{entry, node_of, is_live, goes_to, found, link_found, size_next, afterwards, update_next, updating, cell_of, looks_at_cell, looks_at_snapshot}
use Rattle.figures.specs.Step.{local_at, record_at, content_at, stands_at, access_of, move_of}
use Rattle.figures.proofs.Laws.{eq_case, test_case, cond_both}
use Rattle.figures.proofs.Frame.{point_after}

-- ---- What is told after an access: what was told before it, or that it raised the counter.

abbrev pub so_far : UpdatePoint → Bool
so_far ReadCount = false
so_far RaiseCount = false
so_far (ReadCurrent raised) = raised
so_far (ReadFlag raised n) = raised
so_far (ReadAgain raised n) = raised
so_far (ReadCell raised n) = raised
so_far (Forward raised n known) = raised

abbrev pub report_of : UpdateNext → Bool
report_of (Then p) = so_far p
report_of (Done raised) = raised

abbrev pub is_raising : UpdateDeed → Bool
is_raising Reads = false
is_raising Raises = true
is_raising (Forwards n) = false

or_no : (b : Bool) → b ≡ (b || false)
or_no true = refl
or_no false = refl

pub or_case : {A : Type 0} (a b : Bool) → (a || b) ≡ true → (a ≡ true → A) → (b ≡ true → A) → A
or_case true b e f g = f refl
or_case false b e f g = g e

pub raising_is : (d : UpdateDeed) → is_raising d ≡ true → d ≡ Raises
raising_is Reads e = let z : ◌≡◌ {A = ℕ} 0 1 = cc in absurd (omega arith)
raising_is Raises e = refl
raising_is (Forwards n) e = let z : ◌≡◌ {A = ℕ} 0 1 = cc in absurd (omega arith)

module _ (c : Target) (s : Sight) where
  -- an access that raises the counter finds it one below the target
  abbrev Below : UpdateDeed → Type 0
  Below d = d ≡ Raises → s.count ≡ c.0 - 1

  reads_only_lem : Below Reads
  reads_only_lem e = let z : ◌≡◌ {A = ℕ} 0 1 = cc in absurd (omega arith)

  forwards_only : (n : SnapshotId) → Below (Forwards n)
  forwards_only n e = let z : ◌≡◌ {A = ℕ} 0 1 = cc in absurd (omega arith)

  pub raises_below : (p : UpdatePoint) → (update_at p c s).deed ≡ Raises → s.count ≡ c.0 - 1
  raises_below ReadCount = reads_only_lem
  raises_below RaiseCount = eq_case Below s.count (c.0 - 1) Raises Reads (λ e q. e) (λ n. reads_only_lem)
  raises_below (ReadCurrent raised) = reads_only_lem
  raises_below (ReadFlag raised n) = cond_both (λ (v : UpdateMove). Below v.deed) s.collecting _ _ reads_only_lem reads_only_lem
  raises_below (ReadAgain raised n) = cond_both (λ (v : UpdateMove). Below v.deed) (eqb s.count c.0) _ _ reads_only_lem reads_only_lem
  raises_below (ReadCell raised n) = cond_both (λ (v : UpdateMove). Below v.deed) (behind s.cell c) _ _ reads_only_lem reads_only_lem
  raises_below (Forward raised n known) =
      cond_both (λ (v : UpdateMove). Below v.deed) (eqb s.cell known) _ _ (forwards_only n)
      (cond_both (λ (v : UpdateMove). Below v.deed) (behind s.cell c) _ _ reads_only_lem reads_only_lem)

  abbrev Carries : Bool → UpdateMove → Type 0
  Carries raised v = report_of v.next ≡ (raised || is_raising v.deed)

  carries_from : (raised : Bool) (n : SnapshotId) (v : ℕ) → Carries raised (forward_from raised n c v)
  carries_from raised n v = cond_both (Carries raised) (behind v c) _ _ (or_no raised) (or_no raised)

  pub carries : (p : UpdatePoint) → Carries (so_far p) (update_at p c s)
  carries ReadCount = cond_both (λ (p : UpdatePoint). so_far p ≡ false) (eqb s.count (c.0 - 1)) RaiseCount (ReadCurrent false) refl refl
  carries RaiseCount =
      test_case (λ (b : Bool). b ≡ is_raising (cond b Raises Reads)) (eqb s.count (c.0 - 1)) (λ e. refl) (λ e. refl)
  carries (ReadCurrent raised) = or_no raised
  carries (ReadFlag raised n) = cond_both (Carries raised) s.collecting _ _ (or_no raised) (or_no raised)
  carries (ReadAgain raised n) = cond_both (Carries raised) (eqb s.count c.0) _ _ (or_no raised) (or_no raised)
  carries (ReadCell raised n) = carries_from raised n s.cell
  carries (Forward raised n known) =
      cond_both (Carries raised) (eqb s.cell known) _ _ (or_no raised) (carries_from raised n s.cell)

-- ---- Where an access leads.

-- the thread's move, where it stands in an update
module _ (m : Machine) (t : ThreadId) (u : Update) (a : After) (p : UpdatePoint) (e : (local_at m t).point ≡ Updating p u a) where
  pub move_is : move_of m t ≡ updating p u a (sight_of m.calculator (update_looks_at p) (cell_of u))
  unfolding move_of
  move_is =
      let l = local_at m t in
      let x = (record_at m l.op).asked in
      ap (λ (q : Point).
      access_of (stands_at q x.call) t l.op x.call m.threads l.seen
      (sight_of m.calculator (looks_at_snapshot (stands_at q x.call)) (looks_at_cell t (stands_at q x.call))) (content_at m x.key)) e

pub same_point : {p p' : UpdatePoint} {u : Update} {a : After} {q : Point} → q ≡ Updating p u a → q ≡ Updating p' u a → p ≡ p'
same_point e f = cc

-- an update ends elsewhere than in an update
pub not_updating : (a : After) {p : UpdatePoint} {u : Update} {a' : After} {A : Type 0} → point_after (afterwards a) ≡ Updating p u a' → A
not_updating (Answer b) e = let z : ◌≡◌ {A = ℕ} 0 1 = cc in absurd (omega arith)
not_updating (ToMark n) e = let z : ◌≡◌ {A = ℕ} 0 1 = cc in absurd (omega arith)
not_updating (ToHelpUnlink n d) e = let z : ◌≡◌ {A = ℕ} 0 1 = cc in absurd (omega arith)
not_updating (ToUnlink n d) e = let z : ◌≡◌ {A = ℕ} 0 1 = cc in absurd (omega arith)

-- so where the thread stands in the same update after the access, the next point has the report
pub next_tells : (x : UpdateNext) (u : Update) (a : After) {q : UpdatePoint} → point_after (update_next x u a) ≡ Updating q u a
    → so_far q ≡ report_of x
next_tells (Then p) u a e = ap so_far (same_point e refl)
next_tells (Done raised) u a e = not_updating a e

-- ---- An access past the first is reached from the same update alone.

abbrev pub Later : UpdatePoint → Type 0
Later ReadCount = ⊥
Later RaiseCount = Unit {0}
Later (ReadCurrent raised) = Unit {0}
Later (ReadFlag raised n) = Unit {0}
Later (ReadAgain raised n) = Unit {0}
Later (ReadCell raised n) = Unit {0}
Later (Forward raised n known) = Unit {0}

pub first_or_later : (p : UpdatePoint) → (p ≡ ReadCount) ⊎ Later p
first_or_later ReadCount = inl refl
first_or_later RaiseCount = inr tt
first_or_later (ReadCurrent raised) = inr tt
first_or_later (ReadFlag raised n) = inr tt
first_or_later (ReadAgain raised n) = inr tt
first_or_later (ReadCell raised n) = inr tt
first_or_later (Forward raised n known) = inr tt

pub first_later : {p : UpdatePoint} → p ≡ ReadCount → Later p → ⊥
first_later e l = rw e at l

-- an update ends past its first access
pub ends_later : (p : UpdatePoint) (c : Target) (s : Sight) {raised : Bool} → (update_at p c s).next ≡ Done raised → Later p
ends_later ReadCount c s e = let z : ◌≡◌ {A = ℕ} 0 1 = cc in absurd (omega arith)
ends_later RaiseCount c s e = tt
ends_later (ReadCurrent r) c s e = tt
ends_later (ReadFlag r n) c s e = tt
ends_later (ReadAgain r n) c s e = tt
ends_later (ReadCell r n) c s e = tt
ends_later (Forward r n known) c s e = tt

-- does not lead past the first access of an update
abbrev pub EntersAt : Point → Type 0
EntersAt Idle = Unit {0}
EntersAt ReadSlot = Unit {0}
EntersAt (Updating p u a) = p ≡ ReadCount
EntersAt CountInsertions = Unit {0}
EntersAt (Link c) = Unit {0}
EntersAt (HelpUnlink n d) = Unit {0}
EntersAt (CountDeletions n) = Unit {0}
EntersAt (Mark n c) = Unit {0}
EntersAt (Unlink n d) = Unit {0}
EntersAt (Sizing p) = Unit {0}

abbrev pub Enters : Next → Type 0
Enters n = EntersAt (point_after n)

enters_found : (k : Call) (c : Content) → Enters (found k c)
enters_found Insert Empty = tt
enters_found Insert (Live n) = refl
enters_found Insert (Marked n d) = refl
enters_found Delete Empty = tt
enters_found Delete (Live n) = refl
enters_found Delete (Marked n d) = refl
enters_found Contains Empty = tt
enters_found Contains (Live n) = refl
enters_found Contains (Marked n d) = refl
enters_found Size c = tt

enters_link : (n : Node) (c : Content) → Enters (link_found n c).next
enters_link n Empty = refl
enters_link n (Live a) = tt
enters_link n (Marked a b) = tt

enters_size : (n : SizeNext) → Enters (size_next n)
enters_size (SizeNext.Goes p) = tt
enters_size (SizeNext.Sized a) = tt

-- an access of a thread that stands at q enters an update at most, or is one of the update that it leads to
pub data Source (q : Point) (n : Next) : Type 0 where
  enters : Enters n → Source q n
  inside : (p : UpdatePoint) (u : Update) (a : After) → q ≡ Updating p u a
      → ((p' : UpdatePoint) (u' : Update) (a' : After) → point_after n ≡ Updating p' u' a' → (u ≡ u') × (a ≡ a')) → Source q n

same_update : {p p' : UpdatePoint} {u u' : Update} {a a' : After} → Updating p u a ≡ Updating p' u' a' → (u ≡ u') × (a ≡ a')
same_update e = (cc, cc)

stays : (x : UpdateNext) (u : Update) (a : After) (p' : UpdatePoint) (u' : Update) (a' : After)
    → point_after (update_next x u a) ≡ Updating p' u' a' → (u ≡ u') × (a ≡ a')
stays (Then q) u a p' u' a' e = same_update e
stays (Done raised) u a p' u' a' e = not_updating a e

module _ (t : ThreadId) (o : OpId) (threads : ℕ) (seen : List Counts) (s : Sight) (c : Content) where
  begun : (k : Call) → Enters (access_of (entry k) t o k threads seen s c).next
  begun Insert = enters_found Insert c
  begun Delete = enters_found Delete c
  begun Contains = enters_found Contains c
  begun Size = tt

  source : (q : Point) (k : Call) → Source q (access_of (stands_at q k) t o k threads seen s c).next
  source Idle k = enters (begun k)
  source ReadSlot k = enters (enters_found k c)
  source (Updating p u a) k = inside p u a refl (stays (update_at p u.node.note.1 s).next u a)
  source CountInsertions k = enters tt
  source (Link g) k = enters (enters_link (node_of t g o) c)
  source (HelpUnlink n d) k = enters tt
  source (CountDeletions n) k = enters tt
  source (Mark n g) k = enters (cond_both (λ (v : Move). Enters v.next) (is_live n c) _ (goes_to ReadSlot) refl tt)
  source (Unlink n d) k = enters tt
  source (Sizing p) k = enters (enters_size (size_at p threads seen s).next)

pub move_source : (m : Machine) (t : ThreadId) → Source (local_at m t).point (move_of m t).next
unfolding move_of
move_source m t =
    let l = local_at m t in
    let x = (record_at m l.op).asked in
    let p = stands_at l.point x.call in
    source t l.op m.threads l.seen (sight_of m.calculator (looks_at_snapshot p) (looks_at_cell t p)) (content_at m x.key)
    l.point x.call
