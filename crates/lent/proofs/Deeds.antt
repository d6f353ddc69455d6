-- What an access changes of the snapshots, by where its thread stands: a snapshot up to the current one; or it announces, which is a
-- size's third own step. And it looks at no snapshot past the current one.
use Prim.Native.Nat.{ℕ, ◌-◌, ◌≤◌}
use mathlib.Core.Path.{◌≡◌, refl}
use mathlib.Core.Bool.{Bool, true}
use mathlib.Core.List.{List}
use native.Mathlib.Omega.{arith}
use lib.Dec.{eqb}
use Rattle.terms.specs.declared.ThreadId.{ThreadId}
use Rattle.terms.specs.declared.OpId.{OpId}
use Rattle.terms.specs.declared.SnapshotId.{SnapshotId}
use Rattle.terms.specs.declared.Target.{Target}
use Rattle.figures.specs.declared.Counts.{Counts}
use Rattle.figures.specs.declared.Sight.{Sight}
use Rattle.figures.specs.declared.UpdatePoint.{UpdatePoint}
use Rattle.figures.specs.declared.UpdatePoint.TheVariants.{ReadCount, RaiseCount, ReadCurrent, ReadFlag, ReadAgain, ReadCell, Forward}
use Rattle.figures.specs.declared.UpdateDeed.{UpdateDeed}
use Rattle.figures.specs.declared.UpdateDeed.TheVariants.{Reads, Raises, Forwards}
use Rattle.figures.specs.declared.UpdateMove.{UpdateMove}
use Rattle.figures.specs.declared.SizePoint.{SizePoint}
use Rattle.figures.specs.declared.SizePoint.TheVariants.{FindCurrent, FindFlag, Announce, CollectCount, CollectCell, CollectSet, LowerFlag, SumCell, FixSize}
use Rattle.figures.specs.declared.SizeDeed.{SizeDeed}
use Rattle.figures.specs.declared.SizeDeed.TheVariants.{Looks, Announces, Collects, Lowers, Keeps, Fixes, Shares}
use Rattle.figures.specs.declared.SizeMove.{SizeMove}
use Rattle.figures.specs.declared.Node.{Node}
use Rattle.figures.specs.declared.Content.{Content}
use Rattle.figures.specs.declared.Content.TheVariants.{Empty, Live, Marked}
use Rattle.figures.specs.declared.Call.{Call}
use Rattle.figures.specs.declared.Call.TheVariants.{Size}
use Rattle.figures.specs.declared.Point.{Point}
use Rattle.figures.specs.declared.Point.TheVariants.{Idle, ReadSlot, Updating, CountInsertions, Link, HelpUnlink, CountDeletions, Mark, Unlink, Sizing}
use Rattle.figures.specs.declared.Deed.{Deed}
use Rattle.figures.specs.declared.Deed.TheVariants.{Rests, Finds, Links, Marks, Unlinks, Updates, Sizes}
use Rattle.figures.specs.declared.Move.{Move}
use Rattle.figures.specs.Limits.{invalid}
use Rattle.figures.specs.Figure6.{behind, forward_from}
use Rattle.figures.specs.Figure5.{update_at, size_at, update_looks_at, size_looks_at}
use Rattle.figures.specs.Figure3.{link_found, node_of, is_live, is_marked, looks_at_snapshot}
use Rattle.figures.specs.Step.{access_of}
use Rattle.figures.specs.Counts.{is_announcing, is_announcement}
use Rattle.figures.specs.Ranges.{Bounds, UpdatePointIn, SizePointIn, PointIn}
use Rattle.figures.proofs.Laws.{cond_both, tests_differ}
use Rattle.figures.proofs.Ranks.{Ranked, Fits}

-- an operation that announces is a size, in its third own step
pub record Third (k : Call) (own : ℕ) : Type 0 where
  pub size : k ≡ Size
  pub third : own ≡ 2

abbrev UpdateFits : ℕ → UpdateDeed → Type 0
UpdateFits current Reads = Unit {0}
UpdateFits current Raises = Unit {0}
UpdateFits current (Forwards n) = n.0 ≤ current

abbrev SizeFits : ℕ → Call → ℕ → SizeDeed → Type 0
SizeFits current k own Looks = Unit {0}
SizeFits current k own Announces = Third k own
SizeFits current k own (Collects n j v) = n.0 ≤ current
SizeFits current k own (Lowers n) = n.0 ≤ current
SizeFits current k own (Keeps j v) = Unit {0}
SizeFits current k own (Fixes n v) = n.0 ≤ current
SizeFits current k own (Shares n) = Unit {0}

abbrev pub DeedFits : ℕ → Call → ℕ → Deed → Type 0
DeedFits current k own Rests = Unit {0}
DeedFits current k own (Finds c) = Unit {0}
DeedFits current k own (Links n) = Unit {0}
DeedFits current k own (Marks n d) = Unit {0}
DeedFits current k own Unlinks = Unit {0}
DeedFits current k own (Updates d u) = UpdateFits current d
DeedFits current k own (Sizes d) = SizeFits current k own d

module _ (b : Bounds) (t : ThreadId) (o : OpId) (k : Call) (n : ℕ) (seen : List Counts) (s : Sight) (c : Content) (own : ℕ) where
  forward_fits : (r : Bool) (i : SnapshotId) (g : Target) (v : ℕ) → UpdateFits b.current (forward_from r i g v).deed
  forward_fits r i g v = cond_both (λ (x : UpdateMove). UpdateFits b.current x.deed) (behind v g) _ _ tt tt

  update_fits : (p : UpdatePoint) (g : Target) → UpdatePointIn b p → UpdateFits b.current (update_at p g s).deed
  update_fits ReadCount g h = tt
  update_fits RaiseCount g h = cond_both (UpdateFits b.current) (eqb s.count (g.0 - 1)) Raises Reads tt tt
  update_fits (ReadCurrent r) g h = tt
  update_fits (ReadFlag r i) g h = cond_both (λ (x : UpdateMove). UpdateFits b.current x.deed) s.collecting _ _ tt tt
  update_fits (ReadAgain r i) g h = cond_both (λ (x : UpdateMove). UpdateFits b.current x.deed) (eqb s.count g.0) _ _ tt tt
  update_fits (ReadCell r i) g h = forward_fits r i g s.cell
  update_fits (Forward r i known) g h =
      cond_both (λ (x : UpdateMove). UpdateFits b.current x.deed) (eqb s.cell known) _ _ h.0 (forward_fits r i g s.cell)

  size_fits : (p : SizePoint) → k ≡ Size → SizePointIn b p → Ranked n p own → SizeFits b.current k own (size_at p n seen s).deed
  size_fits FindCurrent e h r = tt
  size_fits (FindFlag i) e h r = tt
  size_fits (Announce i) e h r =
      cond_both (λ (x : SizeMove). SizeFits b.current k own x.deed) (eqb s.current.0 i.0) _ _
      (record { size = e; third = omega (arith, r.low, r.high) }) tt
  size_fits (CollectCount i j) e h r = tt
  size_fits (CollectCell i j v) e h r = tt
  size_fits (CollectSet i j v) e h r = cond_both (SizeFits b.current k own) (eqb s.cell invalid) (Collects i j v) Looks h.0 tt
  size_fits (LowerFlag i) e h r = h
  size_fits (SumCell i j) e h r = tt
  size_fits (FixSize i) e h r = cond_both (λ (x : SizeMove). SizeFits b.current k own x.deed) (eqb s.size invalid) _ _ h tt

  link_fits : (a : Node) (x : Content) → DeedFits b.current k own (link_found a x).deed
  link_fits a Empty = tt
  link_fits a (Live x) = tt
  link_fits a (Marked x y) = tt

  pub deed_fits : (p : Point) → PointIn b p → Fits n k p own → DeedFits b.current k own (access_of p t o k n seen s c).deed
  deed_fits Idle h r = tt
  deed_fits ReadSlot h r = tt
  deed_fits (Updating p u a) h r = update_fits p u.node.note.1 h.0
  deed_fits CountInsertions h r = tt
  deed_fits (Link g) h r = link_fits (node_of t g o) c
  deed_fits (HelpUnlink x y) h r = cond_both (DeedFits b.current k own) (is_marked x y c) Unlinks Rests tt tt
  deed_fits (CountDeletions x) h r = tt
  deed_fits (Mark x g) h r = cond_both (λ (v : Move). DeedFits b.current k own v.deed) (is_live x c) _ _ tt tt
  deed_fits (Unlink x y) h r = cond_both (DeedFits b.current k own) (is_marked x y c) Unlinks Rests tt tt
  deed_fits (Sizing p) h r = size_fits p r.0 h r.1

announcing_third : (current : ℕ) (k : Call) (own : ℕ) (d : SizeDeed) → is_announcing d ≡ true → SizeFits current k own d → Third k own
announcing_third current k own Looks e f = tests_differ e refl
announcing_third current k own Announces e f = f
announcing_third current k own (Collects n j v) e f = tests_differ e refl
announcing_third current k own (Lowers n) e f = tests_differ e refl
announcing_third current k own (Keeps j v) e f = tests_differ e refl
announcing_third current k own (Fixes n v) e f = tests_differ e refl
announcing_third current k own (Shares n) e f = tests_differ e refl

pub announcement_third : (current : ℕ) (k : Call) (own : ℕ) (d : Deed) → is_announcement d ≡ true → DeedFits current k own d → Third k own
announcement_third current k own Rests e f = tests_differ e refl
announcement_third current k own (Finds c) e f = tests_differ e refl
announcement_third current k own (Links n) e f = tests_differ e refl
announcement_third current k own (Marks n d) e f = tests_differ e refl
announcement_third current k own Unlinks e f = tests_differ e refl
announcement_third current k own (Updates d u) e f = tests_differ e refl
announcement_third current k own (Sizes d) e f = announcing_third current k own d e f

-- ---- What it looks at.

update_looks : (b : Bounds) (p : UpdatePoint) → UpdatePointIn b p → (update_looks_at p).0 ≤ b.current
update_looks b ReadCount h = omega arith
update_looks b RaiseCount h = omega arith
update_looks b (ReadCurrent r) h = omega arith
update_looks b (ReadFlag r n) h = h
update_looks b (ReadAgain r n) h = h
update_looks b (ReadCell r n) h = h
update_looks b (Forward r n known) h = h.0

size_looks : (b : Bounds) (p : SizePoint) → SizePointIn b p → (size_looks_at p).0 ≤ b.current
size_looks b FindCurrent h = omega arith
size_looks b (FindFlag n) h = h
size_looks b (Announce n) h = h
size_looks b (CollectCount n j) h = h.0
size_looks b (CollectCell n j v) h = h.0
size_looks b (CollectSet n j v) h = h.0
size_looks b (LowerFlag n) h = h
size_looks b (SumCell n j) h = h.0
size_looks b (FixSize n) h = h

pub looks_in : (b : Bounds) (p : Point) → PointIn b p → (looks_at_snapshot p).0 ≤ b.current
looks_in b Idle h = omega arith
looks_in b ReadSlot h = omega arith
looks_in b (Updating p u a) h = update_looks b p h.0
looks_in b CountInsertions h = omega arith
looks_in b (Link c) h = omega arith
looks_in b (HelpUnlink n d) h = omega arith
looks_in b (CountDeletions n) h = omega arith
looks_in b (Mark n c) h = omega arith
looks_in b (Unlink n d) h = omega arith
looks_in b (Sizing p) h = size_looks b p h
