-- What a thread knows when it changes the memory: the facts under which each part of a step keeps what holds.
-- `x` is the latest step before this one, and the clock tells this step's number already.
use Prim.Native.Nat.{ℕ, suc, ◌+◌, ◌<◌}
use mathlib.Core.Path.{◌≡◌}
use mathlib.Core.Logic.{◌≢◌}
use mathlib.Core.Bool.{false}
use Rattle.figures.specs.declared.Kind.TheVariants.{Insertion, Deletion}
use Rattle.figures.specs.declared.Content.TheVariants.{Empty, Live, Marked}
use Rattle.figures.specs.declared.Call.TheVariants.{Insert, Delete, Size}
use Rattle.figures.specs.declared.Node.{Node}
use Rattle.figures.specs.declared.Update.{Update}
use Rattle.figures.specs.declared.UpdateDeed.{UpdateDeed}
use Rattle.figures.specs.declared.UpdateDeed.TheVariants.{Reads, Raises, Forwards}
use Rattle.figures.specs.declared.SizeDeed.{SizeDeed}
use Rattle.figures.specs.declared.SizeDeed.TheVariants.{Looks, Announces, Collects, Lowers, Keeps, Fixes, Shares}
use Rattle.figures.specs.declared.Deed.{Deed}
use Rattle.figures.specs.declared.Deed.TheVariants.{Rests, Finds, Links, Marks, Unlinks, Updates, Sizes}
use Rattle.figures.specs.Limits.{invalid}
use Rattle.figures.proofs.World.{World, thr, key, call, cell_no, no_of, update_cell, update_target, update_op}
use Rattle.figures.proofs.Inv.{Noted, Settled, Forwarding, Behind, Carrying, Lowering, Summing, Using, Fits, FoundSettled, total}

-- the operation o of thread t takes a step
pub record Acting (T n x : ℕ) (w : World) (t o : ℕ) : Type 0 where
  pub thread : thr w o ≡ t
  pub inside : o < n
  pub runs : t < T
  pub current : w.op t ≡ o
  pub unreturned : w.last o ≡ 0
  pub began : 0 < w.first o
  pub clock : w.clock ≡ suc x

-- a new node, or mark, for o: its own counter's next target
pub record New (w : World) (t o c : ℕ) (d : Node) : Type 0 where
  pub op : d.op.0 ≡ o
  pub by_thread : d.note.0.0 ≡ t
  pub aims : d.note.1.0 ≡ suc (w.count c)

pub record LinksNow (w : World) (t o : ℕ) (d : Node) : Type 0 where
  pub fresh : w.exch o ≡ 0
  pub does : call w o ≡ Insert
  pub empty : w.content (key w o) ≡ Empty
  pub node : New w t o (cell_no t Insertion) d

-- the slot holds b, which is the node n that it holds settled
pub record MarksNow (x : ℕ) (w : World) (t o : ℕ) (n d : Node) : Type 0 where
  pub fresh : w.exch o ≡ 0
  pub does : call w o ≡ Delete
  pub b : Node
  pub live : w.content (key w o) ≡ Live b
  pub same : b.op.0 ≡ n.op.0
  pub noted : Noted w n Insertion (key w o)
  pub settled : Settled w n.op.0 (suc x)
  pub node : New w t o (cell_no t Deletion) d

pub record UnlinksNow (x : ℕ) (w : World) (o : ℕ) : Type 0 where
  pub n : Node
  pub d : Node
  pub marked : w.content (key w o) ≡ Marked n d
  pub settled : Settled w d.op.0 (suc x)

pub record RaisesNow (w : World) (u : Update) : Type 0 where
  pub noted : Noted w u.node u.kind (key w (update_op u))
  pub below : suc (w.count (update_cell u)) ≡ update_target u

pub record ForwardsNow (w : World) (s : ℕ) (u : Update) : Type 0 where
  pub noted : Noted w u.node u.kind (key w (update_op u))
  pub forwarding : Forwarding w u s
  pub behind : Behind u (w.cell s (update_cell u))

pub record CollectsNow (T : ℕ) (w : World) (o s q v : ℕ) : Type 0 where
  pub carrying : Carrying T w o s q v
  pub empty : w.cell s q ≡ invalid

pub record FixesNow (T : ℕ) (w : World) (t o s v : ℕ) : Type 0 where
  pub summing : Summing T w t o s (T + T)
  pub unfixed : w.size s ≡ invalid
  pub sum : v ≡ total (w.mine t)
  pub valid : v ≢ invalid

abbrev pub GuarUpdate : World → UpdateDeed → Update → Type 0
GuarUpdate w Reads u = Unit {0}
GuarUpdate w Raises u = RaisesNow w u
GuarUpdate w (Forwards s) u = ForwardsNow w s.0 u

abbrev pub GuarSize : ℕ → World → ℕ → ℕ → SizeDeed → Type 0
GuarSize T w t o Looks = Unit {0}
GuarSize T w t o Announces = w.flag w.cur ≡ false
GuarSize T w t o (Collects s j v) = CollectsNow T w o s.0 (no_of j) v
GuarSize T w t o (Lowers s) = Lowering T w o s.0
GuarSize T w t o (Keeps j v) = no_of j < T + T
GuarSize T w t o (Fixes s v) = (call w o ≡ Size) × FixesNow T w t o s.0 v
GuarSize T w t o (Shares s) = call w o ≡ Size

abbrev pub Guar : ℕ → ℕ → World → ℕ → ℕ → Deed → Type 0
Guar T x w t o Rests = Unit {0}
Guar T x w t o (Finds c) = c ≡ w.content (key w o)
Guar T x w t o (Links d) = LinksNow w t o d
Guar T x w t o (Marks n d) = MarksNow x w t o n d
Guar T x w t o Unlinks = UnlinksNow x w o
Guar T x w t o (Updates e u) = GuarUpdate w e u
Guar T x w t o (Sizes e) = GuarSize T w t o e

-- what a return of a needs, once the step's change is made; x is this step's number now
pub record ReturnsChanged (x : ℕ) (w : World) (o a : ℕ) : Type 0 where
  pub exchanged : 0 < w.exch o
  pub one : a ≡ 1
  pub settled : Settled w o (suc x)

pub record ReturnsFinder (x : ℕ) (w : World) (o a : ℕ) : Type 0 where
  pub fresh : w.exch o ≡ 0
  pub looked : 0 < w.read o
  pub fits : Fits (call w o) (w.found o) a
  pub settled : FoundSettled w (w.found o) (suc x)

pub record ReturnsSize (w : World) (o a : ℕ) : Type 0 where
  pub does : call w o ≡ Size
  pub using' : Using w o (w.used o)
  pub closed : 0 < w.closed (w.used o)
  pub fixed : w.size (w.used o) ≢ invalid
  pub answer : a ≡ w.size (w.used o)

pub data ReturnsNow (x : ℕ) (w : World) (o a : ℕ) : Type 0 where
  changed : ReturnsChanged x w o a → ReturnsNow x w o a
  finder : ReturnsFinder x w o a → ReturnsNow x w o a
  sized : ReturnsSize w o a → ReturnsNow x w o a
