-- The state as functions, for proofs: what each operation's record, each thread, each counter, each snapshot and each slot has.
-- A counter, and a cell of a snapshot, is told by one number: twice the thread, and one more for deletions. `held` is known to
-- proofs alone: the cells that a snapshot had at its closing.
use Prim.Native.Nat.{ℕ, suc, ◌+◌}
use mathlib.Core.Path.{◌≡◌, refl, sym}
use mathlib.Core.Logic.{◌≢◌}
use mathlib.Core.Bool.{Bool, true, false, cond}
use native.Mathlib.Decide.{ℕ_discrete}
use lib.Dec.{eqb, ltb}
use borrow.Author.Tests.{eq-eqb, ne_eqb}
use Rattle.figures.specs.declared.Kind.{Kind}
use Rattle.figures.specs.declared.Kind.TheVariants.{Insertion, Deletion}
use Rattle.figures.specs.declared.Content.{Content}
use Rattle.figures.specs.declared.Content.TheVariants.{Empty, Live, Marked}
use Rattle.figures.specs.declared.Call.{Call}
use Rattle.figures.specs.declared.Call.TheVariants.{Insert, Delete}
use Rattle.figures.specs.declared.Point.{Point}
use Rattle.figures.specs.declared.Point.TheVariants.{Idle}
use Rattle.figures.specs.declared.Update.{Update}
use Rattle.figures.specs.declared.UpdateDeed.{UpdateDeed}
use Rattle.figures.specs.declared.UpdateDeed.TheVariants.{Reads, Raises, Forwards}
use Rattle.figures.specs.declared.SizeDeed.{SizeDeed}
use Rattle.figures.specs.declared.SizeDeed.TheVariants.{Looks, Announces, Collects, Lowers, Keeps, Fixes, Shares}
use Rattle.figures.specs.declared.Deed.{Deed}
use Rattle.figures.specs.declared.Deed.TheVariants.{Rests, Finds, Links, Marks, Unlinks, Updates, Sizes}
use Rattle.figures.specs.declared.Next.{Next}
use Rattle.figures.specs.declared.Next.TheVariants.{To, Returns}
use Rattle.figures.specs.declared.Asked.{Asked}
use Rattle.figures.specs.declared.Cell.{Cell}
use Rattle.figures.specs.Limits.{invalid}
pub use Rattle.figures.specs.Places.{kind_of}

-- ---- A function with another value at one place.

module _ {A : Type 0} where
  unfoldable pub put : (ℕ → A) → ℕ → A → ℕ → A
  put f i a j = cond (eqb i j) a (f j)

  pub put_same : (f : ℕ → A) (i : ℕ) (a : A) → put f i a i ≡ a
  unfolding put
  put_same f i a = rw (eq-eqb i i refl)

  pub put_other : (f : ℕ → A) (i : ℕ) (a : A) (j : ℕ) → j ≢ i → put f i a j ≡ f j
  unfolding put
  put_other f i a j n = rw (ne_eqb i j (λ e. n (sym e)))

  -- by cases on the place
  pub put_case : (P : A → Type 0) (f : ℕ → A) (i : ℕ) (a : A) (j : ℕ) → (j ≡ i → P a) → (j ≢ i → P (f j)) → P (put f i a j)
  put_case P f i a j g h = go (ℕ_discrete j i)
    where
      go : Dec (j ≡ i) → P (put f i a j)
      go (yes e) = rw (e, put_same) (g e)
      go (no n) = rw (put_other f i a j n) (h n)

  -- a write of what is there changes nothing that can be seen of it
  pub put_field : {B : Type 0} (p : A → B) (f : ℕ → A) (i : ℕ) (a : A) (j : ℕ) → p a ≡ p (f i) → p (put f i a j) ≡ p (f j)
  put_field p f i a j e = put_case (λ x. p x ≡ p (f j)) f i a j (λ q. rw q e) (λ n. refl)

-- ---- Cells by number.

abbrev pub bit : Kind → ℕ
bit Insertion = 0
bit Deletion = 1

abbrev pub cell_no : ℕ → Kind → ℕ
cell_no t k = t + t + bit k

abbrev pub no_of : Cell → ℕ
no_of j = cell_no j.thread.0 j.kind

-- a cell of a new snapshot: INVALID (there are sixteen)
abbrev pub fresh : ℕ → ℕ
fresh q = cond (ltb q 16) invalid 0

-- the call that makes an update of this kind
abbrev pub call_for : Kind → Call
call_for Insertion = Insert
call_for Deletion = Delete

pub kind_call : (k : Kind) → kind_of (call_for k) ≡ k
kind_call Insertion = refl
kind_call Deletion = refl

abbrev pub update_cell : Update → ℕ
update_cell u = cell_no u.node.note.0.0 u.kind

abbrev pub update_target : Update → ℕ
update_target u = u.node.note.1.0

abbrev pub update_op : Update → ℕ
update_op u = u.node.op.0

-- ---- The state.

pub record World : Type 0 where
  pub clock : ℕ
  -- of an operation
  pub asked : ℕ → Asked
  pub first : ℕ → ℕ
  pub last : ℕ → ℕ
  pub answer : ℕ → ℕ
  pub read : ℕ → ℕ
  pub found : ℕ → Content
  pub exch : ℕ → ℕ
  pub target : ℕ → ℕ
  pub raised : ℕ → ℕ
  pub window : ℕ → ℕ
  pub used : ℕ → ℕ
  -- of a thread
  pub op : ℕ → ℕ
  pub point : ℕ → Point
  pub mine : ℕ → ℕ → ℕ
  -- of the calculator
  pub count : ℕ → ℕ
  pub cur : ℕ
  pub flag : ℕ → Bool
  pub size : ℕ → ℕ
  pub ann : ℕ → ℕ
  pub closed : ℕ → ℕ
  pub fixed : ℕ → ℕ
  pub cell : ℕ → ℕ → ℕ
  pub seen : ℕ → ℕ → ℕ
  pub held : ℕ → ℕ → ℕ
  -- of a key
  pub content : ℕ → Content

abbrev pub thr : World → ℕ → ℕ
thr w o = (w.asked o).thread.0

abbrev pub key : World → ℕ → ℕ
key w o = (w.asked o).key

abbrev pub call : World → ℕ → Call
call w o = (w.asked o).call

-- the counter of an update
abbrev pub cell_op : World → ℕ → ℕ
cell_op w u = cell_no (thr w u) (kind_of (call w u))

-- ---- What the parts of a step change. After `tick` the clock is the step's number.

abbrev pub tick : ℕ → World → World
tick o w = record { clock = suc w.clock; asked = w.asked; first = put w.first o (cond (eqb (w.first o) 0) (suc w.clock) (w.first o)); last = w.last; answer = w.answer; read = w.read; found = w.found; exch = w.exch; target = w.target; raised = w.raised; window = w.window; used = w.used; op = w.op; point = w.point; mine = w.mine; count = w.count; cur = w.cur; flag = w.flag; size = w.size; ann = w.ann; closed = w.closed; fixed = w.fixed; cell = w.cell; seen = w.seen; held = w.held; content = w.content }

abbrev pub find : ℕ → Content → World → World
find o c w = record { clock = w.clock; asked = w.asked; first = w.first; last = w.last; answer = w.answer; read = put w.read o w.clock; found = put w.found o c; exch = w.exch; target = w.target; raised = w.raised; window = w.window; used = w.used; op = w.op; point = w.point; mine = w.mine; count = w.count; cur = w.cur; flag = w.flag; size = w.size; ann = w.ann; closed = w.closed; fixed = w.fixed; cell = w.cell; seen = w.seen; held = w.held; content = w.content }

-- the slot exchange of o succeeded, with target g; the slot of its key holds c
abbrev pub exchange : ℕ → ℕ → Content → World → World
exchange o g c w = record { clock = w.clock; asked = w.asked; first = w.first; last = w.last; answer = w.answer; read = w.read; found = w.found; exch = put w.exch o w.clock; target = put w.target o g; raised = w.raised; window = w.window; used = w.used; op = w.op; point = w.point; mine = w.mine; count = w.count; cur = w.cur; flag = w.flag; size = w.size; ann = w.ann; closed = w.closed; fixed = w.fixed; cell = w.cell; seen = w.seen; held = w.held; content = put w.content (key w o) c }

abbrev pub empty : ℕ → World → World
empty k w = record { clock = w.clock; asked = w.asked; first = w.first; last = w.last; answer = w.answer; read = w.read; found = w.found; exch = w.exch; target = w.target; raised = w.raised; window = w.window; used = w.used; op = w.op; point = w.point; mine = w.mine; count = w.count; cur = w.cur; flag = w.flag; size = w.size; ann = w.ann; closed = w.closed; fixed = w.fixed; cell = w.cell; seen = w.seen; held = w.held; content = put w.content k Empty }

-- the update u brought its counter q to g
abbrev pub raise : ℕ → ℕ → ℕ → World → World
raise u q g w = record { clock = w.clock; asked = w.asked; first = w.first; last = w.last; answer = w.answer; read = w.read; found = w.found; exch = w.exch; target = w.target; raised = put w.raised u w.clock; window = put w.window u (cond (eqb (w.closed w.cur) 0) w.cur 0); used = w.used; op = w.op; point = w.point; mine = w.mine; count = put w.count q g; cur = w.cur; flag = w.flag; size = w.size; ann = w.ann; closed = w.closed; fixed = w.fixed; cell = w.cell; seen = w.seen; held = w.held; content = w.content }

abbrev pub write : ℕ → ℕ → ℕ → World → World
write n q v w = record { clock = w.clock; asked = w.asked; first = w.first; last = w.last; answer = w.answer; read = w.read; found = w.found; exch = w.exch; target = w.target; raised = w.raised; window = w.window; used = w.used; op = w.op; point = w.point; mine = w.mine; count = w.count; cur = w.cur; flag = w.flag; size = w.size; ann = w.ann; closed = w.closed; fixed = w.fixed; cell = put w.cell n (put (w.cell n) q v); seen = w.seen; held = w.held; content = w.content }

abbrev pub announce : World → World
announce w = record { clock = w.clock; asked = w.asked; first = w.first; last = w.last; answer = w.answer; read = w.read; found = w.found; exch = w.exch; target = w.target; raised = w.raised; window = w.window; used = w.used; op = w.op; point = w.point; mine = w.mine; count = w.count; cur = suc w.cur; flag = put w.flag (suc w.cur) true; size = put w.size (suc w.cur) invalid; ann = put w.ann (suc w.cur) w.clock; closed = put w.closed (suc w.cur) 0; fixed = put w.fixed (suc w.cur) 0; cell = put w.cell (suc w.cur) (λ q. fresh q); seen = put w.seen (suc w.cur) (λ q. 0); held = w.held; content = w.content }

abbrev pub lower : ℕ → ℕ → World → World
lower n t w = record { clock = w.clock; asked = w.asked; first = w.first; last = w.last; answer = w.answer; read = w.read; found = w.found; exch = w.exch; target = w.target; raised = w.raised; window = w.window; used = w.used; op = w.op; point = w.point; mine = put w.mine t (λ q. 0); count = w.count; cur = w.cur; flag = put w.flag n false; size = w.size; ann = w.ann; closed = put w.closed n (cond (w.flag n) w.clock (w.closed n)); fixed = w.fixed; cell = w.cell; seen = w.seen; held = put w.held n (cond (w.flag n) (w.cell n) (w.held n)); content = w.content }

abbrev pub keep : ℕ → ℕ → ℕ → World → World
keep t q v w = record { clock = w.clock; asked = w.asked; first = w.first; last = w.last; answer = w.answer; read = w.read; found = w.found; exch = w.exch; target = w.target; raised = w.raised; window = w.window; used = w.used; op = w.op; point = w.point; mine = put w.mine t (put (w.mine t) q v); count = w.count; cur = w.cur; flag = w.flag; size = w.size; ann = w.ann; closed = w.closed; fixed = w.fixed; cell = w.cell; seen = w.seen; held = w.held; content = w.content }

abbrev pub fix : ℕ → ℕ → ℕ → ℕ → World → World
fix n v t o w = record { clock = w.clock; asked = w.asked; first = w.first; last = w.last; answer = w.answer; read = w.read; found = w.found; exch = w.exch; target = w.target; raised = w.raised; window = w.window; used = put w.used o n; op = w.op; point = w.point; mine = w.mine; count = w.count; cur = w.cur; flag = w.flag; size = put w.size n v; ann = w.ann; closed = w.closed; fixed = put w.fixed n w.clock; cell = w.cell; seen = put w.seen n (w.mine t); held = w.held; content = w.content }

abbrev pub share : ℕ → ℕ → World → World
share n o w = record { clock = w.clock; asked = w.asked; first = w.first; last = w.last; answer = w.answer; read = w.read; found = w.found; exch = w.exch; target = w.target; raised = w.raised; window = w.window; used = put w.used o n; op = w.op; point = w.point; mine = w.mine; count = w.count; cur = w.cur; flag = w.flag; size = w.size; ann = w.ann; closed = w.closed; fixed = w.fixed; cell = w.cell; seen = w.seen; held = w.held; content = w.content }

abbrev pub stand : ℕ → Point → World → World
stand t p w = record { clock = w.clock; asked = w.asked; first = w.first; last = w.last; answer = w.answer; read = w.read; found = w.found; exch = w.exch; target = w.target; raised = w.raised; window = w.window; used = w.used; op = w.op; point = put w.point t p; mine = w.mine; count = w.count; cur = w.cur; flag = w.flag; size = w.size; ann = w.ann; closed = w.closed; fixed = w.fixed; cell = w.cell; seen = w.seen; held = w.held; content = w.content }

abbrev pub return : ℕ → ℕ → ℕ → World → World
return t o a w = record { clock = w.clock; asked = w.asked; first = w.first; last = put w.last o w.clock; answer = put w.answer o a; read = w.read; found = w.found; exch = w.exch; target = w.target; raised = w.raised; window = w.window; used = w.used; op = put w.op t (suc o); point = put w.point t Idle; mine = w.mine; count = w.count; cur = w.cur; flag = w.flag; size = w.size; ann = w.ann; closed = w.closed; fixed = w.fixed; cell = w.cell; seen = w.seen; held = w.held; content = w.content }

-- ---- A step.

abbrev pub update : UpdateDeed → Update → World → World
update Reads u w = w
update Raises u w = raise (update_op u) (update_cell u) (update_target u) w
update (Forwards n) u w = write n.0 (update_cell u) (update_target u) w

abbrev pub compute : SizeDeed → ℕ → ℕ → World → World
compute Looks t o w = w
compute Announces t o w = announce w
compute (Collects n j v) t o w = write n.0 (no_of j) v w
compute (Lowers n) t o w = lower n.0 t w
compute (Keeps j v) t o w = keep t (no_of j) v w
compute (Fixes n v) t o w = fix n.0 v t o w
compute (Shares n) t o w = share n.0 o w

abbrev pub act : Deed → ℕ → ℕ → World → World
act Rests t o w = w
act (Finds c) t o w = find o c w
act (Links n) t o w = exchange o n.note.1.0 (Live n) w
act (Marks n d) t o w = exchange o d.note.1.0 (Marked n d) w
act Unlinks t o w = empty (key w o) w
act (Updates d u) t o w = update d u w
act (Sizes d) t o w = compute d t o w

abbrev pub onward : Next → ℕ → ℕ → World → World
onward (To p) t o w = stand t p w
onward (Returns a) t o w = return t o a w
