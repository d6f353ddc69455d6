-- What a deed changes of the operations' records, the threads' operations, the counters and the closings: nothing, or one thing.
use Prim.Native.Nat.{ℕ, suc, ◌<◌}
use mathlib.Core.Path.{◌≡◌, refl, sym, ap, ◌∙◌, subst}
use mathlib.Core.Bool.{Bool, true, false}
use native.Mathlib.Omega.{arith}
use native.Mathlib.Decide.{dec_lt}
use Rattle.figures.specs.declared.Kind.{Kind}
use Rattle.figures.specs.declared.Kind.TheVariants.{Insertion, Deletion}
use Rattle.figures.specs.declared.Content.{Content}
use Rattle.figures.specs.declared.Call.{Call}
use Rattle.figures.specs.declared.Node.{Node}
use Rattle.figures.specs.declared.Update.{Update}
use Rattle.figures.specs.declared.UpdateDeed.{UpdateDeed}
use Rattle.figures.specs.declared.UpdateDeed.TheVariants.{Reads, Raises, Forwards}
use Rattle.figures.specs.declared.SizeDeed.{SizeDeed}
use Rattle.figures.specs.declared.SizeDeed.TheVariants.{Looks, Announces, Collects, Lowers, Keeps, Fixes, Shares}
use Rattle.figures.specs.declared.Deed.{Deed}
use Rattle.figures.specs.declared.Deed.TheVariants.{Rests, Finds, Links, Marks, Unlinks, Updates, Sizes}
use Rattle.figures.specs.declared.Asked.{Asked}
use Rattle.figures.proofs.World.{World, put, put_other, put_field, thr, call, cell_op, cell_no, call_for, kind_of, update_cell, update_target, update_op, act, find, exchange, raise, lower, update, compute, kind_call}
use Rattle.figures.proofs.Inv.{Core}
use Rattle.figures.specs.declared.Next.{Next}
use Rattle.figures.specs.declared.Next.TheVariants.{To, Returns}
use Rattle.figures.proofs.Guar.{Acting, Guar, GuarUpdate, GuarSize, New, RaisesNow, ReturnsNow}

-- ---- The call that makes an update tells its kind, and so its cell.

-- the cell of an operation that makes updates of kind k
pub cell_does : (w : World) (o : ℕ) (k : Kind) → call w o ≡ call_for k → cell_op w o ≡ cell_no (thr w o) k
cell_does w o k e = ap (λ (c : Call). cell_no (thr w o) (kind_of c)) e ∙ ap (cell_no (thr w o)) (kind_call k)

-- ---- What is written down, but for the snapshots.

pub record Log : Type 0 where
  pub clock : ℕ
  pub asked : ℕ → Asked
  pub first : ℕ → ℕ
  pub last : ℕ → ℕ
  pub read : ℕ → ℕ
  pub exch : ℕ → ℕ
  pub target : ℕ → ℕ
  pub raised : ℕ → ℕ
  pub op : ℕ → ℕ
  pub count : ℕ → ℕ

abbrev pub log : World → Log
log w = record { clock = w.clock; asked = w.asked; first = w.first; last = w.last; read = w.read; exch = w.exch; target = w.target; raised = w.raised; op = w.op; count = w.count }

-- the state with this written down instead
abbrev pub logged : Log → World → World
logged l w = record { clock = l.clock; asked = l.asked; first = l.first; last = l.last; answer = w.answer; read = l.read; found = w.found; exch = l.exch; target = l.target; raised = l.raised; window = w.window; used = w.used; op = l.op; point = w.point; mine = w.mine; count = l.count; cur = w.cur; flag = w.flag; size = w.size; ann = w.ann; closed = w.closed; fixed = w.fixed; cell = w.cell; seen = w.seen; held = w.held; content = w.content }

-- what reads nothing else of the state holds wherever the same is written down
pub log_holds : (P : World → Type 0) (w w' : World) → log w' ≡ log w → P (logged (log w) w') → P w'
log_holds P w w' e p = subst (λ (l : Log). P (logged l w')) (sym e) p

-- o, which has not been exchanged, is exchanged with its counter's next target
pub record ExchangesOp (w : World) (o g : ℕ) : Type 0 where
  pub fresh : w.exch o ≡ 0
  pub does : call w o ≡ call_for (kind_of (call w o))
  pub aims : g ≡ suc (w.count (cell_op w o))

-- a, which is exchanged and not raised, its thread's current operation, is raised
pub record RaisesOp (w : World) (a q g : ℕ) : Type 0 where
  pub exchanged : 0 < w.exch a
  pub unraised : w.raised a ≡ 0
  pub current : w.op (thr w a) ≡ a
  pub cell : cell_op w a ≡ q
  pub aims : w.target a ≡ g
  pub below : g ≡ suc (w.count q)

pub data Touch (w : World) (o : ℕ) : World → Type 0 where
  quietly : {w' : World} → log w' ≡ log w → ((s : ℕ) → w'.closed s ≡ w.closed s) → Touch w o w'
  closing : {w' : World} (s : ℕ) → log w' ≡ log w → ((s' : ℕ) → w'.closed s' ≡ put w.closed s w.clock s') → Touch w o w'
  finding : (c : Content) → Touch w o (find o c w)
  exchanging : (g : ℕ) (c : Content) → ExchangesOp w o g → Touch w o (exchange o g c w)
  raising : (a q g : ℕ) → RaisesOp w a q g → Touch w o (raise a q g w)

module _ (T n x : ℕ) (w : World) (c : Core T n x w) where
  pub unraised : (o : ℕ) → w.exch o ≡ 0 → w.raised o ≡ 0
  unraised o e = go (dec_lt 0 (w.raised o))
    where
      go : Dec (0 < w.raised o) → w.raised o ≡ 0
      go (yes h) = let r = c.records.raises o h in absurd (omega arith)
      go (no h) = omega arith

  -- an exchange leaves the target of what is raised
  pub target_kept : (o g u : ℕ) → w.exch o ≡ 0 → 0 < w.raised u → put w.target o g u ≡ w.target u
  target_kept o g u f h = put_other w.target o g u (λ e. let z : w.raised u ≡ w.raised o = rw e in omega (arith, unraised o f))

  -- the counter's next target is of the one update that is not raised
  raises_op_lem : (u : Update) → RaisesNow w u → RaisesOp w (update_op u) (update_cell u) (update_target u)
  raises_op_lem u g = go (dec_lt 0 (w.raised (update_op u)))
    where
      e : cell_op w (update_op u) ≡ update_cell u
      e = cell_does w (update_op u) u.kind g.noted.does ∙ ap (λ (t : ℕ). cell_no t u.kind) g.noted.by_thread

      go : Dec (0 < w.raised (update_op u)) → RaisesOp w (update_op u) (update_cell u) (update_target u)
      go (yes h) =
          let d = rw e at (c.counters.done (update_op u) h) in
          let a = g.noted.aims in
          let b = g.below in
          absurd (omega arith)
      go (no h) =
          let z : w.raised (update_op u) ≡ 0 = omega arith in
          record {
            exchanged = g.noted.exchanged;
            unraised = z;
            current = (c.counters.due (update_op u) g.noted.exchanged z).0;
            cell = e;
            aims = g.noted.aims;
            below = sym g.below;
          }

  module _ (t o : ℕ) (by : Acting T n x w t o) where
    exchanges_op : (k : Kind) (d : Node) → w.exch o ≡ 0 → call w o ≡ call_for k → New w t o (cell_no t k) d → ExchangesOp w o d.note.1.0
    exchanges_op k d f e new =
        let q : cell_op w o ≡ cell_no t k = cell_does w o k e ∙ ap (λ (i : ℕ). cell_no i k) by.thread in
        record { fresh = f; does = e ∙ ap call_for (sym (kind_call k) ∙ ap kind_of (sym e)); aims = new.aims ∙ ap (λ (i : ℕ). suc (w.count i)) (sym q) }

    touch_update : (d : UpdateDeed) (u : Update) → GuarUpdate w d u → Touch w o (update d u w)
    touch_update Reads u g = quietly refl (λ s. refl)
    touch_update Raises u g = raising (update_op u) (update_cell u) (update_target u) (raises_op_lem u g)
    touch_update (Forwards s) u g = quietly refl (λ s. refl)

    -- a snapshot is closed where its flag is lowered first
    touch_lower : (s : ℕ) (b : Bool) → w.flag s ≡ b → Touch w o (lower s t w)
    touch_lower s true e = closing {w' = lower s t w} s refl (λ s'. rw e)
    touch_lower s false e = quietly {w' = lower s t w} refl (λ s'. rw e (put_field (λ y. y) w.closed s (w.closed s) s' refl))

    touch_size : (d : SizeDeed) → GuarSize T w t o d → Touch w o (compute d t o w)
    touch_size Looks g = quietly refl (λ s. refl)
    touch_size Announces g = quietly refl (λ s. put_field (λ y. y) w.closed (suc w.cur) 0 s (sym (c.snaps.future (suc w.cur) (omega arith))))
    touch_size (Collects s j v) g = quietly refl (λ s. refl)
    touch_size (Lowers s) g = touch_lower s.0 (w.flag s.0) refl
    touch_size (Keeps j v) g = quietly refl (λ s. refl)
    touch_size (Fixes s v) g = quietly refl (λ s. refl)
    touch_size (Shares s) g = quietly refl (λ s. refl)

    pub touch : (d : Deed) → Guar T x w t o d → Touch w o (act d t o w)
    touch Rests g = quietly refl (λ s. refl)
    touch (Finds k) g = finding k
    touch (Links d) g = exchanging _ _ (exchanges_op Insertion d g.fresh g.does g.node)
    touch (Marks b d) g = exchanging _ _ (exchanges_op Deletion d g.fresh g.does g.node)
    touch Unlinks g = quietly refl (λ s. refl)
    touch (Updates d u) g = touch_update d u g
    touch (Sizes d) g = touch_size d g

-- ---- What going on needs: of a return, that o is what thread t has begun, and that nobody has exchanged what it does next.

pub record Returning (x : ℕ) (w : World) (t o a : ℕ) : Type 0 where
  pub current : w.op t ≡ o
  pub began : 0 < w.first o
  pub now' : ReturnsNow x w o a
  pub next : thr w (suc o) ≡ t → w.exch (suc o) ≡ 0

abbrev pub Going : ℕ → World → ℕ → ℕ → Next → Type 0
Going x w t o (To p) = Unit {0}
Going x w t o (Returns a) = Returning x w t o a
