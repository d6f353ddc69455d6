-- A step over a lent table: it changes the same record in the same way, and all else of the machine is the same.
use Prim.Native.Nat.{ℕ, suc, ◌≤◌, ◌<◌}
use mathlib.Core.Path.{◌≡◌, refl, sym, ap, subst}
use mathlib.Core.Bool.{Bool, true, false, cond}
use mathlib.Core.List.{List}
use lib.ListN.{get_or, set}
use lib.Dec.{ltb}
use borrow.Author.Tests.{ltb-true}
use Rattle.terms.specs.declared.ThreadId.{ThreadId}
use Rattle.terms.specs.declared.OpId.{OpId}
use Rattle.figures.specs.declared.Snapshot.{Snapshot}
use Rattle.figures.specs.declared.UpdateDeed.{UpdateDeed}
use Rattle.figures.specs.declared.UpdateDeed.TheVariants.{Reads, Raises, Forwards}
use Rattle.figures.specs.declared.SizeDeed.{SizeDeed}
use Rattle.figures.specs.declared.SizeDeed.TheVariants.{Looks, Announces, Collects, Lowers, Keeps, Fixes, Shares}
use Rattle.figures.specs.declared.Call.{Call}
use Rattle.figures.specs.declared.Update.{Update}
use Rattle.figures.specs.declared.Deed.{Deed}
use Rattle.figures.specs.declared.Deed.TheVariants.{Rests, Finds, Links, Marks, Unlinks, Updates, Sizes}
use Rattle.figures.specs.declared.Next.{Next}
use Rattle.figures.specs.declared.Next.TheVariants.{To, Returns}
use Rattle.figures.specs.declared.Move.{Move}
use Rattle.figures.specs.declared.Machine.{Machine}
use Rattle.figures.specs.Figure4.{no_snapshot, fresh_snapshot, new_id, snapshot_at}
use Rattle.figures.specs.Figure3.{looks_at_snapshot}
use Rattle.figures.specs.Step.{local_at, record_at, stands_at, move_of, updates, sizes, does, goes_on, ticked, accessed, idled, step_of}
use Rattle.figures.proofs.Laws.{test_case}
use Rattle.lent.specs.Table.{with_table}
use Rattle.lent.proofs.Deeds.{DeedFits}

-- what a step does to two tables, the one that it has and the one that is lent: nothing, or it stores the same record in both, at an
-- announced place or at the next one
pub data Change (current current' : ℕ) (own lent own' lent' : List Snapshot) : Type 0 where
  kept : current' ≡ current → own' ≡ own → lent' ≡ lent → Change current current' own lent own' lent'
  stored : (n : ℕ) (a : Snapshot) → n ≤ current → current' ≡ current → own' ≡ set own n a → lent' ≡ set lent n a → Change current current' own lent own' lent'
  announced : (a : Snapshot) → current' ≡ suc current → own' ≡ set own current' a → lent' ≡ set lent current' a → Change current current' own lent own' lent'

-- the machine m and the same with a lent table, after a step: x and y
pub record Along (m : Machine) (lent : List Snapshot) (x y : Machine) : Type 0 where
  pub table : List Snapshot
  pub same : y ≡ with_table table x
  pub change : Change m.calculator.current.0 x.calculator.current.0 m.calculator.snapshots lent x.calculator.snapshots table

-- where both tables have the announced records alike
module _ (m : Machine) (lent : List Snapshot)
    (agree : (n : ℕ) → n ≤ m.calculator.current.0 → get_or lent n no_snapshot ≡ get_or m.calculator.snapshots n no_snapshot)
    (next : (new_id m.calculator.current).0 ≡ suc m.calculator.current.0) (t : ThreadId) (o : OpId) where
  abbrev x : Machine
  x = ticked o m

  abbrev y : Machine
  y = ticked o (with_table lent m)

  abbrev current : ℕ
  current = m.calculator.current.0

  along_updates : (d : UpdateDeed) (u : Update) (k : Call) (own : ℕ) → DeedFits current k own (Updates d u) → Along m lent (updates d u t x) (updates d u t y)
  along_updates Reads u k own h = record { table = lent; same = refl; change = kept refl refl refl }
  along_updates Raises u k own h = record { table = lent; same = refl; change = kept refl refl refl }
  along_updates (Forwards n) u k own h =
      record { table = _; same = refl; change = stored n.0 _ h refl refl (rw (agree n.0 h)) }

  along_sizes : (d : SizeDeed) (k : Call) (own : ℕ) → DeedFits current k own (Sizes d) → Along m lent (sizes d t o x) (sizes d t o y)
  along_sizes Looks k own h = record { table = lent; same = refl; change = kept refl refl refl }
  along_sizes Announces k own h = record { table = _; same = refl; change = announced (fresh_snapshot true) next refl refl }
  along_sizes (Collects n j v) k own h = record { table = _; same = refl; change = stored n.0 _ h refl refl (rw (agree n.0 h)) }
  along_sizes (Lowers n) k own h =
      let s = snapshot_at m.calculator n in
      let a : Snapshot = record { cells = s.cells; collecting = false; size = s.size } in
      record { table = set lent n.0 a; same = rw (agree n.0 h); change = stored n.0 a h refl refl refl }
  along_sizes (Keeps j v) k own h = record { table = lent; same = refl; change = kept refl refl refl }
  along_sizes (Fixes n v) k own h = record { table = _; same = refl; change = stored n.0 _ h refl refl (rw (agree n.0 h)) }
  along_sizes (Shares n) k own h = record { table = lent; same = refl; change = kept refl refl refl }

  along_does : (d : Deed) (k : Call) (own : ℕ) → DeedFits current k own d → Along m lent (does d t o x) (does d t o y)
  along_does Rests k own h = record { table = lent; same = refl; change = kept refl refl refl }
  along_does (Finds c) k own h = record { table = lent; same = refl; change = kept refl refl refl }
  along_does (Links n) k own h = record { table = lent; same = refl; change = kept refl refl refl }
  along_does (Marks n d) k own h = record { table = lent; same = refl; change = kept refl refl refl }
  along_does Unlinks k own h = record { table = lent; same = refl; change = kept refl refl refl }
  along_does (Updates d u) k own h = along_updates d u k own h
  along_does (Sizes d) k own h = along_sizes d k own h

  along_goes : (v : Next) (a b : Machine) → Along m lent a b → Along m lent (goes_on v t o a) (goes_on v t o b)
  along_goes (To p) a b h = record { table = h.table; same = ap (goes_on (To p) t o) h.same; change = h.change }
  along_goes (Returns v) a b h = record { table = h.table; same = ap (goes_on (Returns v) t o) h.same; change = h.change }

module _ (m : Machine) (lent : List Snapshot)
    (agree : (n : ℕ) → n ≤ m.calculator.current.0 → get_or lent n no_snapshot ≡ get_or m.calculator.snapshots n no_snapshot)
    (next : (new_id m.calculator.current).0 ≡ suc m.calculator.current.0) (t : ThreadId)
    (looks : (looks_at_snapshot (stands_at (local_at m t).point (record_at m (local_at m t).op).asked.call)).0 ≤ m.calculator.current.0) where
  same_move : move_of (with_table lent m) t ≡ move_of m t
  unfolding move_of
  same_move = rw (agree (looks_at_snapshot (stands_at (local_at m t).point (record_at m (local_at m t).op).asked.call)).0 looks)

  along_access : (k : Call) (own : ℕ) → DeedFits m.calculator.current.0 k own (move_of m t).deed → Along m lent (accessed m t) (accessed (with_table lent m) t)
  unfolding accessed
  along_access k own h =
      let o = (local_at m t).op in
      let v = move_of m t in
      subst (λ (z : Move). Along m lent (goes_on v.next t o (does v.deed t o (ticked o m))) (goes_on z.next t o (does z.deed t o (ticked o (with_table lent m)))))
      (sym same_move)
      (along_goes m lent agree next t o v.next _ _ (along_does m lent agree next t o v.deed k own h))

  pub along_step : (k : Call) (own : ℕ) → ((local_at m t).op.0 < (local_at m t).end.0 → DeedFits m.calculator.current.0 k own (move_of m t).deed)
      → Along m lent (step_of m t) (step_of (with_table lent m) t)
  unfolding step_of
  along_step k own h =
      test_case (λ (b : Bool). Along m lent (cond b (accessed m t) (idled m)) (cond b (accessed (with_table lent m) t) (idled (with_table lent m))))
      (ltb (local_at m t).op.0 (local_at m t).end.0)
      (λ e. along_access k own (h (ltb-true (local_at m t).op.0 (local_at m t).end.0 e)))
      (λ e. record { table = lent; same = refl; change = kept refl refl refl })
