-- Before a size stand exactly the updates that the values read for its snapshot's sum count, so its answer fits them.
use Prim.Native.Nat.{ℕ, ◌≤◌, ◌<◌}
use mathlib.Core.Path.{◌≡◌, refl, sym, ap, ◌∙◌}
use mathlib.Core.Logic.{◌≢◌}
use mathlib.Core.Bool.{Bool, true}
use mathlib.Core.List.{List}
use native.Mathlib.Omega.{arith}
use native.Mathlib.Decide.{ℕ_discrete, dec_lt}
use borrow.Author.Tests.{ltb-true, lt-ltb}
use Rattle.history.specs.PlainSet.{Ask}
use Rattle.history.proofs.Split.{iff}
use Rattle.history.proofs.Tally.{tally_same, tally_all}
use Rattle.history.proofs.Places.{At, by_step, by_rank}
use Rattle.history.proofs.Facts.{any_insert, any_delete, earlier, before, earlier_true, earlier_is, Account, sizes}
use Rattle.figures.specs.declared.Kind.{Kind}
use Rattle.figures.specs.declared.Kind.TheVariants.{Insertion, Deletion}
use Rattle.figures.specs.declared.Call.{Call}
use Rattle.figures.specs.declared.Call.TheVariants.{Insert, Delete, Contains, Size}
use Rattle.figures.specs.declared.Machine.{Machine}
use Rattle.figures.specs.Limits.{invalid}
use Rattle.figures.specs.Places.{ask_of, course_of, order_of}
use Rattle.figures.proofs.Laws.{and_true, and_both}
use Rattle.figures.proofs.World.{World, thr, key, call, cell_op}
use Rattle.figures.proofs.Inv.{Known, Fair, Fixed, Sized, is_kind, sum_by}
use Rattle.figures.proofs.Mirror.{world_of}
use Rattle.figures.proofs.PlaceUpdates.{Ended, Missed, standing, standing_case, cell_small, raised_standing}
use Rattle.figures.proofs.PlaceStands.{update_at_lem}
use Rattle.figures.proofs.Sums.{Gathered, InSum, in_sum?, is_in_sum, in_sum_is, of_kind?, count_cells, ordered}

-- inserts, or deletes, of any key
abbrev any_of : Kind → Ask → Bool
any_of Insertion = any_insert
any_of Deletion = any_delete

any_test : (k : Kind) (c : Call) (j : ℕ) → any_of k (ask_of c j) ≡ is_kind k c
any_test Insertion Insert j = refl
any_test Insertion Delete j = refl
any_test Insertion Contains j = refl
any_test Insertion Size j = refl
any_test Deletion Insert j = refl
any_test Deletion Delete j = refl
any_test Deletion Contains j = refl
any_test Deletion Size j = refl

module _ {T n : ℕ} {m : Machine} {g : ℕ → ℕ → ℕ} {counts : List ℕ} (i : Ended T n m g counts) where
  abbrev w : World
  w = world_of m g

  -- ---- A fixed snapshot that is closed counts an update exactly when the update stands before the closing.

  module _ (s : ℕ) (known : Known w s) (fixed : w.size s ≢ invalid) where
    fix : Fixed T w s
    fix = i.core.snaps.fixed s known fixed

    module _ (u : ℕ) (r : 0 < w.raised u) where
      fair : Fair w s (cell_op w u) (w.seen s (cell_op w u))
      fair = (fix.reads (cell_op w u) (cell_small i u r)).fair

      counted_stands : w.target u ≤ w.seen s (cell_op w u) → standing m u < w.closed s
      counted_stands l = standing_case m g u (λ p. p < w.closed s) (λ h. go h (dec_lt (w.window u) s) (dec_lt s (w.window u))) (λ h. e)
        where
          e : w.raised u < w.closed s
          e = fair.early u r refl l fix.closed

          go : Missed w u → Dec (w.window u < s) → Dec (s < w.window u) → w.closed (w.window u) < w.closed s
          go h (yes a) b =
              let x = i.core.windows.told u r h.some in
              omega (arith, i.core.snaps.apart (w.window u) s x.known known a, (i.core.snaps.spans s known fix.closed).0)
          go h (no a) (yes b) =
              let x = i.core.windows.told u r h.some in
              absurd (omega (arith, i.core.snaps.apart s (w.window u) known x.known b, x.after, e))
          go h (no a) (no b) =
              let q : w.window u ≡ s = omega arith in
              let z : w.seen (w.window u) (cell_op w u) ≡ w.seen s (cell_op w u) = ap (λ j. w.seen j (cell_op w u)) q in
              absurd (omega (arith, h.low))

      stands_counted : standing m u < w.closed s → w.target u ≤ w.seen s (cell_op w u)
      stands_counted l = go (dec_lt (w.seen s (cell_op w u)) (w.target u)) (dec_lt (w.raised u) (w.ann s))
        where
          inside : w.ann s ≤ w.raised u → w.window u ≡ s
          inside a = i.core.windows.only u s r (record { known = known; after = a; before = λ c. omega (arith, raised_standing i u r, l) })

          missed : w.window u ≡ s → w.seen s (cell_op w u) < w.target u → Missed w u
          missed q a =
              record {
                some = omega (arith, known.some);
                fixed = rw q (omega (arith, fix.after));
                low = rw q a;
              }

          go : Dec (w.seen s (cell_op w u) < w.target u) → Dec (w.raised u < w.ann s) → w.target u ≤ w.seen s (cell_op w u)
          go (no a) b = omega arith
          go (yes a) (yes b) = fair.reach u r refl b
          go (yes a) (no b) =
              let q = inside (omega arith) in
              let z : w.closed (w.window u) ≡ w.closed s = ap w.closed q in
              absurd (standing_case m g u (λ p. p < w.closed s → ⊥) (λ h c. omega arith) (λ h c. h (missed q a)) l)

    gathered : Gathered T w s (w.seen s)
    gathered = record { known = known; closed = fix.closed; reads = fix.reads; rest = fix.rest }

    -- ---- A size that stands at the closing.

    module _ (o t : ℕ) (a : At (course_of m o) (w.closed s) 0 t 0) where
      before_size : (u : ℕ) → 0 < w.raised u → w.target u ≤ w.seen s (cell_op w u) → order_of m u < order_of m o
      before_size u r l = by_step (update_at_lem i u r) a (counted_stands u r l)

      size_before : (u : ℕ) → 0 < w.raised u → order_of m u < order_of m o → w.target u ≤ w.seen s (cell_op w u)
      size_before u r l = stands_counted u r (go (dec_lt (w.closed s) (standing m u)) (ℕ_discrete (w.closed s) (standing m u)))
        where
          go : Dec (w.closed s < standing m u) → Dec (w.closed s ≡ standing m u) → standing m u < w.closed s
          go (yes h) d = absurd (omega (arith, by_step a (update_at_lem i u r) h))
          go (no h) (yes d) = absurd (omega (arith, by_rank a (update_at_lem i u r) d (omega arith)))
          go (no h) (no d) = omega arith

      -- what stands before it is what is counted
      of_size : (k : Kind) (u : ℕ) → earlier n (course_of m) (any_of k) (order_of m o) u ≡ of_kind? w (w.seen s) k u
      of_size k u = iff _ _ to from
        where
          to : earlier n (course_of m) (any_of k) (order_of m o) u ≡ true → of_kind? w (w.seen s) k u ≡ true
          to e =
              let t = earlier_true n (course_of m) (any_of k) (order_of m o) u e in
              let r = ltb-true 0 (w.raised u) t.0 in
              let c : InSum w (w.seen s) u = record { raised = r; upto = size_before u r t.2 } in
              and_both (is_in_sum w (w.seen s) c) (sym (any_test k (call w u) (key w u)) ∙ t.1)

          from : of_kind? w (w.seen s) k u ≡ true → earlier n (course_of m) (any_of k) (order_of m o) u ≡ true
          from e =
              let x = and_true (in_sum? w (w.seen s) u) (is_kind k (call w u)) e in
              let c = in_sum_is w (w.seen s) u x.0 in
              earlier_is n (course_of m) (any_of k) (order_of m o) u (before_size u c.raised c.upto)
              ∙ and_both (any_test k (call w u) (key w u) ∙ x.1) (lt-ltb 0 (w.raised u) c.raised)

      stand_sum : (k : Kind) → before n (course_of m) (any_of k) (order_of m o) ≡ sum_by k (w.seen s) 8
      stand_sum k = tally_same _ _ n (λ u h. of_size k u) ∙ count_cells i.core i.threads s (w.seen s) gathered k

  pub account_size : (o : ℕ) → call w o ≡ Size → 0 < w.last o → Sized w o → At (course_of m o) (w.closed (w.used o)) 0 (thr w o) 0
      → Account n (course_of m) o
  account_size o e l z a =
      let s = w.used o in
      let c = stand_sum s z.known z.fixed o (thr w o) a in
      let ins = c Insertion in
      let del = c Deletion in
      let f = (fix s z.known z.fixed).sum in
      let most = tally_all (earlier n (course_of m) any_insert (order_of m o)) n in
      let less = ordered i.core i.threads s (w.seen s) (gathered s z.known z.fixed) in
      sizes (ap (λ c. ask_of c (key w o)) e) (lt-ltb 0 (w.last o) l) (omega (arith, z.answered, i.operations))
