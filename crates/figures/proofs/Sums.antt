-- The values that a thread has read for its sum, be it the winner or not: of each key they count as many insertions as deletions, or
-- one more. So the sum is not below zero, and at most the number of keys.
use Prim.Native.Nat.{ℕ, zero, suc, ◌+◌, ◌≤◌, ◌<◌}
use mathlib.Core.Path.{◌≡◌, refl, sym, ap, ◌∙◌}
use mathlib.Core.Bool.{Bool, true, false, ◌&&◌}
use native.Mathlib.Omega.{arith}
use native.Mathlib.Decide.{ℕ_discrete, dec_lt}
use lib.Dec.{eqb, ltb, leb}
use borrow.Author.Tests.{ltb-true, ltb-false, leb-true, eqb-true, lt-ltb, le-leb, eq-eqb}
use Rattle.history.specs.Tally.{tally, sum_to}
use Rattle.history.proofs.Split.{clash, split, same?, and_false, iff}
use Rattle.history.proofs.Tally.{tally_same, tally_none, tally_all, tally_classes, sum_same}
use Rattle.figures.specs.declared.Kind.{Kind}
use Rattle.figures.specs.declared.Kind.TheVariants.{Insertion, Deletion}
use Rattle.figures.specs.declared.Call.{Call}
use Rattle.figures.specs.declared.Call.TheVariants.{Insert, Delete, Contains, Size}
use Rattle.figures.proofs.Laws.{and_true, and_both}
use Rattle.figures.proofs.World.{World, thr, key, call, cell_op, cell_no, kind_of, call_for}
use Rattle.figures.proofs.Inv.{Core, Known, InWindow, ReadFor, Settled, Settles, alone, after, reached, caught, exchanges, is_kind, leaves, made, raised_to, sum_by}
use Rattle.figures.proofs.Stable.{cell_no_thread, cell_no_kind}
use Rattle.figures.proofs.Touch.{cell_does}

-- ---- Of those that pass a test, one of greatest f.

data Greatest (p : ℕ → Bool) (f : ℕ → ℕ) (n : ℕ) : Type 0 where
  none : ((o : ℕ) → o < n → p o ≡ false) → Greatest p f n
  some : (v : ℕ) → v < n → p v ≡ true → ((o : ℕ) → o < n → p o ≡ true → f o ≤ f v) → Greatest p f n

module _ (p : ℕ → Bool) (f : ℕ → ℕ) where
  greatest_next : (n : ℕ) → Greatest p f n → Greatest p f (suc n)
  greatest_next n (none a) =
      split (p n)
      (λ t. some n (omega arith) t (λ o h e. same? o n (λ j. rw j (omega arith)) (λ j. clash (p o) e (a o (omega arith)))))
      (λ t. none (λ o h. same? o n (λ j. rw j t) (λ j. a o (omega arith))))
  greatest_next n (some v l e a) =
      split (p n && ltb (f v) (f n))
      (λ t. let x = and_true (p n) (ltb (f v) (f n)) t in
      some n (omega arith) x.0 (λ o h d. same? o n (λ j. rw j (omega arith))
      (λ j. omega (arith, a o (omega arith) d, ltb-true (f v) (f n) x.1))))
      (λ t. some v (omega arith) e (λ o h d. same? o n
      (λ j. let x : p n ≡ true = cc in
      let y : f o ≡ f n = ap f j in
      omega (arith, ltb-false (f v) (f n) (and_false (p n) (ltb (f v) (f n)) x t)))
      (λ j. a o (omega arith) d)))

  greatest : (n : ℕ) → Greatest p f n
  greatest zero = none (λ o h. absurd (omega arith))
  greatest (suc n) = greatest_next n (greatest n)

-- ---- Sums and kinds.

-- as many, or one more
abbrev Near : ℕ → ℕ → Type 0
Near a b = (a ≤ b) × (b ≤ suc a)

sum_near : (n : ℕ) (f g : ℕ → ℕ) → ((j : ℕ) → Near (f j) (g j)) → (sum_to n f ≤ sum_to n g) × (sum_to n g ≤ n + sum_to n f)
unfolding sum_to
sum_near zero f g h = (omega arith, omega arith)
sum_near (suc n) f g h = let r = sum_near n f g h in (omega (arith, (h n).0, r.0), omega (arith, (h n).1, r.1))

sum_holds : (n : ℕ) (f : ℕ → ℕ) (o : ℕ) → o < n → f o ≤ sum_to n f
unfolding sum_to
sum_holds zero f o h = absurd (omega arith)
sum_holds (suc n) f o h = same? o n (λ e. rw e (omega arith)) (λ e. omega (arith, sum_holds n f o (omega arith)))

sum_by_lem : (k : Kind) (f : ℕ → ℕ) (n : ℕ) → sum_to n (λ t. f (cell_no t k)) ≡ sum_by k f n
unfolding sum_to sum_by
sum_by_lem k f zero = refl
sum_by_lem k f (suc n) = omega (arith, sum_by_lem k f n)

kind_does : (k : Kind) (c : Call) → is_kind k c ≡ true → c ≡ call_for k
kind_does Insertion Insert e = refl
kind_does Insertion Delete e = let z : ◌≡◌ {A = ℕ} 0 1 = cc in absurd (omega arith)
kind_does Insertion Contains e = let z : ◌≡◌ {A = ℕ} 0 1 = cc in absurd (omega arith)
kind_does Insertion Size e = let z : ◌≡◌ {A = ℕ} 0 1 = cc in absurd (omega arith)
kind_does Deletion Insert e = let z : ◌≡◌ {A = ℕ} 0 1 = cc in absurd (omega arith)
kind_does Deletion Delete e = refl
kind_does Deletion Contains e = let z : ◌≡◌ {A = ℕ} 0 1 = cc in absurd (omega arith)
kind_does Deletion Size e = let z : ◌≡◌ {A = ℕ} 0 1 = cc in absurd (omega arith)

does_kind : (k : Kind) → is_kind k (call_for k) ≡ true
does_kind Insertion = refl
does_kind Deletion = refl

leaves_most : (k : Kind) → leaves k ≤ 1
leaves_most Insertion = omega arith
leaves_most Deletion = omega arith

-- ---- What was read for a sum of snapshot s.

-- the values v of the cells count the update u, of kind k
module _ (w : World) (v : ℕ → ℕ) where
  pub record InSum (u : ℕ) : Type 0 where
    pub raised : 0 < w.raised u
    pub upto : w.target u ≤ v (cell_op w u)

  abbrev pub in_sum? : ℕ → Bool
  in_sum? u = ltb 0 (w.raised u) && leb (w.target u) (v (cell_op w u))

  abbrev pub of_kind? : Kind → ℕ → Bool
  of_kind? k u = in_sum? u && is_kind k (call w u)

  pub is_in_sum : {u : ℕ} → InSum u → in_sum? u ≡ true
  is_in_sum {u} c = and_both (lt-ltb 0 (w.raised u) c.raised) (le-leb (w.target u) (v (cell_op w u)) c.upto)

  pub in_sum_is : (u : ℕ) → in_sum? u ≡ true → InSum u
  in_sum_is u e =
      let t = and_true (ltb 0 (w.raised u)) (leb (w.target u) (v (cell_op w u))) e in
      record { raised = ltb-true 0 (w.raised u) t.0; upto = leb-true (w.target u) (v (cell_op w u)) t.1 }

-- every cell of a thread was read, after the closing
pub record Gathered (T : ℕ) (w : World) (s : ℕ) (v : ℕ → ℕ) : Type 0 where
  pub known : Known w s
  pub closed : 0 < w.closed s
  pub reads : (q : ℕ) → q < T + T → ReadFor w s q (v q)
  pub rest : (q : ℕ) → T + T ≤ q → v q ≡ 0

module _ {T n x : ℕ} {w : World} (core : Core T n x w) (few : T ≤ 8) (s : ℕ) (v : ℕ → ℕ) (g : Gathered T w s v) where
  -- no value is above its counter
  pub read_low : (q : ℕ) → v q ≤ w.count q
  read_low q = go (dec_lt q (T + T))
    where
      go : Dec (q < T + T) → v q ≤ w.count q
      go (yes h) = (g.reads q h).fair.low
      go (no h) = omega (arith, g.rest q (omega arith))

  thread_small : (u : ℕ) → 0 < w.raised u → thr w u < T
  thread_small u r = (core.records.exchanges u (core.records.raises u r).exchanged).thread

  cell_small : (u : ℕ) → 0 < w.raised u → cell_op w u < T + T
  cell_small u r = go (kind_of (call w u)) (thread_small u r)
    where
      go : (k : Kind) → thr w u < T → cell_no (thr w u) k < T + T
      go Insertion h = omega arith
      go Deletion h = omega arith

  -- ---- By cells: of a kind, as many are counted as the values of that kind say.

  of_cell : (k : Kind) (j u : ℕ) → (of_kind? w v k u && eqb (thr w u) j) ≡ raised_to w (cell_no j k) (v (cell_no j k)) u
  unfolding raised_to
  of_cell k j u = iff _ _ to from
    where
      to : (of_kind? w v k u && eqb (thr w u) j) ≡ true → raised_to w (cell_no j k) (v (cell_no j k)) u ≡ true
      to e =
          let x = and_true (of_kind? w v k u) (eqb (thr w u) j) e in
          let y = and_true (in_sum? w v u) (is_kind k (call w u)) x.0 in
          let b = in_sum_is w v u y.0 in
          let c : cell_op w u ≡ cell_no j k =
          cell_does w u k (kind_does k (call w u) y.1) ∙ ap (λ t. cell_no t k) (eqb-true (thr w u) j x.1) in
          let z = b.upto in
          and_both (and_both (lt-ltb 0 (w.raised u) b.raised) (eq-eqb (cell_op w u) (cell_no j k) c))
          (le-leb (w.target u) (v (cell_no j k)) (rw c at z))

      from : raised_to w (cell_no j k) (v (cell_no j k)) u ≡ true → (of_kind? w v k u && eqb (thr w u) j) ≡ true
      from e =
          let x = and_true (ltb 0 (w.raised u) && eqb (cell_op w u) (cell_no j k)) (leb (w.target u) (v (cell_no j k))) e in
          let y = and_true (ltb 0 (w.raised u)) (eqb (cell_op w u) (cell_no j k)) x.0 in
          let r = ltb-true 0 (w.raised u) y.0 in
          let c = eqb-true (cell_op w u) (cell_no j k) y.1 in
          let d = cell_no_kind (thr w u) j (kind_of (call w u)) k c in
          let e = core.records.exchanges u (core.records.raises u r).exchanged in
          let f : is_kind k (call w u) ≡ true = rw (e.does, d) (does_kind k) in
          let z : w.target u ≤ v (cell_op w u) = rw c (leb-true (w.target u) (v (cell_no j k)) x.1) in
          and_both (and_both (is_in_sum w v (record { raised = r; upto = z })) f)
          (eq-eqb (thr w u) j (cell_no_thread (thr w u) j (kind_of (call w u)) k c))

  pub count_cells : (k : Kind) → tally (of_kind? w v k) n ≡ sum_by k v 8
  count_cells k =
      tally_classes (of_kind? w v k) (λ u. thr w u) 8 n
      (λ u h e. omega (arith, thread_small u (in_sum_is w v u (and_true (in_sum? w v u) (is_kind k (call w u)) e).0).raised, few))
      ∙ sum_same 8 (λ j. tally (λ u. of_kind? w v k u && eqb (thr w u) j) n) (λ j. v (cell_no j k))
      (λ j h. tally_same _ (raised_to w (cell_no j k) (v (cell_no j k))) n (λ u l. of_cell k j u)
      ∙ core.tallies (cell_no j k) (v (cell_no j k)) (read_low (cell_no j k)))
      ∙ sum_by_lem k v 8

  -- ---- By keys: with an update are counted all that were exchanged before it on its key.

  in_sum_earlier : (u u' : ℕ) → 0 < w.exch u → key w u ≡ key w u' → w.exch u < w.exch u' → InSum w v u' → InSum w v u
  in_sum_earlier u u' h e l c = record { raised = d.raised; upto = go (dec_lt (w.raised u) (w.ann s)) }
    where
      r' : 0 < w.exch u'
      r' = (core.records.raises u' c.raised).exchanged

      d : Settled w u (w.exch u')
      d = core.keys.pairs u u' h r' e l

      -- the later one was raised before the closing
      shut : w.raised u' < w.closed s
      shut = (g.reads (cell_op w u') (cell_small u' c.raised)).fair.early u' c.raised refl c.upto g.closed

      soon : w.exch u' < w.closed s
      soon = omega (arith, (core.records.raises u' c.raised).after, shut)

      within : w.window u ≡ s → Settles w u (w.exch u') → w.target u ≤ v (cell_op w u)
      within q (alone z) = absurd (omega (arith, g.known.some))
      within q (after a b) = let z : w.closed (w.window u) ≡ w.closed s = ap w.closed q in absurd (omega (arith, soon))
      within q (reached z a b) = let y : w.closed (w.window u) ≡ w.closed s = ap w.closed q in absurd (omega (arith, g.closed))
      within q (caught a b) =
          let y : w.held (w.window u) (cell_op w u) ≡ w.held s (cell_op w u) = ap (λ j. w.held j (cell_op w u)) q in
          omega (arith, (g.reads (cell_op w u) (cell_small u d.raised)).since)

      go : Dec (w.raised u < w.ann s) → w.target u ≤ v (cell_op w u)
      go (yes a) = (g.reads (cell_op w u) (cell_small u d.raised)).fair.reach u d.raised refl a
      go (no a) =
          let x : InWindow w u s = record { known = g.known; after = omega arith; before = λ z. omega (arith, d.before, soon) } in
          within (core.windows.only u s d.raised x) d.how

  module _ (on : ℕ) where
    abbrev on_key? : ℕ → Bool
    on_key? u = in_sum? w v u && eqb (key w u) on

    abbrev of_key? : Kind → ℕ → Bool
    of_key? k u = of_kind? w v k u && eqb (key w u) on

    -- those that are counted are those that were exchanged up to the last of them
    up_to : (z : ℕ) → on_key? z ≡ true → ((u : ℕ) → u < n → on_key? u ≡ true → w.exch u ≤ w.exch z)
        → (k : Kind) (u : ℕ) → u < n → of_key? k u ≡ made w k on (w.exch z) u
    unfolding made
    up_to z t a k u h = iff _ _ to from
      where
        z? : (in_sum? w v z ≡ true) × (eqb (key w z) on ≡ true)
        z? = and_true (in_sum? w v z) (eqb (key w z) on) t

        to : of_key? k u ≡ true → made w k on (w.exch z) u ≡ true
        to e =
            let x = and_true (of_kind? w v k u) (eqb (key w u) on) e in
            let y = and_true (in_sum? w v u) (is_kind k (call w u)) x.0 in
            let p = (core.records.raises u (in_sum_is w v u y.0).raised).exchanged in
            let l = le-leb (w.exch u) (w.exch z) (a u h (and_both y.0 x.1)) in
            and_both (and_both (and_both (lt-ltb 0 (w.exch u) p) l) y.1) x.1

        from : made w k on (w.exch z) u ≡ true → of_key? k u ≡ true
        from e =
            let d = and_true (ltb 0 (w.exch u) && leb (w.exch u) (w.exch z) && is_kind k (call w u)) (eqb (key w u) on) e in
            let b = and_true (ltb 0 (w.exch u) && leb (w.exch u) (w.exch z)) (is_kind k (call w u)) d.0 in
            let c = and_true (ltb 0 (w.exch u)) (leb (w.exch u) (w.exch z)) b.0 in
            let p = ltb-true 0 (w.exch u) c.0 in
            let l = leb-true (w.exch u) (w.exch z) c.1 in
            let q = eqb-true (key w u) on d.1 in
            and_both (and_both (is_in_sum w v (go p l q (ℕ_discrete (w.exch u) (w.exch z)))) b.1) d.1
          where
            go : 0 < w.exch u → w.exch u ≤ w.exch z → key w u ≡ on → Dec (w.exch u ≡ w.exch z) → InSum w v u
            go p l q (yes j) = let y = core.stamps (exchanges u) (exchanges z) p j in let i : u ≡ z = cc in rw i (in_sum_is w v z z?.0)
            go p l q (no j) = in_sum_earlier u z p (q ∙ sym (eqb-true (key w z) on z?.1)) (omega arith) (in_sum_is w v z z?.0)

    near_key : Near (tally (of_key? Deletion) n) (tally (of_key? Insertion) n)
    near_key = go (greatest on_key? w.exch n)
      where
        never : ((u : ℕ) → u < n → on_key? u ≡ false) → (k : Kind) → tally (of_key? k) n ≡ 0
        never a k =
            tally_none (of_key? k) n (λ u h. split (of_key? k u)
            (λ e. let x = and_true (of_kind? w v k u) (eqb (key w u) on) e in
            clash (on_key? u) (and_both (and_true (in_sum? w v u) (is_kind k (call w u)) x.0).0 x.1) (a u h))
            (λ e. e))

        go : Greatest on_key? w.exch n → Near (tally (of_key? Deletion) n) (tally (of_key? Insertion) n)
        go (none a) = let i = never a Insertion in let d = never a Deletion in (omega arith, omega arith)
        go (some z l t a) =
            let x = and_true (in_sum? w v z) (eqb (key w z) on) t in
            let i = tally_same (of_key? Insertion) (made w Insertion on (w.exch z)) n (up_to z t a Insertion) in
            let d = tally_same (of_key? Deletion) (made w Deletion on (w.exch z)) n (up_to z t a Deletion) in
            let b = core.balances.updates z (core.records.raises z (in_sum_is w v z x.0).raised).exchanged in
            let b' = rw (eqb-true (key w z) on x.1) at b in
            let m = leaves_most (kind_of (call w z)) in
            (omega arith, omega arith)

  -- the sum is not below zero, and at most the number of keys; and it is small
  pub record Sum (keys : ℕ) : Type 0 where
    pub order : sum_by Deletion v 8 ≤ sum_by Insertion v 8
    pub most : sum_by Insertion v 8 ≤ keys + sum_by Deletion v 8
    pub small : sum_by Insertion v 8 ≤ n

  pub summed : (keys : ℕ) → ((u : ℕ) → u < n → key w u < keys) → Sum keys
  summed keys f =
      let i = tally_classes (of_kind? w v Insertion) (λ u. key w u) keys n (λ u h e. f u h) in
      let d = tally_classes (of_kind? w v Deletion) (λ u. key w u) keys n (λ u h e. f u h) in
      let r = sum_near keys (λ j. tally (of_key? j Deletion) n) (λ j. tally (of_key? j Insertion) n) near_key in
      record {
        order = omega (arith, count_cells Insertion, count_cells Deletion, r.0);
        most = omega (arith, count_cells Insertion, count_cells Deletion, r.1);
        small = omega (arith, count_cells Insertion, tally_all (of_kind? w v Insertion) n);
      }

  -- whatever the keys are
  pub ordered : sum_by Deletion v 8 ≤ sum_by Insertion v 8
  ordered = (summed (suc (sum_to n (λ u. key w u))) (λ u h. omega (arith, sum_holds n (λ o. key w o) u h))).order
