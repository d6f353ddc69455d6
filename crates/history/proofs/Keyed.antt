-- The accounts of inserts, deletes and contains, from what a machine knows of the exchanges on a key. An update has a step at which its
-- exchange succeeded; a place in the log cuts the updates of a key at a step, so what is balanced up to that step is balanced before
-- the place.
use mathlib.Core.Path.{◌≡◌, refl, sym, ap, ◌∙◌}
use mathlib.Core.Logic.{◌≢◌}
use mathlib.Core.Bool.{Bool, true, false, ◌&&◌}
use Prim.Native.Nat.{ℕ, pred, ◌+◌, ◌≤◌, ◌<◌}
use native.Mathlib.Omega.{arith}
use lib.Dec.{ltb, leb}
use borrow.Author.Tests.{ltb-true, leb-true, eqb-true, lt-ltb, le-leb, lt-leb, eq-eqb}
use Rattle.history.specs.PlainSet.{Ask, insert, delete, contains, size, bit}
use Rattle.history.specs.Tally.{tally}
use Rattle.history.specs.Courses.{Course, returned, order_of}
use Rattle.history.specs.Demand.{is_update}
use Rattle.history.proofs.Split.{clash, split, same?, below?, both, and_true, iff}
use Rattle.history.proofs.Tally.{tally_same, tally_one}
use Rattle.history.proofs.Facts.{insert_of, delete_of, any_insert, earlier, before, earlier_true, earlier_is}
use Rattle.history.proofs.Facts.{Account, inserts, deletes, insert_fails, delete_fails, finds, misses}

-- the key that is asked for; a size asks for none
abbrev pub key_of : Ask → ℕ
key_of (insert k) = k
key_of (delete k) = k
key_of (contains k) = k
key_of size = 0

-- what is answered by one that finds its key there, or not, and changes nothing
abbrev pub Fits : Ask → Bool → ℕ → Type 0
Fits (insert k) there answer = (there ≡ true) × (answer ≡ 0)
Fits (delete k) there answer = (there ≡ false) × (answer ≡ 0)
Fits (contains k) there answer = answer ≡ bit there
Fits size there answer = ⊥

insert_on : (k : ℕ) (ask : Ask) → insert_of k ask ≡ true → key_of ask ≡ k
insert_on k (insert j) e = sym (eqb-true k j e)
insert_on k (delete j) e = clash false e refl
insert_on k (contains j) e = clash false e refl
insert_on k size e = clash false e refl

delete_on : (k : ℕ) (ask : Ask) → delete_of k ask ≡ true → key_of ask ≡ k
delete_on k (insert j) e = clash false e refl
delete_on k (delete j) e = sym (eqb-true k j e)
delete_on k (contains j) e = clash false e refl
delete_on k size e = clash false e refl

-- exch: the step of an update's exchange, 0 if it has none
module _ (n : ℕ) (course : ℕ → Course) (exch : ℕ → ℕ) where
  -- u is of the kind asked and was exchanged up to step y; how many were
  unfoldable pub exchanged_by : (Ask → Bool) → ℕ → ℕ → Bool
  exchanged_by kind y u = ltb 0 (exch u) && leb (exch u) y && kind (course u).ask

  abbrev pub count_by : (Ask → Bool) → ℕ → ℕ
  count_by kind y = tally (exchanged_by kind y) n

  -- key k is there after step y, or not
  abbrev pub After : ℕ → ℕ → Bool → Type 0
  After k y there = count_by (insert_of k) y ≡ bit there + count_by (delete_of k) y

  pub record Keyed : Type 0 where
    -- a change is an exchanged update, and answers 1; no two are exchanged at one step
    pub changes : (u : ℕ) → (course u).changed ≡ true → is_update (course u).ask ≡ true
    pub exchanged : (u : ℕ) → (course u).changed ≡ true → 0 < exch u
    pub answered : (u : ℕ) → (course u).changed ≡ true → returned (course u) ≡ true → (course u).answer ≡ 1
    pub apart : (u v : ℕ) → 0 < exch u → exch u ≡ exch v → u ≡ v
    -- what is exchanged before a change of its key is a change too, and stands before it
    pub pairs : (u v : ℕ) → 0 < exch u → (course v).changed ≡ true → key_of (course u).ask ≡ key_of (course v).ask → exch u < exch v
        → ((course u).changed ≡ true) × (order_of (course u) < order_of (course v))
    -- after an insert its key is there, and after a delete it is not
    pub balanced : (v : ℕ) → (course v).changed ≡ true → After (key_of (course v).ask) (exch v) (any_insert (course v).ask)

  -- o returned and changed nothing: it read its key's slot at step r, and found the key there or not. What was exchanged before is a
  -- change and stands before o, and a change exchanged after stands after o
  pub record Finds (o r : ℕ) (there : Bool) : Type 0 where
    pub returns : returned (course o) ≡ true
    pub unchanged : (course o).changed ≡ false
    pub fits : Fits (course o).ask there (course o).answer
    pub apart : (u : ℕ) → 0 < exch u → exch u ≢ r
    pub past : (u : ℕ) → 0 < exch u → key_of (course u).ask ≡ key_of (course o).ask → exch u < r
        → ((course u).changed ≡ true) × (order_of (course u) < order_of (course o))
    pub later : (u : ℕ) → (course u).changed ≡ true → key_of (course u).ask ≡ key_of (course o).ask → r < exch u
        → order_of (course o) < order_of (course u)
    pub balanced : After (key_of (course o).ask) r there

  -- place p cuts the updates of key k at step y
  record Cut (k p y : ℕ) : Type 0 where
    into : (u : ℕ) → 0 < exch u → key_of (course u).ask ≡ k → exch u ≤ y → ((course u).changed ≡ true) × (order_of (course u) < p)
    back : (u : ℕ) → (course u).changed ≡ true → key_of (course u).ask ≡ k → order_of (course u) < p → exch u ≤ y

  module _ (keyed : Keyed) where
    -- ---- As many stand before the place as were exchanged up to the step.

    module _ {k p y : ℕ} (cut : Cut k p y) where
      cut_count : (kind : Ask → Bool) → ((ask : Ask) → kind ask ≡ true → key_of ask ≡ k) → before n course kind p ≡ count_by kind y
      unfolding exchanged_by
      cut_count kind on = tally_same _ _ n (λ u h. iff _ _ (to u) (from u))
        where
          to : (u : ℕ) → earlier n course kind p u ≡ true → exchanged_by kind y u ≡ true
          to u e =
              let t = earlier_true n course kind p u e in
              let l = cut.back u t.0 (on _ t.1) t.2 in
              both _ _ (both _ _ (lt-ltb 0 (exch u) (keyed.exchanged u t.0)) (le-leb (exch u) y l)) t.1

          from : (u : ℕ) → exchanged_by kind y u ≡ true → earlier n course kind p u ≡ true
          from u e =
              let b = and_true (ltb 0 (exch u) && leb (exch u) y) (kind (course u).ask) e in
              let a = and_true (ltb 0 (exch u)) (leb (exch u) y) b.0 in
              let z = cut.into u (ltb-true 0 (exch u) a.0) (on _ b.1) (leb-true (exch u) y a.1) in
              earlier_is n course kind p u z.1 ∙ both _ _ b.1 z.0

      cut_inserts : before n course (insert_of k) p ≡ count_by (insert_of k) y
      cut_inserts = cut_count (insert_of k) (insert_on k)

      cut_deletes : before n course (delete_of k) p ≡ count_by (delete_of k) y
      cut_deletes = cut_count (delete_of k) (delete_on k)

    -- ---- The cut at a change, and at one that found its key.

    cut_change : (v : ℕ) → (course v).changed ≡ true → Cut (key_of (course v).ask) (order_of (course v)) (pred (exch v))
    cut_change v c =
        let x = keyed.exchanged v c in
        record {
          into = λ u h e l. keyed.pairs u v h c e (omega (arith, x));
          back = λ u d e l.
              same? (exch u) (exch v)
              (λ q.
              let z : order_of (course u) ≡ order_of (course v) = ap (λ j. order_of (course j)) (keyed.apart u v (keyed.exchanged u d) q) in
              absurd (omega arith))
              (λ q. below? (exch v) (exch u) (λ a. absurd (omega (arith, (keyed.pairs v u x d (sym e) a).1))) (λ a. omega arith));
        }

    cut_finds : {o r : ℕ} {there : Bool} → Finds o r there → Cut (key_of (course o).ask) (order_of (course o)) r
    cut_finds {o} {r} f =
        record {
          into = λ u h e l. f.past u h e (omega (arith, f.apart u h));
          back = λ u c e l. below? r (exch u) (λ a. absurd (omega (arith, f.later u c e a))) (λ a. a);
        }

    -- ---- An update itself adds one.

    module _ (kind : Ask → Bool) (v : ℕ) (h : 0 < exch v) where
      not_yet : exchanged_by kind (pred (exch v)) v ≡ false
      unfolding exchanged_by
      not_yet = rw (lt-ltb 0 (exch v) h, lt-leb (exch v) (pred (exch v)) (omega arith))

      by_now : exchanged_by kind (exch v) v ≡ kind (course v).ask
      unfolding exchanged_by
      by_now = rw (lt-ltb 0 (exch v) h, le-leb (exch v) (exch v) (omega arith))

      others : (u : ℕ) → u ≢ v → exchanged_by kind (pred (exch v)) u ≡ exchanged_by kind (exch v) u
      unfolding exchanged_by
      others u d =
          let x : exch u ≢ exch v = λ q. d (keyed.apart u v (omega arith) q) in
          rw (iff (leb (exch u) (pred (exch v))) (leb (exch u) (exch v))
          (λ e. le-leb (exch u) (exch v) (omega (arith, leb-true (exch u) (pred (exch v)) e)))
          (λ e. le-leb (exch u) (pred (exch v)) (omega (arith, leb-true (exch u) (exch v) e, x))))

      count_now : v < n → count_by kind (exch v) ≡ bit (kind (course v).ask) + count_by kind (pred (exch v))
      count_now l =
          split (kind (course v).ask)
          (λ t. rw t
          (tally_one (exchanged_by kind (pred (exch v))) (exchanged_by kind (exch v)) n v l not_yet (by_now ∙ t) (λ u k d. others u d) ∙ omega arith))
          (λ t. rw t (tally_same _ _ n (λ u k. same? u v (λ e. rw e (by_now ∙ t ∙ sym not_yet)) (λ d. sym (others u d))) ∙ omega arith))

    -- ---- The accounts.

    pub account_change : (o : ℕ) → o < n → (course o).changed ≡ true → Account n course o
    account_change o h c =
        let x = keyed.exchanged o c in
        let k = key_of (course o).ask in
        go (course o).ask refl (keyed.changes o c) (cut_change o c)
        (count_now (insert_of k) o x h) (count_now (delete_of k) o x h) (keyed.balanced o c)
      where
        go : (a : Ask) → (course o).ask ≡ a → is_update a ≡ true → Cut (key_of a) (order_of (course o)) (pred (exch o))
            → count_by (insert_of (key_of a)) (exch o) ≡ bit (insert_of (key_of a) a) + count_by (insert_of (key_of a)) (pred (exch o))
            → count_by (delete_of (key_of a)) (exch o) ≡ bit (delete_of (key_of a) a) + count_by (delete_of (key_of a)) (pred (exch o))
            → After (key_of a) (exch o) (any_insert a) → Account n course o
        go (insert k) e u cut i d b =
            let i' = rw (eq-eqb k k refl) at i in
            inserts e c (keyed.answered o c) (omega (arith, cut_inserts cut, cut_deletes cut))
        go (delete k) e u cut i d b =
            let d' = rw (eq-eqb k k refl) at d in
            deletes e c (keyed.answered o c) (omega (arith, cut_inserts cut, cut_deletes cut))
        go (contains k) e u cut i d b = clash false u refl
        go size e u cut i d b = clash false u refl

    pub account_finds : {o r : ℕ} {there : Bool} → Finds o r there → Account n course o
    account_finds {o} {r} {there} f = go (course o).ask there refl f.fits (cut_finds f) f.balanced
      where
        go : (a : Ask) (t : Bool) → (course o).ask ≡ a → Fits a t (course o).answer → Cut (key_of a) (order_of (course o)) r
            → After (key_of a) r t → Account n course o
        go (insert k) true e z cut b = insert_fails e f.unchanged f.returns z.1 (omega (arith, cut_inserts cut, cut_deletes cut))
        go (insert k) false e z cut b = clash false z.0 refl
        go (delete k) true e z cut b = clash true refl z.0
        go (delete k) false e z cut b = delete_fails e f.unchanged f.returns z.1 (omega (arith, cut_inserts cut, cut_deletes cut))
        go (contains k) true e z cut b = finds e f.returns z (omega (arith, cut_inserts cut, cut_deletes cut))
        go (contains k) false e z cut b = misses e f.returns z (omega (arith, cut_inserts cut, cut_deletes cut))
        go size t e z cut b = absurd z
