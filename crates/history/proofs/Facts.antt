-- What a machine owes of its operations' courses to meet the demand: places of their own, within their spans, and for each the counts of
-- the updates that stand before it.
use mathlib.Core.Path.{◌≡◌}
use mathlib.Core.Bool.{Bool, true, false, ◌&&◌}
use Prim.Native.Nat.{ℕ, suc, ◌+◌, ◌≤◌, ◌<◌}
use lib.Dec.{eqb, ltb}
use borrow.Author.Tests.{lt-ltb, le-ltb, ltb-true}
use Rattle.history.specs.PlainSet.{Ask, insert, delete, contains, size}
use Rattle.history.specs.Tally.{tally}
use Rattle.history.specs.Courses.{Course, returned, listed, order_of}
use Rattle.history.specs.Demand.{is_update, InSpan}
use Rattle.history.proofs.Split.{split, and_true, and_no, and_yes, and_swap, or_second, iff}
use Rattle.history.proofs.Order.{Placed}

abbrev pub insert_of : ℕ → Ask → Bool
insert_of k (insert j) = eqb k j
insert_of k (delete j) = false
insert_of k (contains j) = false
insert_of k size = false

abbrev pub delete_of : ℕ → Ask → Bool
delete_of k (insert j) = false
delete_of k (delete j) = eqb k j
delete_of k (contains j) = false
delete_of k size = false

abbrev pub any_insert : Ask → Bool
any_insert (insert j) = true
any_insert (delete j) = false
any_insert (contains j) = false
any_insert size = false

abbrev pub any_delete : Ask → Bool
any_delete (insert j) = false
any_delete (delete j) = true
any_delete (contains j) = false
any_delete size = false

module _ (n : ℕ) (course : ℕ → Course) where
  -- o is a change of the kind asked and stands before place p; how many do
  unfoldable pub earlier : (Ask → Bool) → ℕ → ℕ → Bool
  earlier kind p o = (course o).changed && kind (course o).ask && ltb (order_of (course o)) p

  abbrev pub before : (Ask → Bool) → ℕ → ℕ
  before kind p = tally (earlier kind p) n

  -- key k is not in, or in, the set before place p
  abbrev pub Absent : ℕ → ℕ → Type 0
  Absent k p = before (insert_of k) p ≡ before (delete_of k) p

  abbrev pub Present : ℕ → ℕ → Type 0
  Present k p = before (insert_of k) p ≡ suc (before (delete_of k) p)

  -- what is owed of the listed operation o, by what it asked and how it went
  pub data Account (o : ℕ) : Type 0 where
    inserts : {k : ℕ} → (course o).ask ≡ insert k → (course o).changed ≡ true → (returned (course o) ≡ true → (course o).answer ≡ 1)
        → Absent k (order_of (course o)) → Account o
    deletes : {k : ℕ} → (course o).ask ≡ delete k → (course o).changed ≡ true → (returned (course o) ≡ true → (course o).answer ≡ 1)
        → Present k (order_of (course o)) → Account o
    insert_fails : {k : ℕ} → (course o).ask ≡ insert k → (course o).changed ≡ false → returned (course o) ≡ true → (course o).answer ≡ 0
        → Present k (order_of (course o)) → Account o
    delete_fails : {k : ℕ} → (course o).ask ≡ delete k → (course o).changed ≡ false → returned (course o) ≡ true → (course o).answer ≡ 0
        → Absent k (order_of (course o)) → Account o
    finds : {k : ℕ} → (course o).ask ≡ contains k → returned (course o) ≡ true → (course o).answer ≡ 1
        → Present k (order_of (course o)) → Account o
    misses : {k : ℕ} → (course o).ask ≡ contains k → returned (course o) ≡ true → (course o).answer ≡ 0
        → Absent k (order_of (course o)) → Account o
    sizes : (course o).ask ≡ size → returned (course o) ≡ true
        → (course o).answer + before any_delete (order_of (course o)) ≡ before any_insert (order_of (course o)) → Account o

  pub record Facts : Type 0 where
    pub changes : (o : ℕ) → o < n → (course o).changed ≡ true → is_update (course o).ask ≡ true
    pub placed : Placed n (λ o. listed (course o)) (λ o. order_of (course o))
    pub ranked : (o : ℕ) → o < n → listed (course o) ≡ true → (course o).place.rank ≤ 1
    pub spans : (o : ℕ) → o < n → listed (course o) ≡ true → InSpan (course o)
    pub account : (o : ℕ) → o < n → listed (course o) ≡ true → Account o

  -- laws of `earlier`: what it says, where it is equal, false, and what it comes to
  pub earlier_true : (kind : Ask → Bool) (x o : ℕ) → earlier kind x o ≡ true
      → ((course o).changed ≡ true) × (kind (course o).ask ≡ true) × (order_of (course o) < x)
  unfolding earlier
  earlier_true kind x o e =
      let a = and_true ((course o).changed && kind (course o).ask) _ e in
      let b = and_true (course o).changed _ a.0 in
      (b.0, b.1, ltb-true (order_of (course o)) x a.1)

  pub earlier_same : (kind : Ask → Bool) (x y q : ℕ) → (listed (course q) ≡ true → order_of (course q) < x → order_of (course q) < y)
      → (listed (course q) ≡ true → order_of (course q) < y → order_of (course q) < x) → earlier kind x q ≡ earlier kind y q
  unfolding earlier
  earlier_same kind x y q f g =
      split (course q).changed
      (λ t. let i = or_second (returned (course q)) t in
      rw (iff (ltb (order_of (course q)) x) (ltb (order_of (course q)) y)
      (λ b. lt-ltb (order_of (course q)) y (f i (ltb-true (order_of (course q)) x b)))
      (λ b. lt-ltb (order_of (course q)) x (g i (ltb-true (order_of (course q)) y b)))))
      (λ t. rw t)

  pub earlier_not : (kind : Ask → Bool) (x q : ℕ) → x ≤ order_of (course q) → earlier kind x q ≡ false
  unfolding earlier
  earlier_not kind x q h = rw (le-ltb (order_of (course q)) x h) (and_no ((course q).changed && kind (course q).ask))

  pub earlier_is : (kind : Ask → Bool) (x q : ℕ) → order_of (course q) < x → earlier kind x q ≡ (kind (course q).ask && (course q).changed)
  unfolding earlier
  earlier_is kind x q h =
      rw (
        lt-ltb (order_of (course q)) x h,
        and_yes ((course q).changed && kind (course q).ask),
        and_swap (course q).changed (kind (course q).ask),
      )
