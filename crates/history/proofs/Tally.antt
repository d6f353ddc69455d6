-- Laws of counting.
use mathlib.Core.Path.{◌≡◌, refl, sym, ap, ◌∙◌}
use mathlib.Core.Logic.{◌≢◌}
use mathlib.Core.Bool.{Bool, true, false, cond, not, ◌&&◌}
use Prim.Native.Nat.{ℕ, zero, suc, pred, ◌+◌, ◌≤◌, ◌<◌}
use native.Mathlib.Omega.{arith}
use lib.Dec.{eqb, leb}
use borrow.Author.Tests.{eqb-true, eqb-false, not-true, eq-eqb, ne_eqb, leb-true, le-leb}
use Rattle.history.specs.Tally.{tally, sum_to}
use Rattle.history.proofs.Split.{clash, split, choose, same?, both, and_true, and_no, and_yes}

-- tests that agree below n
pub tally_same : (p q : ℕ → Bool) (n : ℕ) → ((o : ℕ) → o < n → p o ≡ q o) → tally p n ≡ tally q n
unfolding tally
tally_same p q zero f = refl
tally_same p q (suc n) f = rw (f n (omega arith), tally_same p q n (λ o h. f o (omega arith)))

-- q is passed by just one more, i
pub tally_one : (p q : ℕ → Bool) (n i : ℕ) → i < n → p i ≡ false → q i ≡ true → ((o : ℕ) → o < n → o ≢ i → p o ≡ q o) → tally q n ≡ suc (tally p n)
unfolding tally
tally_one p q zero i h a b f = absurd (omega arith)
tally_one p q (suc n) i h a b f =
    same? i n
    (λ e. let a' : p n ≡ false = cc in let b' : q n ≡ true = cc in rw (a', b', tally_same p q n (λ o x. f o (omega arith) (omega arith))) (omega arith))
    (λ e. rw (f n (omega arith) (omega arith)) (omega (arith, tally_one p q n i (omega arith) a b (λ o x. f o (omega arith)))))

-- nobody passes
pub tally_none : (p : ℕ → Bool) (n : ℕ) → ((o : ℕ) → o < n → p o ≡ false) → tally p n ≡ 0
unfolding tally
tally_none p zero f = refl
tally_none p (suc n) f = rw (f n (omega arith)) (omega (arith, tally_none p n (λ o h. f o (omega arith))))

-- who passes p passes q
pub tally_le : (p q : ℕ → Bool) (n : ℕ) → ((o : ℕ) → o < n → p o ≡ true → q o ≡ true) → tally p n ≤ tally q n
unfolding tally
tally_le p q zero f = omega arith
tally_le p q (suc n) f =
    let r = tally_le p q n (λ o h. f o (omega arith)) in
    choose (λ x. x + tally p n ≤ cond (q n) 1 0 + tally q n) (p n) 1 0
    (λ e. rw (f n (omega arith) e) (omega arith)) (λ e. omega arith)

pub tally_all : (p : ℕ → Bool) (n : ℕ) → tally p n ≤ n
unfolding tally
tally_all p zero = omega arith
tally_all p (suc n) = let r = tally_all p n in choose (λ x. x + tally p n ≤ suc n) (p n) 1 0 (λ e. omega arith) (λ e. omega arith)

pub tally_whole : (n : ℕ) → tally (λ o. true) n ≡ n
unfolding tally
tally_whole zero = refl
tally_whole (suc n) = omega (arith, tally_whole n)

-- somebody passes, or nobody
pub tally_some : (p : ℕ → Bool) (n : ℕ) → 0 < tally p n → (o : ℕ) × (o < n) × (p o ≡ true)
unfolding tally
tally_some p zero h = absurd (omega arith)
tally_some p (suc n) h =
    split (p n) (λ e. (n, omega arith, e))
    (λ e. let r = tally_some p n (omega (arith, rw e at h)) in (r.0, omega (arith, r.1), r.2))

pub tally_pos : (p : ℕ → Bool) (n o : ℕ) → o < n → p o ≡ true → 0 < tally p n
unfolding tally
tally_pos p zero o h e = absurd (omega arith)
tally_pos p (suc n) o h e =
    same? o n
    (λ i. let f : p n ≡ true = cc in rw f (omega arith)) (λ i. omega (arith, tally_pos p n o (omega arith) e))

pub tally_zero : (p : ℕ → Bool) (n : ℕ) → tally p n ≡ 0 → (o : ℕ) → o < n → p o ≡ false
tally_zero p n z o h = split (p o) (λ e. absurd (omega (arith, tally_pos p n o h e))) (λ e. e)

-- at most one passes
pub tally_single : (p : ℕ → Bool) (n : ℕ) → ((o i : ℕ) → o < n → i < n → p o ≡ true → p i ≡ true → o ≡ i) → tally p n ≤ 1
unfolding tally
tally_single p zero f = omega arith
tally_single p (suc n) f =
    choose (λ x. x + tally p n ≤ 1) (p n) 1 0
    (λ e. omega (arith, tally_none p n (λ o h. split (p o) (λ d. absurd (omega (arith, f o n (omega arith) (omega arith) d e))) (λ d. d))))
    (λ e. omega (arith, tally_single p n (λ o i h k. f o i (omega arith) (omega arith))))

-- those who pass p, parted by q
pub tally_split : (p q : ℕ → Bool) (n : ℕ) → tally p n ≡ tally (λ o. p o && q o) n + tally (λ o. p o && not (q o)) n
unfolding tally
tally_split p q zero = refl
tally_split p q (suc n) = go (p n) (q n) _ _ _ (tally_split p q n)
  where
    go : (a b : Bool) (x y z : ℕ) → x ≡ y + z → cond a 1 0 + x ≡ (cond (a && b) 1 0 + y) + (cond (a && not b) 1 0 + z)
    go true true x y z e = omega arith
    go true false x y z e = omega arith
    go false b x y z e = omega arith

pub sum_same : (n : ℕ) (f g : ℕ → ℕ) → ((j : ℕ) → j < n → f j ≡ g j) → sum_to n f ≡ sum_to n g
unfolding sum_to
sum_same zero f g h = refl
sum_same (suc n) f g h = omega (arith, h n (omega arith), sum_same n f g (λ j l. h j (omega arith)))

pub sum_add : (n : ℕ) (f g : ℕ → ℕ) → sum_to n (λ j. f j + g j) ≡ sum_to n f + sum_to n g
unfolding sum_to
sum_add zero f g = refl
sum_add (suc n) f g = omega (arith, sum_add n f g)

pub sum_bits : (p : ℕ → Bool) (n : ℕ) → sum_to n (λ j. cond (p j) 1 0) ≡ tally p n
unfolding sum_to tally
sum_bits p zero = refl
sum_bits p (suc n) = omega (arith, sum_bits p n)

-- those who pass p, parted by their class
pub tally_classes : (p : ℕ → Bool) (f : ℕ → ℕ) (m n : ℕ) → ((o : ℕ) → o < n → p o ≡ true → f o < m) → tally p n ≡ sum_to m (λ j. tally (λ o. p o && eqb (f o) j) n)
unfolding sum_to
tally_classes p f zero n h = tally_none p n (λ o l. split (p o) (λ e. absurd (omega (arith, h o l e))) (λ e. e))
tally_classes p f (suc m) n h =
    let r = tally_classes (λ o. p o && not (eqb (f o) m)) f m n rest in
    let e = sum_same m (λ j. tally (λ o. (p o && not (eqb (f o) m)) && eqb (f o) j) n) (λ j. tally (λ o. p o && eqb (f o) j) n) (λ j l. tally_same _ _ n (λ o k. narrow o j l)) in
    omega (arith, tally_split p (λ o. eqb (f o) m) n)
  where
    rest : (o : ℕ) → o < n → (p o && not (eqb (f o) m)) ≡ true → f o < m
    rest o l e =
        let t = and_true (p o) (not (eqb (f o) m)) e in
        let x = h o l t.0 in
        let y = eqb-false (f o) m (not-true (eqb (f o) m) t.1) in
        omega arith

    narrow : (o j : ℕ) → j < m → ((p o && not (eqb (f o) m)) && eqb (f o) j) ≡ (p o && eqb (f o) j)
    narrow o j l =
        same? (f o) m (λ e. rw (eq-eqb (f o) m e, ne_eqb (f o) j (λ d. omega arith)) (rw (and_no (p o))))
        (λ e. rw (ne_eqb (f o) m e, and_yes (p o)))

-- Each of the numbers below m that pass q belongs, by f, to one of those below n that pass p.
pub record Matched (p q : ℕ → Bool) (f : ℕ → ℕ) (n m : ℕ) : Type 0 where
  pub into : (o : ℕ) → o < n → p o ≡ true → (f o < m) × (q (f o) ≡ true)
  pub apart : (o i : ℕ) → o < n → i < n → p o ≡ true → p i ≡ true → f o ≡ f i → o ≡ i
  pub onto : (j : ℕ) → j < m → q j ≡ true → (o : ℕ) × (o < n) × (p o ≡ true) × (f o ≡ j)

pub tally_match : (p q : ℕ → Bool) (f : ℕ → ℕ) (n m : ℕ) → Matched p q f n m → tally p n ≡ tally q m
tally_match p q f n m all =
    tally_classes p f m n (λ o h e. (all.into o h e).0)
    ∙ sum_same m (λ j. tally (λ o. p o && eqb (f o) j) n) (λ j. cond (q j) 1 0) (λ j h. choose (λ x. tally (λ o. p o && eqb (f o) j) n ≡ x) (q j) 1 0 (one j h) (none j))
    ∙ sum_bits q m
  where
    one : (j : ℕ) → j < m → q j ≡ true → tally (λ o. p o && eqb (f o) j) n ≡ 1
    one j h e =
        let i = all.onto j h e in
        omega (
          arith,
          tally_pos (λ o. p o && eqb (f o) j) n i.0 i.1 (both (p i.0) _ i.2 (eq-eqb (f i.0) j i.3)),
          tally_single (λ o. p o && eqb (f o) j) n
              (λ a b k l x y. let u = and_true (p a) (eqb (f a) j) x in let v = and_true (p b) (eqb (f b) j) y in all.apart a b k l u.0 v.0 (eqb-true (f a) j u.1 ∙ sym (eqb-true (f b) j v.1))),
        )

    none : (j : ℕ) → q j ≡ false → tally (λ o. p o && eqb (f o) j) n ≡ 0
    none j e =
        tally_none _ n
        (λ o h. split (p o && eqb (f o) j) (λ x. let u = and_true (p o) (eqb (f o) j) x in clash (q j) (ap q (sym (eqb-true (f o) j u.1)) ∙ (all.into o h u.0).1) e) (λ x. x))

-- the same, but for one i that belongs to nobody
pub tally_match_but : (p q : ℕ → Bool) (f : ℕ → ℕ) (n m i : ℕ) → i < m → q i ≡ true → Matched p (λ j. q j && not (eqb j i)) f n m → tally q m ≡ suc (tally p n)
tally_match_but p q f n m i h e all =
    tally_one (λ j. q j && not (eqb j i)) q m i h (rw (eq-eqb i i refl) (and_no (q i))) e (λ o l d. rw (ne_eqb o i d, and_yes (q o))) ∙ ap suc (sym (tally_match p _ f n m all))

-- Those who pass p have the numbers 1 to c, each one of them.
pub record Numbered (p : ℕ → Bool) (number : ℕ → ℕ) (n c : ℕ) : Type 0 where
  pub low : (o : ℕ) → o < n → p o ≡ true → 1 ≤ number o
  pub high : (o : ℕ) → o < n → p o ≡ true → number o ≤ c
  pub apart : (o i : ℕ) → o < n → i < n → p o ≡ true → p i ≡ true → number o ≡ number i → o ≡ i
  pub hit : (v : ℕ) → 1 ≤ v → v ≤ c → (o : ℕ) × (o < n) × (p o ≡ true) × (number o ≡ v)

module _ (p : ℕ → Bool) (number : ℕ → ℕ) (n c : ℕ) (all : Numbered p number n c) where
  -- as many have a number up to v as there are such numbers
  pub numbered_upto : (v : ℕ) → v ≤ c → tally (λ o. p o && leb (number o) v) n ≡ v
  numbered_upto v h =
      tally_match (λ o. p o && leb (number o) v) (λ j. true) (λ o. pred (number o)) n v (record {
        into = λ o l e. let t = and_true (p o) (leb (number o) v) e in (omega (arith, all.low o l t.0, leb-true (number o) v t.1), refl);
        apart = λ o i l k x y e. let t = and_true (p o) _ x in let u = and_true (p i) _ y in all.apart o i l k t.0 u.0 (omega (arith, all.low o l t.0, all.low i k u.0));
        onto = λ j l e. let i = all.hit (suc j) (omega arith) (omega arith) in (i.0, i.1, both (p i.0) _ i.2 (le-leb (number i.0) v (omega (arith, i.3))), omega (arith, i.3));
      })
      ∙ tally_whole v

  pub numbered_all : tally p n ≡ c
  numbered_all =
      tally_same p (λ o. p o && leb (number o) c) n (λ o l. split (p o) (λ e. rw (e, le-leb (number o) c (all.high o l e))) (λ e. rw e)) ∙ numbered_upto c (omega arith)
