-- What one turn of a loop does to the first bad one, to a sum and to a list of numbers, over whatever is tested, summed and listed.
use Prim.Native.Nat.{ℕ, zero, suc, ◌+◌, ◌-◌, ◌<◌, ◌≤◌}
use mathlib.Core.Path.{◌≡◌, refl, sym, ap, subst, ◌∙◌}
use mathlib.Core.Bool.{Bool, true, false, not, cond}
use mathlib.Core.List.{List, [], ◌∷◌, ◌++◌}
use native.Mathlib.Omega.{arith}
use native.Mathlib.Numerals.{add-one}
use native.Mathlib.Nat.{add-zero}
use native.Mathlib.Decide.{ℕ_discrete}
use lib.Dec.{T, ltb, eqb}
use borrow.Author.Tests.{ltb-false, eqb-true, not-false}
use lib.ListN.{length, get_or, set, drop, replicate, length-replicate}
use lib.Seq.{sets, sets-eq}
use Rattle.std.specs.List.{sum}
use Rattle.std.proofs.lemmas.List.Sums.{sum_by-cons}
use Rattle.runfile.specs.Layout.{count_of}
use Rattle.runfile.specs.Write.{disagree}
use Rattle.runfile.specs.Rows.{outside, first_bad, first_bad_in, sum_to, list_from}

pub true_false : true ≡ false → ⊥
true_false e = subst T e tt

pub down : {n i : ℕ} → i < n → n - i ≡ suc (n - (i + 1))
down h = omega arith

pub done : {n i : ℕ} → n ≤ i → n - i ≡ 0
done h = omega arith

pub sum_on : (f : ℕ → ℕ) (i : ℕ) → sum_to f (i + 1) ≡ sum_to f i + f i
unfolding sum_to
sum_on f i = rw add-one

pub sum_head : (f : ℕ → ℕ) (n : ℕ) → sum_to f (suc n) ≡ f 0 + sum_to (λ i. f (suc i)) n
unfolding sum_to
sum_head f zero = omega arith
sum_head f (suc n) = omega (arith, sum_head f n)

-- the sum of a list, by its entries
pub sum_all : (l : List ℕ) → sum l ≡ sum_to (count_of l) (length l)
unfolding sum_to
sum_all [] = refl
sum_all (x ∷ l) = sum_by-cons (λ (y : ℕ). y) x l ∙ ap (λ (n : ℕ). x + n) (sum_all l) ∙ sym (sum_head (count_of (x ∷ l)) (length l))

pub sum_grows : (f : ℕ → ℕ) (i n : ℕ) → i ≤ n → sum_to f i ≤ sum_to f n
unfolding sum_to
sum_grows f i zero h = let e : i ≡ 0 = omega arith in rw e (omega arith)
sum_grows f i (suc n) h =
    elim (ℕ_discrete i (suc n)) [ yes e ↦ rw e (omega arith) | no q ↦ omega (arith, sum_grows f i n (omega arith)) ]

pub list_on : (f : ℕ → ℕ) {n i : ℕ} → i < n → list_from f (n - i) i ≡ f i ∷ list_from f (n - (i + 1)) (i + 1)
unfolding list_from
list_on f h = simp (down h)

pub list_end : (f : ℕ → ℕ) {n i : ℕ} → n ≤ i → list_from f (n - i) i ≡ []
unfolding list_from
list_end f h = simp (done h)

pub length_list : (f : ℕ → ℕ) (n i : ℕ) → length (list_from f n i) ≡ n
unfolding list_from
length_list f zero i = refl
length_list f (suc n) i = ap suc (length_list f n (i + 1))

drop_replicate : (n m : ℕ) → drop n (replicate {A = ℕ} m 0) ≡ replicate {A = ℕ} (m - n) 0
drop_replicate zero m = let e : m - 0 ≡ m = omega arith in rw e
drop_replicate (suc n) zero = let e : 0 - suc n ≡ 0 = omega arith in rw e
drop_replicate (suc n) (suc m) = let e : suc m - suc n ≡ m - n = omega arith in rw e (drop_replicate n m)

-- one number stored, and the rest of them still to be
pub store_on : (f : ℕ → ℕ) (l : List ℕ) {n i v : ℕ} → i < n → v ≡ f i
    → sets (set l i v) (i + 1) (list_from f (n - (i + 1)) (i + 1)) ≡ sets l i (list_from f (n - i) i)
store_on f l h e = rw (list_on f h, e, add-one)

-- numbers stored into a list of zeros leave zeros behind them
pub padded : (vs : List ℕ) (m : ℕ) → length vs ≤ m → sets (replicate {A = ℕ} m 0) 0 vs ≡ vs ++ replicate {A = ℕ} (m - length vs) 0
padded vs m h =
    let e : 0 + length vs ≡ length vs = omega arith in
    sets-eq vs (replicate m 0) 0 (rw length-replicate (omega arith)) ∙ rw (e, drop_replicate (length vs) m)

-- a number that is not outside its limits is within them
pub inside : (x most : ℕ) → outside x most ≡ false → (1 ≤ x) × (x ≤ most)
inside x most = go (ltb x 1) refl
  where
    go : (b : Bool) → ltb x 1 ≡ b → cond b true (ltb most x) ≡ false → (1 ≤ x) × (x ≤ most)
    go true e h = absurd (true_false h)
    go false e h = (ltb-false x 1 e, ltb-false most x h)

-- counts that do not disagree are as many as the threads and sum to the operations
pub agreed : (threads : ℕ) (counts : List ℕ) (operations : ℕ) → disagree threads counts operations ≡ false
    → (length counts ≡ threads) × (sum_to (count_of counts) (length counts) ≡ operations)
agreed threads counts operations = go (eqb (length counts) threads) refl
  where
    go : (b : Bool) → eqb (length counts) threads ≡ b
        → cond b (not (eqb (sum_to (count_of counts) (length counts)) operations)) true ≡ false
        → (length counts ≡ threads) × (sum_to (count_of counts) (length counts) ≡ operations)
    go true e h = (eqb-true _ _ e, eqb-true _ _ (not-false _ h))
    go false e h = absurd (true_false h)

-- ---- the first bad one: it is in the range or at its end, the test holds before it, and fails at it unless it is the end

pub first_low : (ok : ℕ → Bool) (n p : ℕ) → p ≤ first_bad ok n p
unfolding first_bad
first_low ok zero p = omega arith
first_low ok (suc n) p = go (ok p) (first_low ok n (p + 1))
  where
    go : (b : Bool) → p + 1 ≤ first_bad ok n (p + 1) → p ≤ cond b (first_bad ok n (p + 1)) p
    go true h = omega arith
    go false h = omega arith

pub first_high : (ok : ℕ → Bool) (n p : ℕ) → first_bad ok n p ≤ p + n
unfolding first_bad
first_high ok zero p = omega arith
first_high ok (suc n) p = go (ok p) (first_high ok n (p + 1))
  where
    go : (b : Bool) → first_bad ok n (p + 1) ≤ p + 1 + n → cond b (first_bad ok n (p + 1)) p ≤ p + suc n
    go true h = omega arith
    go false h = omega arith

pub first_before : (ok : ℕ → Bool) (n p i : ℕ) → p ≤ i → i < first_bad ok n p → ok i ≡ true
unfolding first_bad
first_before ok zero p i low h = absurd (omega arith)
first_before ok (suc n) p i low h = go (ok p) refl h (first_before ok n (p + 1) i)
  where
    go : (b : Bool) → ok p ≡ b → i < cond b (first_bad ok n (p + 1)) p
        → (p + 1 ≤ i → i < first_bad ok n (p + 1) → ok i ≡ true) → ok i ≡ true
    go false e h rest = absurd (omega arith)
    go true e h rest = elim (ℕ_discrete i p) [ yes q ↦ rw q e | no q ↦ rest (omega arith) h ]

pub first_at : (ok : ℕ → Bool) (n p : ℕ) → first_bad ok n p < p + n → ok (first_bad ok n p) ≡ false
unfolding first_bad
first_at ok zero p h = absurd (omega arith)
first_at ok (suc n) p h = go (ok p) refl h (first_at ok n (p + 1))
  where
    go : (b : Bool) → ok p ≡ b → cond b (first_bad ok n (p + 1)) p < p + suc n
        → (first_bad ok n (p + 1) < p + 1 + n → ok (first_bad ok n (p + 1)) ≡ false)
        → ok (cond b (first_bad ok n (p + 1)) p) ≡ false
    go false e h rest = e
    go true e h rest = rest (omega arith)

-- the test holds all the way: the range's end
pub first_none : (ok : ℕ → Bool) {from to : ℕ} → from ≤ to → ((i : ℕ) → from ≤ i → i < to → ok i ≡ true) → first_bad_in ok from to ≡ to
first_none ok {from} {to} h all =
    go (ℕ_discrete (first_bad_in ok from to) to)
  where
    go : Dec (first_bad_in ok from to ≡ to) → first_bad_in ok from to ≡ to
    go (yes e) = e
    go (no q) =
        let low = first_low ok (to - from) from in
        let high = first_high ok (to - from) from in
        absurd
        (true_false
        (sym (all (first_bad_in ok from to) low (omega arith)) ∙ first_at ok (to - from) from (omega arith)))

-- two tests that agree over a range have one first bad one; two sums of equal numbers are equal
pub first_same : (ok ok' : ℕ → Bool) (n p : ℕ) → ((i : ℕ) → i < p + n → ok i ≡ ok' i) → first_bad ok n p ≡ first_bad ok' n p
unfolding first_bad
first_same ok ok' zero p same = refl
first_same ok ok' (suc n) p same =
    rw (same p (omega arith), first_same ok ok' n (p + 1) (λ i h. same i (omega arith)))

pub sum_same : (f g : ℕ → ℕ) (n : ℕ) → ((i : ℕ) → i < n → f i ≡ g i) → sum_to f n ≡ sum_to g n
unfolding sum_to
sum_same f g zero same = refl
sum_same f g (suc n) same = rw (sum_same f g n (λ i h. same i (omega arith)), same n (omega arith))

-- numbers that are 0 from k on add nothing
pub sum_zeros : (f : ℕ → ℕ) (k n : ℕ) → k ≤ n → ((i : ℕ) → k ≤ i → f i ≡ 0) → sum_to f n ≡ sum_to f k
unfolding sum_to
sum_zeros f k zero h zeros = let e : k ≡ 0 = omega arith in rw e
sum_zeros f k (suc n) h zeros = go (ℕ_discrete k (suc n)) (sum_zeros f k n)
  where
    go : Dec (k ≡ suc n) → (k ≤ n → ((i : ℕ) → k ≤ i → f i ≡ 0) → sum_to f n ≡ sum_to f k) → sum_to f (suc n) ≡ sum_to f k
    go (yes e) rest = rw e
    go (no q) rest = omega (arith, rest (omega arith) zeros, zeros n (omega arith))

-- ---- a list of numbers, by its entries

pub list_at : (f : ℕ → ℕ) (n i j : ℕ) → j < n → get_or (list_from f n i) j 0 ≡ f (i + j)
unfolding list_from
list_at f zero i j h = absurd (omega arith)
list_at f (suc n) i zero h = let e : i + 0 ≡ i = omega arith in rw e
list_at f (suc n) i (suc j) h =
    let e : i + suc j ≡ i + 1 + j = omega arith in rw e (list_at f n (i + 1) j (omega arith))

pub list_is : (f : ℕ → ℕ) (l : List ℕ) (i : ℕ) → ((j : ℕ) → j < length l → f (i + j) ≡ get_or l j 0) → list_from f (length l) i ≡ l
unfolding list_from
list_is f [] i same = refl
list_is f (x ∷ l) i same =
    let head : f i ≡ x = rw (add-zero i) at (same 0 (omega arith)) in
    let next : (j : ℕ) → j < length l → f (i + 1 + j) ≡ get_or l j 0 =
    λ j h. let e : i + suc j ≡ i + 1 + j = omega arith in rw e at (same (suc j) (omega arith)) in
    rw (head, list_is f l (i + 1) next)

pub list_snoc : (f : ℕ → ℕ) (n i : ℕ) → list_from f (n + 1) i ≡ list_from f n i ++ f (i + n) ∷ []
unfolding list_from
list_snoc f zero i = rw add-zero
list_snoc f (suc n) i =
    let e : suc n + 1 ≡ suc (n + 1) = omega arith in
    let e' : i + suc n ≡ i + 1 + n = omega arith in
    rw (e, e', list_snoc f n (i + 1))

pub zeros_at : (m i : ℕ) → get_or (replicate {A = ℕ} m 0) i 0 ≡ 0
zeros_at zero i = refl
zeros_at (suc m) zero = refl
zeros_at (suc m) (suc i) = zeros_at m i
