-- Laws that every proof over the state uses: a list after a write, a block after a write, and what follows a test.
use Prim.Native.Nat.{ℕ, zero, suc, ◌≤◌, ◌<◌}
use mathlib.Core.Path.{◌≡◌, refl, sym, ap, ◌∙◌}
use mathlib.Core.Logic.{◌≢◌}
use mathlib.Core.Bool.{Bool, true, false, cond, ◌&&◌, ◌||◌}
use mathlib.Core.List.{List}
use native.Mathlib.Omega.{arith}
use native.Mathlib.Decide.{ℕ_discrete, dec_lt}
use lib.ListN.{length, get_or, set, replicate, length-set}
use lib.Seq.{get_or-set_same, get_or-set_other, set_out}
use lib.Dec.{eqb, ltb}
use borrow.Author.Tests.{ltb-true, ltb-false, eqb-true, eqb-false}
use Rattle.figures.specs.declared.Kind.{Kind}
use Rattle.figures.specs.declared.Kind.TheVariants.{Insertion, Deletion}
use Rattle.figures.specs.declared.Cell.{Cell}
use Rattle.figures.specs.declared.Counts.{Counts}
use Rattle.figures.specs.Figure4.{more, more_byte, count_of, with_count, both, count_at, set_count, block_of}

-- ---- A list after a write.

module _ {A : Type 0} (P : A → Type 0) (l : List A) (i j : ℕ) (a d : A) where
  -- what is there is what was written, or what was there before
  pub set_holds : (j ≡ i → P a) → P (get_or l j d) → P (get_or (set l i a) j d)
  set_holds f g = go (ℕ_discrete j i) (dec_lt i (length l))
    where
      go : Dec (j ≡ i) → Dec (i < length l) → P (get_or (set l i a) j d)
      go (yes e) (yes h) = rw e (rw (get_or-set_same l i a d h) (f e))
      go (yes e) (no h) = rw (set_out l i a (omega arith)) g
      go (no n) c = rw (get_or-set_other l i j a d n) g

  -- the same by cases on the place, which has to be one of the list's
  pub set_case : i < length l → (j ≡ i → P a) → (j ≢ i → P (get_or l j d)) → P (get_or (set l i a) j d)
  set_case h f g = go (ℕ_discrete j i)
    where
      go : Dec (j ≡ i) → P (get_or (set l i a) j d)
      go (yes e) = rw e (rw (get_or-set_same l i a d h) (f e))
      go (no n) = rw (get_or-set_other l i j a d n) (g n)

-- a part of an entry that the write leaves as it was
pub set_field : {A B : Type 0} (f : A → B) (l : List A) (i j : ℕ) (a d : A) → f a ≡ f (get_or l i d) → f (get_or (set l i a) j d) ≡ f (get_or l j d)
set_field f l i j a d e = set_holds (λ x. f x ≡ f (get_or l j d)) l i j a d (λ q. rw q e) refl

-- what holds of the one value, and of the default, holds of every entry of a list of that value
pub replicate_holds : {A : Type 0} (P : A → Type 0) (n i : ℕ) (a d : A) → P a → P d → P (get_or (replicate n a) i d)
replicate_holds P zero i a d h z = z
replicate_holds P (suc n) zero a d h z = h
replicate_holds P (suc n) (suc i) a d h z = replicate_holds P n i a d h z

-- ---- Cells.

pub Kind-discrete : (k k' : Kind) → Dec (k ≡ k')
Kind-discrete Insertion Insertion = yes refl
Kind-discrete Insertion Deletion = no (λ e. let z : ◌≡◌ {A = ℕ} 0 1 = cc in omega arith)
Kind-discrete Deletion Insertion = no (λ e. let z : ◌≡◌ {A = ℕ} 0 1 = cc in omega arith)
Kind-discrete Deletion Deletion = yes refl

pub cell_path : {j j' : Cell} → j.thread.0 ≡ j'.thread.0 → j.kind ≡ j'.kind → j ≡ j'
cell_path p q = λ i. record { thread = record { 0 = p i }; kind = q i }

pub Cell-discrete : (j j' : Cell) → Dec (j ≡ j')
Cell-discrete j j' = go (ℕ_discrete j.thread.0 j'.thread.0) (Kind-discrete j.kind j'.kind)
  where
    go : Dec (j.thread.0 ≡ j'.thread.0) → Dec (j.kind ≡ j'.kind) → Dec (j ≡ j')
    go (yes p) (yes q) = yes (cell_path p q)
    go (yes p) (no n) = no (λ e. n (ap (λ (x : Cell). x.kind) e))
    go (no n) q = no (λ e. n (ap (λ (x : Cell). x.thread.0) e))

-- ---- A pair and a block after a write.

pub of_same : (k : Kind) (v : ℕ) (c : Counts) → count_of k (with_count k v c) ≡ v
of_same Insertion v c = refl
of_same Deletion v c = refl

pub of_other : (k k' : Kind) (v : ℕ) (c : Counts) → k' ≢ k → count_of k' (with_count k v c) ≡ count_of k' c
of_other Insertion Insertion v c n = absurd (n refl)
of_other Insertion Deletion v c n = refl
of_other Deletion Insertion v c n = refl
of_other Deletion Deletion v c n = absurd (n refl)

pub count_length : (b : List Counts) (j : Cell) (v : ℕ) → length (set_count b j v) ≡ length b
count_length b j v = length-set b j.thread.0 _

pub count_same : (b : List Counts) (j : Cell) (v : ℕ) → j.thread.0 < length b → count_at (set_count b j v) j ≡ v
count_same b j v h = ap (count_of j.kind) (get_or-set_same b j.thread.0 _ (both 0) h) ∙ of_same j.kind v _

pub count_other : (b : List Counts) (j j' : Cell) (v : ℕ) → j' ≢ j → count_at (set_count b j v) j' ≡ count_at b j'
count_other b j j' v n =
    set_holds (λ (c : Counts). count_of j'.kind c ≡ count_at b j') b j.thread.0 j'.thread.0 _ (both 0)
    (λ e. of_other j.kind j'.kind v _ (λ k. n (cell_path e k)) ∙ ap (λ (i : ℕ). count_of j'.kind (get_or b i (both 0))) (sym e)) refl

module _ (P : ℕ → Type 0) (b : List Counts) (j j' : Cell) (v : ℕ) where
  pub count_holds : (j' ≡ j → P v) → P (count_at b j') → P (count_at (set_count b j v) j')
  count_holds f g = go (Cell-discrete j' j) (dec_lt j.thread.0 (length b))
    where
      go : Dec (j' ≡ j) → Dec (j.thread.0 < length b) → P (count_at (set_count b j v) j')
      go (yes e) (yes h) = rw e (rw (count_same b j v h) (f e))
      go (yes e) (no h) = rw (set_out b j.thread.0 (with_count j.kind v (get_or b j.thread.0 (both 0))) (omega arith)) g
      go (no n) c = rw (count_other b j j' v n) g

  pub count_case : j.thread.0 < length b → (j' ≡ j → P v) → (j' ≢ j → P (count_at b j')) → P (count_at (set_count b j v) j')
  count_case h f g = go (Cell-discrete j' j)
    where
      go : Dec (j' ≡ j) → P (count_at (set_count b j v) j')
      go (yes e) = rw e (rw (count_same b j v h) (f e))
      go (no n) = rw (count_other b j j' v n) (g n)

-- a block of one value, where it ends 0
pub block_holds : (P : ℕ → Type 0) (v : ℕ) (j : Cell) → P v → P 0 → P (count_at (block_of v) j)
block_holds P v j h z = replicate_holds (λ (c : Counts). P (count_of j.kind c)) 8 j.thread.0 (both v) (both 0) (of_both j.kind v h) (of_both j.kind 0 z)
  where
    of_both : (k : Kind) (n : ℕ) → P n → P (count_of k (both n))
    of_both Insertion n x = x
    of_both Deletion n x = x

-- ---- What follows a test.

pub test_case : (P : Bool → Type 0) (b : Bool) → (b ≡ true → P true) → (b ≡ false → P false) → P b
test_case P true f g = f refl
test_case P false f g = g refl

module _ {A : Type 0} (P : A → Type 0) where
  pub cond_case : (b : Bool) (x y : A) → (b ≡ true → P x) → (b ≡ false → P y) → P (cond b x y)
  cond_case b x y f g = test_case (λ (c : Bool). P (cond c x y)) b f g

  pub eq_case : (a b : ℕ) (x y : A) → (a ≡ b → P x) → (a ≢ b → P y) → P (cond (eqb a b) x y)
  eq_case a b x y f g = cond_case (eqb a b) x y (λ e. f (eqb-true a b e)) (λ e. g (eqb-false a b e))

  pub lt_case : (a b : ℕ) (x y : A) → (a < b → P x) → (b ≤ a → P y) → P (cond (ltb a b) x y)
  lt_case a b x y f g = cond_case (ltb a b) x y (λ e. f (ltb-true a b e)) (λ e. g (ltb-false a b e))

-- whichever it is
pub cond_both : {A : Type 0} (P : A → Type 0) (b : Bool) (x y : A) → P x → P y → P (cond b x y)
cond_both P true x y f g = f
cond_both P false x y f g = g

pub cond_same : {A : Type 0} (b : Bool) (x : A) → cond b x x ≡ x
cond_same true x = refl
cond_same false x = refl

pub cond_map : {A B : Type 0} (f : A → B) (b : Bool) (x y : A) → f (cond b x y) ≡ cond b (f x) (f y)
cond_map f true x y = refl
cond_map f false x y = refl

true≢false : {A : Type 0} → true ≡ false → A
true≢false e = let z : ◌≡◌ {A = ℕ} 0 1 = cc in absurd (omega arith)

pub tests_differ : {A : Type 0} {b : Bool} → b ≡ true → b ≡ false → A
tests_differ t f = true≢false (sym t ∙ f)

pub and_true : (a b : Bool) → (a && b) ≡ true → (a ≡ true) × (b ≡ true)
and_true true true e = (refl, refl)
and_true true false e = (refl, e)
and_true false b e = (e, true≢false (sym e))

pub and_both : {a b : Bool} → a ≡ true → b ≡ true → (a && b) ≡ true
and_both {a} {b} p q = rw (p, q)

pub and_first : {a : Bool} (b : Bool) → a ≡ false → (a && b) ≡ false
and_first b p = rw p

pub and_second : (a : Bool) {b : Bool} → b ≡ false → (a && b) ≡ false
and_second true p = p
and_second false p = refl

pub or_first : {a : Bool} (b : Bool) → a ≡ true → (a || b) ≡ true
or_first b p = rw p

pub or_neither : {a b : Bool} → a ≡ false → b ≡ false → (a || b) ≡ false
or_neither p q = rw (p, q)

-- ---- One more, where it does not wrap.

pub more_is : (x : ℕ) → x < 4294967295 → more x ≡ suc x
more_is x h = omega arith

pub more_byte_is : (x : ℕ) → x < 255 → more_byte x ≡ suc x
more_byte_is x h = omega arith
