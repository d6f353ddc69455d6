-- Two tables that have the announced records alike, the rest of each as it was at the start; a step keeps that.
use Prim.Native.Nat.{ℕ, suc, ◌+◌, ◌-◌, ◌≤◌, ◌<◌}
use mathlib.Core.Path.{◌≡◌, sym, ap, ◌∙◌}
use mathlib.Core.Logic.{◌≢◌}
use mathlib.Core.List.{List, ◌++◌}
use native.Mathlib.Omega.{arith}
use native.Mathlib.Decide.{ℕ_discrete, dec_lt}
use lib.ListN.{length, get_or, set, take, drop, length-set, get_or-append}
use lib.Seq.{sets, sets-eq, length-sets, length-take-le, get_or-take, get_or-drop, get_or-append-add, get_or-set_same, get_or-set_other, ext_get_or}
use Rattle.figures.specs.declared.Snapshot.{Snapshot}
use Rattle.figures.specs.Figure4.{no_snapshot}
use Rattle.lent.proofs.Tables.{Change, kept, stored, announced}

-- `zs` has the first n of `xs`, and the rest of `ys`
pub record Front {A : Type 0} (d : A) (n : ℕ) (xs ys zs : List A) : Type 0 where
  pub long : length zs ≡ length ys
  pub front : (i : ℕ) → i < n → get_or zs i d ≡ get_or xs i d
  pub rest : (i : ℕ) → n ≤ i → get_or zs i d ≡ get_or ys i d

module _ {A : Type 0} (d : A) where
  sets_front : (n : ℕ) (xs ys : List A) → n ≤ length xs → n ≤ length ys → Front d n xs ys (sets ys 0 (take n xs))
  sets_front n xs ys a b =
      record {
        long = length-sets ys 0 (take n xs);
        front = λ i l. ap (λ (r : List A). get_or r i d) whole ∙ get_or-append (take n xs) _ d i (omega (arith, k)) ∙ get_or-take n xs i d l;
        rest = λ i l.
            let e : length (take n xs) + (i - n) ≡ i = omega (arith, k) in
            let e' : 0 + length (take n xs) + (i - n) ≡ i = omega arith in
            ap (λ (r : List A). get_or r i d) whole
            ∙ ap (λ (j : ℕ). get_or (take n xs ++ drop (0 + length (take n xs)) ys) j d) (sym e)
            ∙ get_or-append-add (take n xs) (drop (0 + length (take n xs)) ys) (i - n) d
            ∙ get_or-drop (0 + length (take n xs)) ys (i - n) d ∙ ap (λ (j : ℕ). get_or ys j d) e';
      }
    where
      k : length (take n xs) ≡ n
      k = length-take-le n xs a

      whole : sets ys 0 (take n xs) ≡ take n xs ++ drop (0 + length (take n xs)) ys
      whole = sets-eq (take n xs) ys 0 (omega (arith, k))

  -- there is one such list
  pub front_is : (n : ℕ) (xs ys zs : List A) → n ≤ length xs → n ≤ length ys → Front d n xs ys zs → zs ≡ sets ys 0 (take n xs)
  front_is n xs ys zs a b h = ext_get_or d zs (sets ys 0 (take n xs)) (h.long ∙ sym w.long) (λ i l. same i (dec_lt i n))
    where
      w : Front d n xs ys (sets ys 0 (take n xs))
      w = sets_front n xs ys a b

      same : (i : ℕ) → Dec (i < n) → get_or zs i d ≡ get_or (sets ys 0 (take n xs)) i d
      same i (yes l) = h.front i l ∙ sym (w.front i l)
      same i (no l) = h.rest i (omega arith) ∙ sym (w.rest i (omega arith))

  -- one record stored in both, among the first n or next to them
  front_set : (n n' : ℕ) (xs ys zs : List A) (p : ℕ) (a : A) → p < n' → n ≤ n' → ((i : ℕ) → i < n' → i ≢ p → i < n) → n' ≤ length xs → n' ≤ length ys
      → Front d n xs ys zs → Front d n' (set xs p a) ys (set zs p a)
  front_set n n' xs ys zs p a l up others x y h =
      record {
        long = length-set zs p a ∙ h.long;
        front = λ i k. front i k (ℕ_discrete i p);
        rest = λ i k. get_or-set_other zs p i a d (λ e. let z : n' ≤ p = omega arith in omega arith) ∙ h.rest i (omega arith);
      }
    where
      front : (i : ℕ) → i < n' → Dec (i ≡ p) → get_or (set zs p a) i d ≡ get_or (set xs p a) i d
      front i k (yes e) = rw e (get_or-set_same zs p a d (omega (arith, h.long)) ∙ sym (get_or-set_same xs p a d (omega arith)))
      front i k (no e) = get_or-set_other zs p i a d e ∙ h.front i (others i k e) ∙ sym (get_or-set_other xs p i a d e)

-- a step keeps that
pub front_change : (current current' : ℕ) (xs ys zs xs' zs' : List Snapshot) → Change current current' xs zs xs' zs' → suc current' ≤ length xs → suc current' ≤ length ys
    → Front no_snapshot (suc current) xs ys zs → Front no_snapshot (suc current') xs' ys zs'
front_change current current' xs ys zs xs' zs' (kept e a b) x y h = rw (e, a, b) h
front_change current current' xs ys zs xs' zs' (stored n s l e a b) x y h =
    rw (a, b) (front_set no_snapshot (suc current) (suc current') xs ys zs n s (omega arith) (omega arith) (λ i k q. omega arith) x y h)
front_change current current' xs ys zs xs' zs' (announced s e a b) x y h =
    rw (a, b) (front_set no_snapshot (suc current) (suc current') xs ys zs current' s (omega arith) (omega arith) (λ i k q. omega arith) x y h)

-- and does the same to the machine's own table
pub own_change : {current current' : ℕ} {xs zs xs' zs' : List Snapshot} → Change current current' xs zs xs' zs' → Change current current' xs xs xs' xs'
own_change (kept e a b) = kept e a a
own_change (stored n s l e a b) = stored n s l e a a
own_change (announced s e a b) = announced s e a a
