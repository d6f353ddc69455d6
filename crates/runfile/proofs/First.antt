-- What `position` finds in a part of a list of bytes is the first bad one there.
use Prim.Native.Nat.{ℕ, ◌+◌, ◌-◌, ◌<◌, ◌≤◌}
use mathlib.Core.Path.{◌≡◌, refl, sym, ◌∙◌}
use mathlib.Core.Bool.{Bool, true, false, not, cond}
use mathlib.Core.List.{List}
use native.Mathlib.Omega.{arith}
use lib.Dec.{ltb}
use lib.ListN.{length, get_or, take, drop, length-drop}
use lib.Seq.{get_or-take, get_or-drop, length-take-le}
use borrow.Author.Tests.{ltb-true, ltb-false, not-false, not-true}
use Rattle.std.specs.Prelude.{Option, Some, None, MatchOption}
use Rattle.std.specs.List.{position_or_len}
use Rattle.std.proofs.lemmas.List.Sums.{prefix_len-le-length, fails_before_first, passes_at_first}
use Rattle.runfile.specs.Rows.{first_bad_in}
use Rattle.runfile.proofs.Laws.{true_false, first_low, first_high, first_before, first_at}

-- the test holds before it, and fails at it unless it is the end: no other place is so
pub first_is : (ok : ℕ → Bool) (from to i : ℕ) → from ≤ i → i ≤ to → ((k : ℕ) → from ≤ k → k < i → ok k ≡ true)
    → (i < to → ok i ≡ false)
    → first_bad_in ok from to ≡ i
first_is ok from to i low high before at =
    let x = first_bad_in ok from to in
    let x_low = first_low ok (to - from) from in
    let x_high = first_high ok (to - from) from in
    let not_less : x < i → ⊥ =
    λ h. true_false (sym (before x x_low h) ∙ first_at ok (to - from) from (omega arith)) in
    let not_more : i < x → ⊥ =
    λ h. true_false (sym (first_before ok (to - from) from i low h) ∙ at (omega arith)) in
    omega arith

-- a part's first bad one, by its place in the part
module _ (ok : ℕ → Bool) (l : List ℕ) (from to : ℕ) (low : from ≤ to) (high : to ≤ length l) where
  abbrev bad : ℕ → Bool
  bad b = not (ok b)

  abbrev bytes : List ℕ
  bytes = take (to - from) (drop from l)

  long : length bytes ≡ to - from
  long = length-take-le (to - from) (drop from l) (omega (arith, length-drop from l))

  byte : (k : ℕ) → k < to - from → get_or bytes k 0 ≡ get_or l (from + k) 0
  byte k h = get_or-take (to - from) (drop from l) k 0 h ∙ get_or-drop from l k 0

  within : position_or_len bad bytes ≤ length bytes
  within = prefix_len-le-length (λ b. not (bad b)) bytes

  first_part : first_bad_in (λ p. ok (get_or l p 0)) from to ≡ from + position_or_len bad bytes
  first_part =
      first_is (λ p. ok (get_or l p 0)) from to (from + position_or_len bad bytes) (omega arith) (omega (arith, long, within))
      (λ k lo hi. let e : from + (k - from) ≡ k = omega arith in
      not-false _ (rw (byte (k - from) (omega (arith, long, within)), e) at (fails_before_first bad bytes (k - from) 0 (omega arith))))
      (λ h.
      rw (sym (byte (position_or_len bad bytes) (omega arith)))
      (not-true _ (passes_at_first bad bytes 0 (omega (arith, long)))))

  pub found : (r : Option ℕ) → r ≡ cond (ltb (position_or_len bad bytes) (length bytes)) (Some (position_or_len bad bytes)) None
      → MatchOption r (first_bad_in (λ p. ok (get_or l p 0)) from to ≡ to)
      (λ i. (first_bad_in (λ p. ok (get_or l p 0)) from to ≡ from + i) × (from + i < to))
  found r e = go (ltb (position_or_len bad bytes) (length bytes)) refl e
    where
      go : (b : Bool) → ltb (position_or_len bad bytes) (length bytes) ≡ b → r ≡ cond b (Some (position_or_len bad bytes)) None
          → MatchOption r (first_bad_in (λ p. ok (get_or l p 0)) from to ≡ to)
          (λ i. (first_bad_in (λ p. ok (get_or l p 0)) from to ≡ from + i) × (from + i < to))
      go true t q = rw q (first_part, omega (arith, long, ltb-true _ _ t))
      go false t q = rw q (first_part ∙ omega (arith, long, within, ltb-false _ _ t))
