-- The rows of an operation byte that is not allowed: which of the three a byte has, that each byte is allowed or has one of them,
-- and that the first byte that is not allowed decides.
use Prim.Native.Nat.{ℕ, ◌<◌, ◌≤◌}
use mathlib.Core.Path.{◌≡◌, refl, sym, ap, ◌∙◌}
use mathlib.Core.Bool.{Bool, true, false, cond}
use mathlib.Core.List.{List, [], ◌∷◌}
use mathlib.Core.Logic.{◌⊎◌, inl, inr, ◌↔◌}
use native.Mathlib.Omega.{arith}
use lib.ListN.{get_or}
use lib.Dec.{ltb, eqb}
use borrow.Author.Tests.{ltb-true, ltb-false, lt-ltb, le-ltb, eqb-true, eqb-false, eq-eqb}
use Rattle.figures.specs.declared.Call.{Call}
use Rattle.figures.specs.declared.Call.TheVariants.{Insert, Delete, Contains, Size}
use Rattle.figures.specs.Codec.{call_of, key_of, is_size, allowed, Fault, key_too_large, key_not_below, size_with_key, fault_of}
use Rattle.figures.specs.Limits.{most_keys}
use Rattle.figures.proofs.Codec.{size_not}
use Rattle.runfile.specs.declared.Refusal.{Refusal}
use Rattle.runfile.specs.declared.Refusal.TheVariants.{KeyTooLarge, KeyNotBelowK, SizeWithKey, Step}
use Rattle.runfile.specs.Refusals.{number_of, fault_row}
use Rattle.runfile.specs.Rows.{Passes, Stops, here, later}
use Rattle.runfile.specs.Shared.{wrong_operation_in, wrong_step_in, byte_row, byte_rows, operation_rows, step_row}
use Rattle.runfile.specs.Table.{Allowed, Wrong, key_large, key_over, size_keyed, OneOfFour}
use Rattle.runfile.proofs.Laws.{true_false}
use Rattle.runfile.proofs.Rows.{one_row}

is_size_lem : (c : Call) → is_size c ≡ true → c ≡ Size
is_size_lem Insert e = absurd (true_false (sym e))
is_size_lem Delete e = absurd (true_false (sym e))
is_size_lem Contains e = absurd (true_false (sym e))
is_size_lem Size e = refl

pub allowed_is : (keys byte : ℕ) → (allowed keys byte ≡ true) ↔ Allowed keys byte
allowed_is keys byte = (λ e. go (is_size (call_of byte)) refl e, back)
  where
    go : (b : Bool) → is_size (call_of byte) ≡ b → cond b (eqb byte 192) (ltb (key_of byte) keys) ≡ true → Allowed keys byte
    go true e h = inr (eqb-true byte 192 h)
    go false e h = inl (λ q. true_false (sym (ap is_size q) ∙ e), ltb-true (key_of byte) keys h)

    back : Allowed keys byte → allowed keys byte ≡ true
    back (inl a) = simp (size_not (call_of byte) a.0, lt-ltb (key_of byte) keys a.1)
    back (inr e) = rw e

-- a byte that is not allowed has its fault's row, and no other
module _ (keys byte : ℕ) where
  pub fault_wrong : allowed keys byte ≡ false → Wrong keys byte (fault_row (fault_of byte))
  fault_wrong = go (is_size (call_of byte)) (ltb (key_of byte) most_keys) refl refl
    where
      go : (s l : Bool) → is_size (call_of byte) ≡ s → ltb (key_of byte) most_keys ≡ l
          → cond s (eqb byte 192) (ltb (key_of byte) keys) ≡ false
          → Wrong keys byte (fault_row (cond s size_with_key (cond l key_not_below key_too_large)))
      go true l e d h = size_keyed (is_size_lem (call_of byte) e) (eqb-false byte 192 h)
      go false true e d h =
          key_over (λ q. true_false (sym (ap is_size q) ∙ e)) (ltb-true (key_of byte) most_keys d) (ltb-false (key_of byte) keys h)
      go false false e d h = key_large (λ q. true_false (sym (ap is_size q) ∙ e)) (ltb-false (key_of byte) most_keys d)

  pub wrong_fault : {r : Refusal} → Wrong keys byte r → fault_row (fault_of byte) ≡ r
  wrong_fault (key_large c h) = simp (size_not (call_of byte) c, le-ltb (key_of byte) most_keys h)
  wrong_fault (key_over c h l) = simp (size_not (call_of byte) c, lt-ltb (key_of byte) most_keys h)
  wrong_fault (size_keyed c h) = rw c

-- for every K: a byte is allowed, or has 9, 13 or 14, and never two of these
pub one_of_four : (keys byte : ℕ) → keys ≤ most_keys → OneOfFour keys byte
one_of_four keys byte few =
    record {
      some = some (allowed keys byte) refl;
      not_both = both;
      one_row = λ r s h h'. sym (wrong_fault keys byte h) ∙ wrong_fault keys byte h';
    }
  where
    some : (b : Bool) → allowed keys byte ≡ b → Allowed keys byte ⊎ ((r : Refusal) × Wrong keys byte r)
    some true e = inl ((allowed_is keys byte).0 e)
    some false e = inr (fault_row (fault_of byte), fault_wrong keys byte e)

    both : (r : Refusal) → Allowed keys byte → Wrong keys byte r → ⊥
    both r (inl a) (key_large c h) = omega (arith, a.1)
    both r (inl a) (key_over c h l) = omega (arith, a.1)
    both r (inl a) (size_keyed c h) = a.0 c
    both r (inr e) (key_large c h) = c (rw e)
    both r (inr e) (key_over c h l) = c (rw e)
    both r (inr e) (size_keyed c h) = h e

-- ---- the three rows

-- where there is such a byte its own row stops, and where there is none all three let pass
byte_stops : (x : Fault) (p : ℕ) → Stops (byte_rows true (fault_row x) p) (fault_row x) p
byte_stops key_too_large p = here refl
byte_stops key_not_below p = later refl (here refl)
byte_stops size_with_key p = later refl (later refl (here refl))

module _ (keys : ℕ) (bytes : List ℕ) (from to : ℕ) {p : ℕ} (first : wrong_operation_in keys bytes from to ≡ p) where
  pub operation_stops : p < to → Stops (operation_rows keys bytes from to) (fault_row (fault_of (get_or bytes p 0))) p
  operation_stops h = rw (first, lt-ltb p to h) (byte_stops (fault_of (get_or bytes p 0)) p)

  pub operation_passes : to ≤ p → Passes (operation_rows keys bytes from to)
  operation_passes h = rw (first, le-ltb p to h) (refl, (refl, (refl, tt)))

-- the row of a schedule byte
module _ (threads : ℕ) (bytes : List ℕ) (from to : ℕ) {p : ℕ} (first : wrong_step_in threads bytes from to ≡ p) where
  pub step_stops : p < to → Stops (step_row threads bytes from to ∷ []) Step p
  step_stops h = rw first (here (lt-ltb p to h))

  pub step_passes : to ≤ p → Passes (step_row threads bytes from to ∷ [])
  step_passes h = rw first (le-ltb p to h, tt)

-- row r applies exactly where there is such a byte and its own row is r
module _ (bad : Bool) (own : Refusal) (p : ℕ) (r : Refusal) where
  pub byte_on : (byte_row bad own p r).applies ≡ true → (bad ≡ true) × (own ≡ r)
  byte_on = go bad
    where
      go : (b : Bool) → (byte_row b own p r).applies ≡ true → (b ≡ true) × (own ≡ r)
      go true e = (refl, one_row own r (eqb-true _ _ e))
      go false e = absurd (true_false (sym e))

  pub byte_applies : bad ≡ true → own ≡ r → (byte_row bad own p r).applies ≡ true
  byte_applies e q = rw e (eq-eqb (number_of own) (number_of r) (ap number_of q))

-- where none of the three applies there is no such byte
pub byte_none : (bad : Bool) (x : Fault) (p : ℕ) → (byte_row bad (fault_row x) p KeyTooLarge).applies ≡ false
    → (byte_row bad (fault_row x) p KeyNotBelowK).applies ≡ false
    → (byte_row bad (fault_row x) p SizeWithKey).applies ≡ false
    → bad ≡ false
byte_none false x p a b c = refl
byte_none true key_too_large p a b c = absurd (true_false a)
byte_none true key_not_below p a b c = absurd (true_false b)
byte_none true size_with_key p a b c = absurd (true_false c)
