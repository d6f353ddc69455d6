-- The operation codec in document 01's words: a byte is kind × 64 + key. An allowed one is below 256 and has a key below K.
use Prim.Native.Nat.{ℕ, ◌+◌, ◌*◌, ◌<◌, ◌≤◌}
use mathlib.Core.Path.{◌≡◌, refl}
use mathlib.Core.Bool.{true, false, cond}
use mathlib.Core.Logic.{◌≢◌}
use native.Mathlib.Omega.{arith}
use lib.Dec.{ltb, eqb}
use borrow.Author.Tests.{ltb-true, eqb-true}
use Rattle.figures.specs.declared.Call.{Call}
use Rattle.figures.specs.declared.Call.TheVariants.{Insert, Delete, Contains, Size}
use Rattle.figures.specs.Codec.{call_of, key_of, code_of, is_size, allowed}
use Rattle.figures.proofs.Laws.{lt_case}

-- a fact of the call that a byte means, by the four kinds
pub call_case : (P : Call → Type 0) (b : ℕ) → (b < 64 → P Insert) → (64 ≤ b → b < 128 → P Delete)
    → (128 ≤ b → b < 192 → P Contains)
    → (192 ≤ b → P Size)
    → P (call_of b)
call_case P b insert delete contains size =
    lt_case P b 64 Insert (cond (ltb b 128) Delete (cond (ltb b 192) Contains Size)) insert
    (λ l. lt_case P b 128 Delete (cond (ltb b 192) Contains Size) (delete l) (λ m. lt_case P b 192 Contains Size (contains m) size))

-- a call that is no size
pub size_not : (c : Call) → c ≢ Size → is_size c ≡ false
size_not Insert h = refl
size_not Delete h = refl
size_not Contains h = refl
size_not Size h = absurd (h refl)

pub coded : (b : ℕ) → b < 256 → (b ≡ code_of (call_of b) * 64 + key_of b) × (key_of b < 64)
coded b h = (
  call_case (λ (c : Call). b ≡ code_of c * 64 + key_of b) b (λ l. omega arith) (λ l m. omega arith) (λ l m. omega arith)
      (λ l. omega arith),
  omega arith,
)

pub allowed_key : (keys b : ℕ) → 1 ≤ keys → allowed keys b ≡ true → (b < 256) × (key_of b < keys)
allowed_key keys b low =
    call_case (λ (c : Call). cond (is_size c) (eqb b 192) (ltb (key_of b) keys) ≡ true → (b < 256) × (key_of b < keys)) b
    (λ l e. (omega arith, ltb-true (key_of b) keys e))
    (λ l m e. (omega arith, ltb-true (key_of b) keys e))
    (λ l m e. (omega arith, ltb-true (key_of b) keys e))
    (λ l e. let k = eqb-true b 192 e in (omega arith, omega arith))
