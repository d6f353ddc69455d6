-- The operation codec: an operation byte is kind × 64 + key, of the kinds 0 insert, 1 delete, 2 contains and 3 size. Which call and
-- which key a byte means, which bytes are allowed and what is wrong with the others, stands here alone: the reader, the writer, the
-- machine's start, the listing and the count of sizes all cite it.
use Rattle.std.specs.Prelude.{ℕ, ◌%◌, Bool, true, false, cond, eqb, ltb}
use Rattle.figures.specs.Limits.{most_keys}
use Rattle.figures.specs.declared.Call.{Call}
use Rattle.figures.specs.declared.Call.TheVariants.{Insert, Delete, Contains, Size}

abbrev pub call_of : ℕ → Call
call_of b = cond (ltb b 64) Insert (cond (ltb b 128) Delete (cond (ltb b 192) Contains Size))

abbrev pub key_of : ℕ → ℕ
key_of b = b % 64

-- a kind's number in the byte
abbrev pub code_of : Call → ℕ
code_of Insert = 0
code_of Delete = 1
code_of Contains = 2
code_of Size = 3

abbrev pub is_size : Call → Bool
is_size Insert = false
is_size Delete = false
is_size Contains = false
is_size Size = true

-- where there are so many keys: the key is below K; size is exactly 192
abbrev pub allowed : ℕ → ℕ → Bool
allowed keys b = cond (is_size (call_of b)) (eqb b 192) (ltb (key_of b) keys)

-- what is wrong with a byte that is not allowed: its key is too large for any file, or not below this file's K, or it is a size with a
-- key. K is not asked again.
pub data Fault : Type 0 where
  key_too_large : Fault
  key_not_below : Fault
  size_with_key : Fault

abbrev pub fault_of : ℕ → Fault
fault_of b = cond (is_size (call_of b)) size_with_key (cond (ltb (key_of b) most_keys) key_not_below key_too_large)
