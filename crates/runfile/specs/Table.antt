-- The table of refusals as a reader reads it: the order of the rows, and for each row when it holds, and at which place. It is stated
-- in bytes at positions and sums of counts, apart from `read_of` and `write_of`; proofs/Table.antt shows that they agree.
use Rattle.std.specs.Prelude.{ℕ, ◌+◌, ◌<◌, ◌≤◌, ◌≡◌, Bool, true, List, [], ◌∷◌, ◌++◌, ◌⊎◌, ◌≢◌, ◌↔◌, length, get_or}
use Rattle.figures.specs.declared.Call.TheVariants.{Size}
use Rattle.figures.specs.Codec.{call_of, key_of}
use Rattle.figures.specs.Limits.{most_threads, most_keys, most_operations, most_steps}
use Rattle.runfile.specs.declared.Refusal.{Refusal}
use Rattle.runfile.specs.declared.Refusal.TheVariants.{NoHead, Threads, Keys, TableCutShort, Offset, TooManyOperations, TooManySteps, Length, KeyTooLarge, Step, TooSmall, Lists, KeyNotBelowK, SizeWithKey}
use Rattle.runfile.specs.Refusals.{number_of}
use Rattle.runfile.specs.Rows.{sum_to}
use Rattle.runfile.specs.Layout.{entry_at, body_at, offset_in, count_in, count_of, file_of}
use Rattle.runfile.specs.Read.{threads_in, keys_in, operations_in, steps_in, schedule_in}

abbrev pub Outside : ℕ → ℕ → Type 0
Outside x most = (x ≡ 0) ⊎ (most < x)

-- an insert, a delete or a contains with a key below K, or exactly 192
abbrev pub Allowed : ℕ → ℕ → Type 0
Allowed keys byte = ((call_of byte ≢ Size) × (key_of byte < keys)) ⊎ (byte ≡ 192)

-- what is wrong with another, by the row that it meets: the low six bits are a key of 16 or more; or one below 16 that is not
-- below K; or it is a size, and not 192
pub data Wrong (keys byte : ℕ) : Refusal → Type 0 where
  key_large : call_of byte ≢ Size → most_keys ≤ key_of byte → Wrong keys byte KeyTooLarge
  key_over : call_of byte ≢ Size → key_of byte < most_keys → keys ≤ key_of byte → Wrong keys byte KeyNotBelowK
  size_keyed : call_of byte ≡ Size → byte ≢ 192 → Wrong keys byte SizeWithKey

-- a byte is allowed, or it has one of the three rows; never two of these four
pub record OneOfFour (keys byte : ℕ) : Type 0 where
  pub some : Allowed keys byte ⊎ ((r : Refusal) × Wrong keys byte r)
  pub not_both : (r : Refusal) → Allowed keys byte → Wrong keys byte r → ⊥
  pub one_row : (r s : Refusal) → Wrong keys byte r → Wrong keys byte s → r ≡ s

-- p is the first place from `from` on and before `to` that is not good
abbrev pub First : (ℕ → Type 0) → ℕ → ℕ → ℕ → Type 0
First Good from to p =
    (from ≤ p) × (p < to) × (Good p → ⊥) × ((q : ℕ) → from ≤ q → q < p → Good q)

-- ---- the order of the rows: of reading, of running (where outputs are lent), of writing; the three rows of an operation byte
-- share a place in it, since the first byte that is not allowed has one of them

abbrev pub reading_order : List Refusal
reading_order =
    NoHead ∷ Threads ∷ Keys ∷ TableCutShort ∷ Offset ∷ TooManyOperations ∷ TooManySteps ∷ Length ∷ KeyTooLarge ∷ KeyNotBelowK
    ∷ SizeWithKey ∷ Step ∷ []

abbrev pub running_order : List Refusal
running_order = reading_order ++ TooSmall ∷ []

abbrev pub writing_order : List Refusal
writing_order =
    Threads ∷ Keys ∷ Lists ∷ TooManyOperations ∷ TooManySteps ∷ KeyTooLarge ∷ KeyNotBelowK ∷ SizeWithKey ∷ Step ∷ TooSmall ∷ []

-- ---- when a row holds, and at which place

-- of a file that is read
pub data Refuses (f : List ℕ) : Refusal → ℕ → Type 0 where
  short : length f < 2 → Refuses f NoHead 0
  threads_outside : Outside (threads_in f) most_threads → Refuses f Threads 0
  keys_outside : Outside (keys_in f) most_keys → Refuses f Keys 0
  cut_short : length f < body_at (threads_in f) → Refuses f TableCutShort 0
  offset_wrong : {i : ℕ} → First (λ j. offset_in f j ≡ body_at (threads_in f) + sum_to (count_in f) j) 0 (threads_in f + 1) i
      → Refuses f Offset (entry_at i)
  operations_many : most_operations < operations_in f → Refuses f TooManyOperations 0
  steps_many : most_steps < steps_in f → Refuses f TooManySteps 0
  length_wrong : length f ≢ schedule_in f + steps_in f → Refuses f Length 0
  operation_wrong : {r : Refusal} {p : ℕ} → First (λ q. Allowed (keys_in f) (get_or f q 0)) (body_at (threads_in f)) (schedule_in f) p
      → Wrong (keys_in f) (get_or f p 0) r
      → Refuses f r p
  step_wrong : {p : ℕ} → First (λ q. get_or f q 0 < threads_in f) (schedule_in f) (schedule_in f + steps_in f) p
      → Refuses f Step p

-- of a file that is played, where outputs are lent
pub data Unplayable (f : List ℕ) (small : Bool) : Refusal → ℕ → Type 0 where
  unread : {r : Refusal} {p : ℕ} → Refuses f r p → Unplayable f small r p
  output_small : small ≡ true → Unplayable f small TooSmall 0

-- of what the writer is given
pub data Unwritable (threads keys : ℕ) (counts operations schedule : List ℕ) (room : ℕ) : Refusal → ℕ → Type 0 where
  threads_bad : Outside threads most_threads → Unwritable threads keys counts operations schedule room Threads 0
  keys_bad : Outside keys most_keys → Unwritable threads keys counts operations schedule room Keys 0
  lists_disagree : (length counts ≢ threads) ⊎ (sum_to (count_of counts) (length counts) ≢ length operations)
      → Unwritable threads keys counts operations schedule room Lists 0
  operations_over : most_operations < length operations → Unwritable threads keys counts operations schedule room TooManyOperations 0
  steps_over : most_steps < length schedule → Unwritable threads keys counts operations schedule room TooManySteps 0
  operation_bad : {r : Refusal} {p : ℕ} → First (λ q. Allowed keys (get_or operations q 0)) 0 (length operations) p
      → Wrong keys (get_or operations p 0) r
      → Unwritable threads keys counts operations schedule room r p
  step_bad : {p : ℕ} → First (λ q. get_or schedule q 0 < threads) 0 (length schedule) p
      → Unwritable threads keys counts operations schedule room Step p
  room_small : room < length (file_of threads keys counts operations schedule)
      → Unwritable threads keys counts operations schedule room TooSmall 0

-- ---- what decides, for any order of rows and any meaning of them

-- r holds at p, and no row before it in the order holds anywhere
abbrev pub FirstOf : (Refusal → ℕ → Type 0) → List Refusal → Refusal → ℕ → Type 0
FirstOf Holds [] r p = ⊥
FirstOf Holds (x ∷ xs) r p = ((x ≡ r) × Holds r p) ⊎ (((q : ℕ) → Holds x q → ⊥) × FirstOf Holds xs r p)

-- no row of the order holds anywhere
abbrev pub NoneOf : (Refusal → ℕ → Type 0) → List Refusal → Type 0
NoneOf Holds [] = Unit
NoneOf Holds (x ∷ xs) = ((q : ℕ) → Holds x q → ⊥) × NoneOf Holds xs

-- number and place are those of the first row of the order that holds; the number is 0 exactly where none does
pub record Decides (Holds : Refusal → ℕ → Type 0) (order : List Refusal) (number place : ℕ) : Type 0 where
  pub refuses : (r : Refusal) (p : ℕ) → ((number ≡ number_of r) × (place ≡ p)) ↔ FirstOf Holds order r p
  pub accepts : (number ≡ 0) ↔ NoneOf Holds order
  pub either : NoneOf Holds order ⊎ ((r : Refusal) × (p : ℕ) × FirstOf Holds order r p)
