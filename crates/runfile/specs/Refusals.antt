-- Document 01's table of refusals with document 02's: a row's number.
use Rattle.std.specs.Prelude.{ℕ}
use Rattle.figures.specs.Codec.{Fault, key_too_large, key_not_below, size_with_key}
use Rattle.runfile.specs.declared.Refusal.{Refusal}
use Rattle.runfile.specs.declared.Refusal.TheVariants.{NoHead, Threads, Keys, TableCutShort, Offset, TooManyOperations, TooManySteps, Length, KeyTooLarge, Step, TooSmall, Lists, KeyNotBelowK, SizeWithKey}

abbrev pub number_of : Refusal → ℕ
number_of NoHead = 1
number_of Threads = 2
number_of Keys = 3
number_of TableCutShort = 4
number_of Offset = 5
number_of TooManyOperations = 6
number_of TooManySteps = 7
number_of Length = 8
number_of KeyTooLarge = 9
number_of Step = 10
number_of TooSmall = 11
number_of Lists = 12
number_of KeyNotBelowK = 13
number_of SizeWithKey = 14

-- the row that a fault of an operation byte has
abbrev pub fault_row : Fault → Refusal
fault_row key_too_large = KeyTooLarge
fault_row key_not_below = KeyNotBelowK
fault_row size_with_key = SizeWithKey
