-- "The run file": where everything stands in it, and the file made of its contents.
use Rattle.std.specs.Prelude.{ℕ, ◌+◌, ◌*◌, ◌/◌, ◌%◌, List, [], ◌∷◌, ◌++◌, Bool, length, get_or, ltb}
use Rattle.figures.specs.Codec.{allowed}

-- a two-byte number, low byte first, at a position of the file
abbrev pub word_at : List ℕ → ℕ → ℕ
word_at f p = get_or f p 0 + 256 * get_or f (p + 1) 0

-- contents entry i: two bytes of offset, two of count
abbrev pub entry_at : ℕ → ℕ
entry_at i = 2 + 4 * i

-- the first body, after T + 1 entries
abbrev pub body_at : ℕ → ℕ
body_at t = entry_at (t + 1)

abbrev pub offset_in : List ℕ → ℕ → ℕ
offset_in f i = word_at f (entry_at i)

abbrev pub count_in : List ℕ → ℕ → ℕ
count_in f i = word_at f (entry_at i + 2)

-- whether the byte at p is right, of a list of operation bytes and of a schedule
abbrev pub operation_right : ℕ → List ℕ → ℕ → Bool
operation_right keys bytes p = allowed keys (get_or bytes p 0)

abbrev pub step_right : ℕ → List ℕ → ℕ → Bool
step_right threads bytes p = ltb (get_or bytes p 0) threads

-- count i of a list of counts
abbrev pub count_of : List ℕ → ℕ → ℕ
count_of counts i = get_or counts i 0

-- the contents entries of bodies of these counts, the first at `at`: each next one starts where the last ended
unfoldable pub entries : ℕ → List ℕ → List ℕ
entries at [] = []
entries at (c ∷ cs) = at % 256 ∷ at / 256 ∷ c % 256 ∷ c / 256 ∷ entries (at + c) cs

-- the whole file
unfoldable pub file_of : ℕ → ℕ → List ℕ → List ℕ → List ℕ → List ℕ
file_of threads keys counts operations schedule =
    threads ∷ keys ∷ entries (body_at threads) (counts ++ length schedule ∷ []) ++ operations ++ schedule
