-- Laws of the layout: the contents table's length and seam, the file's length, and what storing it piece by piece gives.
use Prim.Native.Nat.{ℕ, zero, suc, ◌+◌, ◌*◌, ◌/◌, ◌%◌, ◌<◌, ◌≤◌}
use mathlib.Core.Path.{◌≡◌, refl, sym, ap, ◌∙◌}
use mathlib.Core.List.{List, [], ◌∷◌, ◌++◌, append_assoc}
use native.Mathlib.Omega.{arith}
use native.Mathlib.Numerals.{add-one}
use native.Mathlib.Nat.{add-zero}
use lib.ListN.{length, get_or, set, drop, length-append}
use lib.Seq.{sets, drop-cons, get_or-drop}
use Rattle.runfile.specs.Rows.{sum_to}
use Rattle.runfile.specs.Layout.{word_at, entry_at, body_at, offset_in, count_in, count_of, entries, file_of}
use Rattle.runfile.proofs.Laws.{sum_head}

pub drop_on : (l : List ℕ) {i : ℕ} → i < length l → drop i l ≡ get_or l i 0 ∷ drop (i + 1) l
drop_on l {i} h = rw (add-one, drop-cons l i 0)

-- ---- a run of stores

pub sets_append : (l : List ℕ) (i : ℕ) (xs ys : List ℕ) → sets l i (xs ++ ys) ≡ sets (sets l i xs) (i + length xs) ys
sets_append l i [] ys = let e : i + 0 ≡ i = omega arith in rw e
sets_append l i (x ∷ xs) ys =
    let e : i + suc (length xs) ≡ suc i + length xs = omega arith in rw e (sets_append (set l i x) (suc i) xs ys)

pub sets_two : (l : List ℕ) (i : ℕ) (xs ys : List ℕ) {j : ℕ} → j ≡ i + length xs → sets (sets l i xs) j ys ≡ sets l i (xs ++ ys)
sets_two l i xs ys e = rw e (sym (sets_append l i xs ys))

-- one byte stored, and the rest of them still to be
pub put_on : (bytes out : List ℕ) (from : ℕ) {i : ℕ} → i < length bytes
    → sets (set out (from + i) (get_or bytes i 0)) (from + (i + 1)) (drop (i + 1) bytes) ≡ sets out (from + i) (drop i bytes)
put_on bytes out from {i} h = let e : from + (i + 1) ≡ suc (from + i) = omega arith in rw (drop_on bytes h, e)

-- ---- the contents table

pub length_entries : (at : ℕ) (cs : List ℕ) → length (entries at cs) ≡ 4 * length cs
unfolding entries
length_entries at [] = refl
length_entries at (c ∷ cs) = omega (arith, length_entries (at + c) cs)

-- where the bodies of all these counts end
abbrev pub after : ℕ → List ℕ → ℕ
after at cs = at + sum_to (count_of cs) (length cs)

pub after_cons : (at c : ℕ) (cs : List ℕ) → after at (c ∷ cs) ≡ after (at + c) cs
after_cons at c cs = omega (arith, sum_head (count_of (c ∷ cs)) (length cs))

pub entries_append : (at : ℕ) (cs ds : List ℕ) → entries at (cs ++ ds) ≡ entries at cs ++ entries (after at cs) ds
unfolding entries sum_to
entries_append at [] ds = rw add-zero
entries_append at (c ∷ cs) ds = rw (entries_append (at + c) cs ds, after_cons at c cs)

-- one entry stored, and the rest of them still to be
pub entry_on : (counts out : List ℕ) (at : ℕ) {i c : ℕ} → i < length counts → c ≡ get_or counts i 0
    → sets (sets out (entry_at i) (entries at (c ∷ []))) (entry_at (i + 1)) (entries (at + c) (drop (i + 1) counts))
    ≡ sets out (entry_at i) (entries at (drop i counts))
unfolding entries
entry_on counts out at {i} h e =
    let n : 2 + 4 * (i + 1) ≡ suc (suc (suc (suc (2 + 4 * i)))) = omega arith in
    rw (drop_on counts h, n, e)

-- ---- the whole file

module _ (threads keys : ℕ) (counts operations schedule : List ℕ) (enough : length counts ≡ threads) where
  pub length_table : length (entries (body_at threads) (counts ++ length schedule ∷ [])) ≡ 4 * (threads + 1)
  length_table = omega (arith, length_entries (body_at threads) (counts ++ length schedule ∷ []), length-append counts (length schedule ∷ []))

  pub length_file : length (file_of threads keys counts operations schedule) ≡ body_at threads + length operations + length schedule
  unfolding file_of
  length_file = simp length-append (omega (arith, length_table))

  -- the file stored piece by piece
  pub fill_pieces : sum_to (count_of counts) (length counts) ≡ length operations → (out : List ℕ)
      → sets
      (sets
      (sets (sets (set (set out 0 threads) 1 keys) 2 (entries (body_at (length counts)) counts)) (entry_at (length counts))
      (entries (body_at (length counts) + length operations) (length schedule ∷ [])))
      (body_at (length counts))
      operations)
      (body_at (length counts) + length operations)
      schedule
      ≡ sets out 0 (file_of threads keys counts operations schedule)
  unfolding file_of
  fill_pieces agree out =
      let start = set (set out 0 threads) 1 keys in
      let table = entries (body_at threads) (counts ++ length schedule ∷ []) in
      let whole : entries (body_at threads) counts ++ entries (body_at threads + length operations) (length schedule ∷ []) ≡ table =
      sym (entries_append (body_at threads) counts (length schedule ∷ []) ∙ rw agree) in
      let n₁ : entry_at threads ≡ 2 + length (entries (body_at threads) counts) = omega (arith, length_entries (body_at threads) counts) in
      let n₂ : body_at threads ≡ 2 + length table = omega (arith, length_table) in
      let n₃ : body_at threads + length operations ≡ 2 + length (table ++ operations) = omega (arith, length_table, length-append table operations) in
      rw enough
      (ap (λ (l : List ℕ). sets (sets l (body_at threads) operations) (body_at threads + length operations) schedule)
      (sets_two start 2 (entries (body_at threads) counts) _ n₁ ∙ ap (sets start 2) whole)
      ∙ ap (λ (l : List ℕ). sets l (body_at threads + length operations) schedule) (sets_two start 2 table operations n₂)
      ∙ sets_two start 2 (table ++ operations) schedule n₃)

-- ---- the contents table read back

-- a two-byte number, low byte first: it is its bytes, and two bytes are their number's
pub word_whole : (n : ℕ) → n % 256 + 256 * (n / 256) ≡ n
word_whole n = omega arith

pub word_low : (a b : ℕ) → a < 256 → (a + 256 * b) % 256 ≡ a
word_low a b h = omega arith

pub word_high : (a b : ℕ) → a < 256 → (a + 256 * b) / 256 ≡ b
word_high a b h = omega arith

-- what four bytes say at p
pub entry_read : (l : List ℕ) (p a c : ℕ) (t : List ℕ) → drop p l ≡ a % 256 ∷ a / 256 ∷ c % 256 ∷ c / 256 ∷ t
    → (word_at l p ≡ a) × (word_at l (p + 2) ≡ c)
entry_read l p a c t e =
    let byte : (k : ℕ) → get_or l (p + k) 0 ≡ get_or (a % 256 ∷ a / 256 ∷ c % 256 ∷ c / 256 ∷ t) k 0 =
    λ k. sym (get_or-drop p l k 0) ∙ ap (λ (r : List ℕ). get_or r k 0) e in
    let b₀ : get_or l p 0 ≡ a % 256 = rw add-zero at (byte 0) in
    let b₃ : get_or l (p + 2 + 1) 0 ≡ c / 256 = let s : p + 2 + 1 ≡ p + 3 = omega arith in rw s (byte 3) in
    (rw (b₀, byte 1) (word_whole a), rw (byte 2, b₃) (word_whole c))

-- past i entries of a table the rest of its entries stand
pub table_drop : (at : ℕ) (cs rest : List ℕ) (i : ℕ) → i ≤ length cs
    → drop (4 * i) (entries at cs ++ rest) ≡ entries (at + sum_to (count_of cs) i) (drop i cs) ++ rest
unfolding entries sum_to
table_drop at cs rest zero h = rw add-zero
table_drop at [] rest (suc i) h = absurd (omega arith)
table_drop at (c ∷ cs) rest (suc i) h =
    let n : 4 * suc i ≡ suc (suc (suc (suc (4 * i)))) = omega arith in
    let e : at + sum_to (count_of (c ∷ cs)) (suc i) ≡ at + c + sum_to (count_of cs) i = omega (arith, sum_head (count_of (c ∷ cs)) i) in
    rw (n, e) (table_drop (at + c) cs rest i (omega arith))

module _ (threads keys : ℕ) (counts operations schedule : List ℕ) where
  abbrev pub all_counts : List ℕ
  all_counts = counts ++ length schedule ∷ []

  pub file_drop : (i : ℕ) → i ≤ length all_counts
      → drop (entry_at i) (file_of threads keys counts operations schedule)
      ≡ entries (body_at threads + sum_to (count_of all_counts) i) (drop i all_counts) ++ (operations ++ schedule)
  unfolding file_of
  file_drop i h =
      let n : 2 + 4 * i ≡ suc (suc (4 * i)) = omega arith in
      rw n
      (ap (drop (4 * i)) (append_assoc (entries (body_at threads) all_counts) operations schedule)
      ∙ table_drop (body_at threads) all_counts (operations ++ schedule) i h)

  -- each entry says where its body is, and its count
  pub file_entry : (i : ℕ) → i < length all_counts
      → (offset_in (file_of threads keys counts operations schedule) i ≡ body_at threads + sum_to (count_of all_counts) i)
      × (count_in (file_of threads keys counts operations schedule) i ≡ count_of all_counts i)
  unfolding entries
  file_entry i h =
      entry_read (file_of threads keys counts operations schedule) (entry_at i) (body_at threads + sum_to (count_of all_counts) i) (count_of all_counts i)
      (entries (body_at threads + sum_to (count_of all_counts) i + count_of all_counts i) (drop (i + 1) all_counts) ++ (operations ++ schedule))
      (rw (drop_on all_counts h) at (file_drop i (omega arith)))
