-- Each accepted file is what the writer makes of its contents.
use Prim.Native.Nat.{ℕ, zero, suc, ◌+◌, ◌-◌, ◌*◌, ◌/◌, ◌%◌, ◌<◌, ◌≤◌}
use mathlib.Core.Path.{◌≡◌, sym, ap, subst, ◌∙◌}
use mathlib.Core.Bool.{true}
use mathlib.Core.List.{List, [], ◌∷◌, ◌++◌, append_assoc}
use mathlib.Core.Logic.{inl, inr}
use native.Mathlib.Omega.{arith}
use native.Mathlib.Nat.{add-zero}
use lib.ListN.{length, get_or, take, drop, replicate, length-drop, take-append-drop}
use lib.Seq.{take_all, take_at, drop-drop, get_or-take, get_or-drop, length-take-le}
use borrow.Author.Tests.{ltb-true, lt-ltb}
use Rattle.figures.specs.Limits.{most_threads, most_keys}
use Rattle.runfile.specs.Rows.{sum_to, list_from}
use Rattle.runfile.specs.Layout.{word_at, entry_at, body_at, offset_in, count_in, count_of, operation_right, step_right, entries, file_of}
use Rattle.runfile.specs.Read.{threads_in, keys_in, operations_in, steps_in, schedule_in, counts_in, accepted, read_of}
use Rattle.runfile.specs.Write.{write_of}
use Rattle.runfile.specs.Accepts.{Accepts}
use Rattle.runfile.specs.Contents.{part, Bytes, Remade}
use Rattle.runfile.specs.declared.Reading.{Reading}
use Rattle.runfile.proofs.Laws.{true_false, sum_same, sum_on, list_at, list_snoc, length_list}
use Rattle.runfile.proofs.Rows.{none_of}
use Rattle.runfile.proofs.Operations.{allowed_is}
use Rattle.runfile.proofs.File.{drop_on, word_low, word_high}
use Rattle.runfile.proofs.Table.{outside_is, write_decides}
use Rattle.runfile.proofs.Accepts.{by, reads_accepted, offsets_right, facts}
use Rattle.runfile.specs.Table.{Unwritable, writing_order, threads_bad, keys_bad, lists_disagree, operations_over, steps_over, operation_bad, step_bad, room_small}
use Rattle.runfile.specs.declared.Refusal.{Refusal}
use Rattle.runfile.specs.declared.Refusal.TheVariants.{Threads, Keys}
use Rattle.runfile.proofs.Writer.{writer_passes, write_passes, file_passes}

-- four bytes are the two numbers that they are read as
entry_bytes : (l : List ℕ) (p : ℕ) → Bytes l → p + 4 ≤ length l
    → drop p l
    ≡ word_at l p % 256 ∷ word_at l p / 256 ∷ word_at l (p + 2) % 256 ∷ word_at l (p + 2) / 256 ∷ drop (p + 4) l
entry_bytes l p bytes h =
    let d : (k : ℕ) → k < 4 → drop (p + k) l ≡ get_or l (p + k) 0 ∷ drop (p + (k + 1)) l =
    λ k u. let e : p + (k + 1) ≡ p + k + 1 = omega arith in rw e (drop_on l (omega arith)) in
    let d₀ : drop p l ≡ get_or l p 0 ∷ drop (p + 1) l = drop_on l (omega arith) in
    let s : p + 2 + 1 ≡ p + 3 = omega arith in
    d₀
    ∙ rw (d 1 (omega arith), d 2 (omega arith), d 3 (omega arith), s, word_low (get_or l p 0) (get_or l (p + 1) 0) (bytes p), word_high (get_or l p 0) (get_or l (p + 1) 0) (bytes p), word_low (get_or l (p + 2) 0) (get_or l (p + 3) 0) (bytes (p + 2)), word_high (get_or l (p + 2) 0) (get_or l (p + 3) 0) (bytes (p + 2)))

module _ (f : List ℕ) (bytes : Bytes f) (zero-told : (read_of f).number ≡ 0) where
  holds : Accepts f (accepted f)
  holds = facts f zero-told

  operations_of_lem : List ℕ
  operations_of_lem = part (body_at (threads_in f)) (operations_in f) f

  schedule_of_lem : List ℕ
  schedule_of_lem = part (schedule_in f) (steps_in f) f

  -- the last n entries before the bodies
  table_made : (n i : ℕ) → i + n ≡ threads_in f + 1
      → drop (entry_at i) f ≡ entries (body_at (threads_in f) + sum_to (count_in f) i) (list_from (count_in f) n i) ++ drop (body_at (threads_in f)) f
  unfolding entries list_from
  table_made zero i e = let q : i ≡ threads_in f + 1 = omega arith in rw q
  table_made (suc n) i e =
      let rest = table_made n (i + 1) (omega arith) in
      let p : 2 + 4 * i + 4 ≡ 2 + 4 * (i + 1) = omega arith in
      let at : offset_in f i ≡ body_at (threads_in f) + sum_to (count_in f) i = offsets_right f zero-told i (omega arith) in
      let next : body_at (threads_in f) + sum_to (count_in f) i + count_in f i ≡ body_at (threads_in f) + sum_to (count_in f) (i + 1) =
      omega (arith, sum_on (count_in f) i) in
      entry_bytes f (entry_at i) bytes (omega (arith, holds.schedule_next, holds.file_ends))
      ∙ rw (p, at, rest, next)

  bodies : drop (body_at (threads_in f)) f ≡ operations_of_lem ++ schedule_of_lem
  unfolding operations_of_lem schedule_of_lem
  bodies =
      sym (take-append-drop (operations_in f) (drop (body_at (threads_in f)) f))
      ∙ ap (λ (l : List ℕ). operations_of_lem ++ l)
      (drop-drop (operations_in f) (body_at (threads_in f)) f
      ∙ ap (λ (n : ℕ). drop n f) holds.schedule_next
      ∙ sym (take_all (steps_in f) (drop (schedule_in f) f) (rw length-drop (omega (arith, holds.file_ends)))))

  steps_length : length schedule_of_lem ≡ steps_in f
  unfolding schedule_of_lem
  steps_length = length-take-le (steps_in f) (drop (schedule_in f) f) (rw length-drop (omega (arith, holds.file_ends)))

  operations_length : length operations_of_lem ≡ operations_in f
  unfolding operations_of_lem
  operations_length =
      length-take-le (operations_in f) (drop (body_at (threads_in f)) f)
      (rw length-drop (omega (arith, holds.schedule_next, holds.file_ends)))

  file_made : file_of (threads_in f) (keys_in f) (counts_in f) operations_of_lem schedule_of_lem ≡ f
  unfolding file_of sum_to
  file_made =
      let all : counts_in f ++ length schedule_of_lem ∷ [] ≡ list_from (count_in f) (threads_in f + 1) 0 =
      let z : 0 + threads_in f ≡ threads_in f = omega arith in
      rw steps_length (sym (list_snoc (count_in f) (threads_in f) 0 ∙ rw z)) in
      let head : f ≡ threads_in f ∷ keys_in f ∷ drop 2 f =
      drop_on f {i = 0} (omega (arith, holds.schedule_next, holds.file_ends))
      ∙ ap (λ (l : List ℕ). threads_in f ∷ l) (drop_on f {i = 1} (omega (arith, holds.schedule_next, holds.file_ends))) in
      let table : drop 2 f ≡ entries (body_at (threads_in f)) (list_from (count_in f) (threads_in f + 1) 0) ++ drop (body_at (threads_in f)) f =
      rw add-zero at (table_made (threads_in f + 1) 0 (omega arith)) in
      ap (λ (l : List ℕ). threads_in f ∷ keys_in f ∷ l)
      (append_assoc (entries (body_at (threads_in f)) (counts_in f ++ length schedule_of_lem ∷ [])) operations_of_lem schedule_of_lem
      ∙ rw (all, ← bodies, table))
      ∙ sym head

  sum_made : sum_to (count_of (counts_in f)) (length (counts_in f)) ≡ length operations_of_lem
  sum_made =
      rw length_list
      (sum_same (count_of (counts_in f)) (count_in f) (threads_in f)
      (λ i h. list_at (count_in f) (threads_in f) 0 i h ∙ ap (count_in f) (omega arith))
      ∙ sym operations_length)

  operation_byte : (j : ℕ) → j < length operations_of_lem → operation_right (keys_in f) operations_of_lem j ≡ true
  unfolding operations_of_lem
  operation_byte j h =
      let l = operations_length in
      rw (get_or-take (operations_in f) (drop (body_at (threads_in f)) f) j 0 (omega arith), get_or-drop (body_at (threads_in f)) f j 0)
      (holds.operations_allowed (body_at (threads_in f) + j) (omega arith) (omega (arith, holds.schedule_next)))

  step_byte : (j : ℕ) → j < length schedule_of_lem → step_right (threads_in f) schedule_of_lem j ≡ true
  unfolding schedule_of_lem
  step_byte j h =
      let l = steps_length in
      rw (get_or-take (steps_in f) (drop (schedule_in f) f) j 0 (omega arith), get_or-drop (schedule_in f) f j 0)
      (lt-ltb _ _ (holds.steps_named (schedule_in f + j) (omega arith) (omega (arith, holds.file_ends))))

  -- ---- the writer takes these contents: no row of its table holds of them

  module _ (room : ℕ) (enough : length f ≤ room) where
    no_row : {r : Refusal} {p : ℕ} → Unwritable (threads_in f) (keys_in f) (counts_in f) operations_of_lem schedule_of_lem room r p → ⊥
    no_row (threads_bad h) = true_false (sym ((outside_is (threads_in f) most_threads).1 h) ∙ by f zero-told Threads)
    no_row (keys_bad h) = true_false (sym ((outside_is (keys_in f) most_keys).1 h) ∙ by f zero-told Keys)
    no_row (lists_disagree (inl h)) = h (length_list (count_in f) (threads_in f) 0)
    no_row (lists_disagree (inr h)) = h sum_made
    no_row (operations_over h) = omega (arith, operations_length, holds.operations_few)
    no_row (steps_over h) = omega (arith, steps_length, holds.steps_few)
    no_row (operation_bad {p = p} h w) = h.2 ((allowed_is (keys_in f) (get_or operations_of_lem p 0)).0 (operation_byte p h.1))
    no_row (step_bad {p} h) = h.2 (ltb-true (get_or schedule_of_lem p 0) (threads_in f) (step_byte p h.1))
    no_row (room_small h) = omega (arith, ap length file_made)

    writer_takes : (write_of (threads_in f) (keys_in f) (counts_in f) operations_of_lem schedule_of_lem room).number ≡ 0
    writer_takes =
        (write_decides (threads_in f) (keys_in f) (counts_in f) operations_of_lem schedule_of_lem room).accepts.1
        (none_of (Unwritable (threads_in f) (keys_in f) (counts_in f) operations_of_lem schedule_of_lem room) (λ r p. no_row) writing_order)

  counts_taken : take (threads_in f) (counts_in f ++ replicate (most_threads - threads_in f) 0) ≡ counts_in f
  counts_taken = take_at (counts_in f) (replicate (most_threads - threads_in f) 0) (threads_in f) (length_list (count_in f) (threads_in f) 0)

  accepted_remade : (room : ℕ) → length f ≤ room → Remade f (accepted f) room
  unfolding operations_of_lem schedule_of_lem
  accepted_remade room h =
      let passes = writer_passes (threads_in f) (keys_in f) (counts_in f) operations_of_lem schedule_of_lem room (writer_takes room h) in
      record {
        answer = rw counts_taken (write_passes (threads_in f) (keys_in f) (counts_in f) operations_of_lem schedule_of_lem room passes ∙ rw file_made);
        file = rw counts_taken (file_passes (threads_in f) (keys_in f) (counts_in f) operations_of_lem schedule_of_lem room passes ∙ file_made);
      }

  -- an accepted file, taken apart by reading, is made again by writing
  pub remade : (room : ℕ) → length f ≤ room → Remade f (read_of f) room
  remade room h = subst (λ (r : Reading). Remade f r room) (sym (reads_accepted f zero-told)) (accepted_remade room h)
