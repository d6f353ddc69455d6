-- What is read of the start of an input is what is read of the whole.
use Rattle.std.proofs.Common.{◌≡◌, ◌+◌, ℕ, List, [], ◌++◌, take, ap, subst, ◌∙◌, IfSome, Some, None, Option, option_map}
use Rattle.runfile.specs.Contents.{longest}
use Rattle.runfile.specs.Read.{read_of}
use Rattle.runfile.proofs.Bounded.{kept_same}

module _ (kept before : List ℕ) (limit : ℕ) (none : before ≡ []) (most : limit ≡ longest + 1) where
  -- of the bytes that a reader has left, as many as the limit allows stand behind what was there, which is nothing
  limited : (known : Option (List ℕ)) → IfSome (option_map (take limit) known) (λ xs. kept ≡ before ++ xs) → IfSome known (λ whole. kept ≡ take (longest + 1) whole)
  limited None h = h
  limited (Some whole) h = h ∙ ap (λ xs. xs ++ take limit whole) none ∙ ap (λ n. take n whole) most

  pub start_kept : (left known : Option (List ℕ)) → left ≡ option_map (take limit) known → IfSome left (λ xs. kept ≡ before ++ xs) → IfSome known (λ whole. kept ≡ take (longest + 1) whole)
  start_kept left known is h =
      let P : Option (List ℕ) → Type 0 = λ o. IfSome o (λ xs. kept ≡ before ++ xs) in
      limited known (subst P is h)

pub start_same : (known : Option (List ℕ)) (kept : List ℕ) → IfSome known (λ whole. kept ≡ take (longest + 1) whole) → IfSome known (λ whole. read_of kept ≡ read_of whole)
start_same None kept h = h
start_same (Some whole) kept h = ap read_of h ∙ kept_same whole
