-- Laws of the plain set: membership, removal and length, by how many times a key stands in the list.
use mathlib.Core.Path.{◌≡◌, refl, sym, ◌∙◌}
use mathlib.Core.Logic.{◌≢◌}
use mathlib.Core.Bool.{Bool, true, false, ◌&&◌}
use mathlib.Core.List.{List, [], ◌∷◌}
use Prim.Native.Nat.{ℕ, ◌+◌, ◌<◌}
use native.Mathlib.Omega.{arith}
use lib.Dec.{eqb}
use lib.ListN.{length}
use borrow.Author.Tests.{eqb-true, eq-eqb, ne_eqb}
use Rattle.history.specs.Tally.{times}
use Rattle.history.specs.PlainSet.{member, without, bit}
use Rattle.history.proofs.Split.{split, same?}

pub absent : (k : ℕ) (set : List ℕ) → times k set ≡ 0 → member k set ≡ false
unfolding times member
absent k [] h = refl
absent k (x ∷ set) h =
    split (eqb k x) (λ e. absurd (omega (arith, rw e at h))) (λ e. rw e (absent k set (omega (arith, rw e at h))))

pub present : (k : ℕ) (set : List ℕ) → 0 < times k set → member k set ≡ true
unfolding times member
present k [] h = absurd (omega arith)
present k (x ∷ set) h = split (eqb k x) (λ e. rw e) (λ e. rw e (present k set (omega (arith, rw e at h))))

gone : (k : ℕ) (set : List ℕ) → times k (without k set) ≡ 0
unfolding times without
gone k [] = refl
gone k (x ∷ set) = split (eqb k x) (λ e. rw e (gone k set)) (λ e. rw (e, e) (omega (arith, gone k set)))

kept : (j k : ℕ) (set : List ℕ) → j ≢ k → times j (without k set) ≡ times j set
unfolding times without
kept j k [] d = refl
kept j k (x ∷ set) d =
    let r = kept j k set d in
    split (eqb k x) (λ e. rw (e, ne_eqb j x (λ i. d (i ∙ sym (eqb-true k x e)))) (omega arith)) (λ e. rw e (omega arith))

-- what stands in the list after key k is taken out, that stood there once or not at all
pub times_without : (j k : ℕ) (there : Bool) (set : List ℕ) → times k set ≡ bit there → times j (without k set) + bit (eqb j k && there) ≡ times j set
times_without j k there set h =
    same? j k (λ e. rw (e, eq-eqb k k refl) (omega (arith, gone k set))) (λ e. rw (ne_eqb j k e) (omega (arith, kept j k set e)))

pub length_without : (k : ℕ) (set : List ℕ) → length (without k set) + times k set ≡ length set
unfolding times without
length_without k [] = refl
length_without k (x ∷ set) =
    let r = length_without k set in split (eqb k x) (λ e. rw e (omega arith)) (λ e. rw e (omega arith))
