-- What a turn does to the results: five numbers more.
use Rattle.std.proofs.Common.{◌≡◌, refl, ℕ, zero, ◌+◌, ◌-◌, ◌*◌, ◌≤◌, ◌<◌, suc, List, [], ◌∷◌, length, get_or, drop, sym, ap, ◌∙◌, arith, add-one, append_assoc, take}
use Rattle.std.proofs.lemmas.List.{drop-drop}
use Rattle.std.proofs.lemmas.List.Edits.{sets, sets-eq}
use borrow.Rule.Slice.PartMut.{put_mid}
use lib.Seq.{drop-cons, drop-length}
use Rattle.figures.specs.declared.Outcome.{Outcome}
use Rattle.figures.specs.declared.Record.{Record}
use Rattle.figures.specs.Step.{no_record}
use Rattle.play.specs.Run.{per_operation, fives_of}

abbrev pub five_of : Outcome → List ℕ
five_of w = w.answer ∷ w.first ∷ w.last ∷ w.own ∷ w.raiser ∷ []

-- the part from `at` on is five numbers, and these are set there
part_sets : (l : List ℕ) (at : ℕ) (w : Outcome) → at + 5 ≤ length l → put_mid at (at + 5 - at) l (five_of w) ≡ sets l at (five_of w)
part_sets l at w h =
    let five : at + 5 - at ≡ 5 = omega arith in
    rw (five, drop-drop) (sym (sets-eq (five_of w) l at h ∙ append_assoc (take at l) (five_of w) _))

pub fives_on : (rs : List Record) (l : List ℕ) (i : ℕ) → i < length rs → per_operation * i + 5 ≤ length l
    → sets (put_mid (per_operation * i) (per_operation * i + 5 - per_operation * i) l (five_of (get_or rs i no_record).outcome)) (per_operation * (i + 1)) (fives_of (drop (i + 1) rs))
    ≡ sets l (per_operation * i) (fives_of (drop i rs))
unfolding fives_of
fives_on rs l i h k =
    let next : per_operation * (i + 1) ≡ suc (suc (suc (suc (suc (per_operation * i))))) = omega arith in
    rw (part_sets l (per_operation * i) (get_or rs i no_record).outcome k, next, add-one i, drop-cons rs i no_record h)

pub fives_end : (rs : List Record) (l : List ℕ) (i : ℕ) → i ≡ length rs → sets l (per_operation * i) (fives_of (drop i rs)) ≡ l
unfolding fives_of
fives_end rs l i e =
    let d : drop i rs ≡ [] = ap (λ (j : ℕ). drop j rs) e ∙ drop-length rs in
    rw d

-- the fifth number of an operation is its record's raiser
pub fifth_at : (rs : List Record) (o : ℕ) → o < length rs → get_or (fives_of rs) (per_operation * o + 4) 0 ≡ (get_or rs o no_record).outcome.raiser
unfolding fives_of
fifth_at [] o h = absurd (omega arith)
fifth_at (r ∷ rs) zero h = refl
fifth_at (r ∷ rs) (suc o) h =
    let e : per_operation * suc o + 4 ≡ suc (suc (suc (suc (suc (per_operation * o + 4))))) = omega arith in
    rw e (fifth_at rs o (omega arith))
