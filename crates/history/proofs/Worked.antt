-- Small logs worked out: an order, a play that is right, and plays and courses that are shut out.
use mathlib.Core.Path.{◌≡◌, refl}
use mathlib.Core.Bool.{true, false}
use mathlib.Core.List.{List, [], ◌∷◌}
use Prim.Native.Nat.{ℕ}
use native.Mathlib.Omega.{arith}
use lib.ListN.{get_or}
use Rattle.history.specs.PlainSet.{Ask, insert, delete, contains, size, member, without}
use Rattle.history.specs.Play.{Op, Legal}
use Rattle.history.specs.Places.{place}
use Rattle.history.specs.Courses.{Course}
use Rattle.history.specs.Demand.{Demand}
use Rattle.history.proofs.Split.{clash}
use Rattle.history.specs.Order.{log, log_from, least_among, nearer, above, closer}

op : List Op → ℕ → Op
op all o = get_or all o (record { ask = size; returned = false; answer = 0 })

did : Ask → ℕ → Op
did ask answer = record { ask = ask; returned = true; answer = answer }

pends : Ask → Op
pends ask = record { ask = ask; returned = false; answer = 0 }

-- operation 1 is not listed; the others stand by their places
ordered : log 4 (λ o. get_or (true ∷ false ∷ true ∷ true ∷ []) o false) (λ o. get_or (9 ∷ 1 ∷ 4 ∷ 7 ∷ []) o 0) ≡ 2 ∷ 3 ∷ 0 ∷ []
unfolding log_from least_among nearer above closer
ordered = refl

right : Legal (op (pends (insert 7) ∷ did (insert 7) 0 ∷ did size 1 ∷ did (delete 7) 1 ∷ did (contains 7) 0 ∷ [])) [] (0 ∷ 1 ∷ 2 ∷ 3 ∷ 4 ∷ [])
unfolding op did pends Legal member without
right = (refl, (refl, (refl, (refl, (refl, tt)))))

-- two unfinished inserts of one key cannot both succeed
unfinished : Legal (op (pends (insert 7) ∷ pends (insert 7) ∷ [])) [] (0 ∷ 1 ∷ []) → ⊥
unfolding op pends Legal member
unfinished l = let e = l.1.0 in omega arith

-- a size that misses a member
short : Legal (op (did (insert 7) 1 ∷ did size 0 ∷ [])) [] (0 ∷ 1 ∷ []) → ⊥
unfolding op did Legal member
short l = let e = l.1.0 in omega arith

-- an insert of steps 2 to 4 that stands at step s
stood : ℕ → Course
stood s = record { ask = insert 7; first = 2; last = 4; answer = 1; changed = true; place = place s 1 s 0 }

early : Demand 1 (λ o. stood 1) → ⊥
unfolding stood
early d = let e = (d.spans 0 (omega arith) refl).begun in omega arith

late : Demand 1 (λ o. stood 5) → ⊥
unfolding stood
late d = let e = (d.spans 0 (omega arith) refl).ended refl in omega arith

-- a contains that is said to have changed the set
changing : Demand 1 (λ o. record { ask = contains 7; first = 2; last = 0; answer = 0; changed = true; place = place 3 1 3 0 }) → ⊥
changing d = clash false (d.changes 0 (omega arith) refl) refl
