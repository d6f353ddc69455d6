-- What a run tells is the first row, in the order of `running_order`, that holds: of the rows that reading has, and last of the room that
-- is lent. The law is over any lack of room, so that a run over a lent table cites it too.
use Prim.Native.Nat.{ℕ}
use mathlib.Core.Path.{◌≡◌, refl, sym, subst, ◌∙◌}
use mathlib.Core.Bool.{Bool, cond}
use mathlib.Core.List.{List}
use lib.Dec.{eqb}
use Rattle.runfile.specs.Read.{read_of}
use Rattle.runfile.specs.Table.{Decides, Unplayable, running_order}
use Rattle.runfile.proofs.Table.{run_after, run_decides}
use Rattle.play.specs.declared.Told.{Told}
use Rattle.play.specs.Run.{refused, ran, too_small, told_of}

pub tells_decides : (f : List ℕ) (small : Bool) (told : Told)
    → told ≡ cond (eqb (read_of f).number 0) (cond small (refused 11 0) (ran f)) (refused (read_of f).number (read_of f).place)
    → Decides (Unplayable f small) running_order told.number told.place
tells_decides f small told e =
    subst (λ (t : Told). Decides (Unplayable f small) running_order t.number t.place) (run_after f small refused (ran f) ∙ sym e)
    (run_decides f small refused (ran f) (λ t. t.number) (λ t. t.place) refl (λ n p. refl) (λ n p. refl))

pub told_decides : (f : List ℕ) (results log : ℕ)
    → Decides (Unplayable f (too_small f results log)) running_order (told_of f results log).number (told_of f results log).place
told_decides f results log = tells_decides f (too_small f results log) (told_of f results log) refl
