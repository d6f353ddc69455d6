-- Two answers that meet a promise are equal, and so is what they leave in a lent buffer: a promise says that it is what a
-- definition gives. Stated over a function's own contract `Post`, at any arguments and any ends of what the function was lent.
use mathlib.Core.Path.{◌≡◌, sym, ◌∙◌}

pub once : {A : Type 0} {d r s : A} → r ≡ d → s ≡ d → r ≡ s
once p q = p ∙ sym q

-- the answer
abbrev pub Once : {A R E : Type 0} → (A → R → E → Type 0) → Type 0
Once {A} {R} {E} Post = (a : A) (r s : R) (e d : E) → Post a r e → Post a s d → r ≡ s

-- what a lent buffer holds after; `end` takes it out of the ends
abbrev pub Ends : {A R E B : Type 0} → (E → B) → (A → R → E → Type 0) → Type 0
Ends {A} {R} {E} end Post = (a : A) (r s : R) (e d : E) → Post a r e → Post a s d → end e ≡ end d
