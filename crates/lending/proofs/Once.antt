-- Uniqueness of what a contract promises, said of its clauses, over a model. Ensured of two
-- answers and of two last values of what was lent, it says that the answers are equal and the last values are.
use mathlib.Core.Path.{◌≡◌}
use seplogic.Ra.Ura.{Ura}
use base.Logic.{SProp, ent, sep, id⊢, via, fst∗, snd∗}
use contract.Lifetimes.{Lfts}
use contract.Monad.{fact, fact_i, fact_use}
use denote.Triple.Entry.{Args, Res}
use denote.Triple.Clauses.{Clauses, Ended, Lasts, at_exit}

module _ {M : Type 1} (𝓤 : Ura M) (T : Ended) (c : Clauses 𝓤 T) where
  abbrev pub OnceOver : Type 1
  OnceOver = (κs : Lfts T.signature.lifetimes) (a : Args T.signature κs) (g : (c κs a).ghost) (r s : Res T.signature κs) (ws vs : Lasts T κs a)
      → ent 𝓤 (sep 𝓤 ((c κs a).ensures g r (at_exit T κs a ws)) ((c κs a).ensures g s (at_exit T κs a vs))) (fact 𝓤 ((r ≡ s) × (ws ≡ vs)))

module _ {M : Type 1} (𝓤 : Ura M) where
  -- what says two facts says a third
  pub both_say : {P Q : SProp 𝓤} {φ ψ χ : Type 0} → ent 𝓤 P (fact 𝓤 φ) → ent 𝓤 Q (fact 𝓤 ψ) → (φ → ψ → χ) → ent 𝓤 (sep 𝓤 P Q) (fact 𝓤 χ)
  both_say {P} {Q} {φ} {ψ} {χ} p q f = fact_use 𝓤 φ (via 𝓤 P (fst∗ 𝓤 P Q) p) (λ x. fact_use 𝓤 ψ (via 𝓤 Q (snd∗ 𝓤 P Q) q) (λ y. fact_i 𝓤 χ (sep 𝓤 P Q) (f x y)))

  pub both_facts : {φ ψ χ : Type 0} → (φ → ψ → χ) → ent 𝓤 (sep 𝓤 (fact 𝓤 φ) (fact 𝓤 ψ)) (fact 𝓤 χ)
  both_facts {φ} {ψ} = both_say (id⊢ 𝓤 (fact 𝓤 φ)) (id⊢ 𝓤 (fact 𝓤 ψ))
