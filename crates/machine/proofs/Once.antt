-- Of each public function, and of `start`: two answers that meet its promise are equal, and so is what was lent afterwards (`κs`: how
-- long what is lent is lent).
use mathlib.Core.Path.{refl, ap}
use seplogic.Ra.Ura.{Ura}
use base.Logic.{SProp}
use prog.Memory.{Memory}
use prog.Routine.{Routine}
use types.Logic.{Logic}
use contract.Lifetimes.{Lfts}
use contract.Monad.{Fun}
use Rattle.terms.proofs.Once.{Once, once}
use Rattle.figures.specs.declared.Machine.{Machine}
use Rattle.figures.proofs.Machine.start.Reads as start
use Rattle.lending.proofs.Once.{OnceOver, both_facts}
use Rattle.machine.specs.declared.Rest.{Rest}
use Rattle.machine.specs.Parts.{rest_of}
use Rattle.machine.specs.contracts.Rest.decided as decided
use Rattle.machine.specs.contracts.step_lent as step_lent
use Rattle.machine.specs.contracts.play_lent as play_lent
use Rattle.machine.proofs.rest_of.Reads as rest
use Rattle.machine.proofs.whole_of.Reads as whole
use Rattle.machine.proofs.Rest.asked.Reads as asked
use Rattle.machine.proofs.step.Reads as step
use Rattle.machine.proofs.play.Reads as play

pub start_once : (κs : Lfts 1) → Once (start.Post κs)
start_once κs a r s e d p q = once p q

pub rest_of_once : Once (rest.Post tt)
rest_of_once a r s e d p q = once p q

pub whole_of_once : Once (whole.Post tt)
whole_of_once a r s e d p q = once p q

pub asked_once : (κs : Lfts 1) → Once (asked.Post κs)
asked_once κs a r s e d p q = once p q

pub step_once : Once (step.Post tt)
step_once a r s e d p q = once p q

pub play_once : (κs : Lfts 1) → Once (play.Post κs)
play_once κs a r s e d p q = once p q

module _ {M : Type 1} {𝓤 : Ura M} (𝓛 : Logic 𝓤) (mem : Memory → SProp 𝓤) (run : Routine → Fun 𝓤) where
  pub decided_once : OnceOver 𝓤 decided.ended (decided.clauses 𝓛 mem run)
  decided_once κs a g r s ws vs = both_facts 𝓤 (λ p q. (refl, ap (λ (m : Rest). (m, (tt, (tt, tt)))) (once p q)))

  -- a machine tells its rest, its counters and its table
  pub step_lent_once : OnceOver 𝓤 step_lent.ended (step_lent.clauses 𝓛 mem run)
  step_lent_once κs a g r s ws vs =
      both_facts 𝓤 (λ p q. (refl, ap (λ (m : Machine). (m.calculator.snapshots, (m.calculator.counters, (rest_of m, (tt, tt))))) (once p q)))

  pub play_lent_once : OnceOver 𝓤 play_lent.ended (play_lent.clauses 𝓛 mem run)
  play_lent_once κs a g r s ws vs =
      both_facts 𝓤 (λ p q. (refl, ap (λ (m : Machine). (m.calculator.snapshots, (m.calculator.counters, (rest_of m, (tt, tt))))) (once p q)))
