-- Of each public function: two answers that meet its promise are equal, and so is what was lent afterwards.
use mathlib.Core.Path.{refl, ap, ◌∙◌}
use mathlib.Core.List.{List}
use seplogic.Ra.Ura.{Ura}
use base.Logic.{SProp}
use prog.Memory.{Memory}
use prog.Routine.{Routine}
use types.Logic.{Logic}
use contract.Monad.{Fun}
use Rattle.figures.specs.declared.Counts.{Counts}
use Rattle.figures.specs.declared.Snapshot.{Snapshot}
use Rattle.terms.proofs.Once.{Once, once}
use Rattle.lending.proofs.Once.{OnceOver, both_facts}
use Rattle.lending.specs.contracts.count as count
use Rattle.lending.specs.contracts.raise as raise
use Rattle.lending.proofs.no_snapshot.Reads as no-snapshot
use Rattle.lending.specs.contracts.read as read
use Rattle.lending.specs.contracts.exchange as exchange
use Rattle.lending.specs.contracts.perform as perform

pub no_snapshot_once : Once (no-snapshot.Post tt)
no_snapshot_once a r s e d p q = once p q

module _ {M : Type 1} {𝓤 : Ura M} (𝓛 : Logic 𝓤) (mem : Memory → SProp 𝓤) (run : Routine → Fun 𝓤) where
  pub count_once : OnceOver 𝓤 count.ended (count.clauses 𝓛 mem run)
  count_once κs a g r s ws vs = both_facts 𝓤 (λ p q. (once p q, refl))

  pub raise_once : OnceOver 𝓤 raise.ended (raise.clauses 𝓛 mem run)
  raise_once κs a g r s ws vs = both_facts 𝓤 (λ p q. (once p.0 q.0, ap (λ (l : List Counts). (l, (tt, (tt, tt)))) (once p.1 q.1)))

  pub read_once : OnceOver 𝓤 read.ended (read.clauses 𝓛 mem run)
  read_once κs a g r s ws vs = both_facts 𝓤 (λ p q. (once p q, refl))

  pub exchange_once : OnceOver 𝓤 exchange.ended (exchange.clauses 𝓛 mem run)
  exchange_once κs a g r s ws vs = both_facts 𝓤 (λ p q. (once p.0 q.0, ap (λ (l : List Snapshot). (l, (tt, (tt, tt)))) (once p.1 q.1)))

  pub perform_once : OnceOver 𝓤 perform.ended (perform.clauses 𝓛 mem run)
  perform_once κs a g r s ws vs = both_facts 𝓤 (λ p q. (
    once p.0 q.0,
    ap (λ (b : List Counts). (ws.0, (b, (tt, tt)))) (once p.1 q.1) ∙ ap (λ (t : List Snapshot). (t, (vs.1.0, (tt, tt)))) (once p.2 q.2),
  ))
