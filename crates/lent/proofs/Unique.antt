-- Of each public function: two answers that meet its promise are equal, and so is what was lent afterwards; and where a lent run is not refused,
-- what it hands back is what `run` hands back.
use Prim.Native.Nat.{ℕ}
use mathlib.Core.Path.{◌≡◌, refl, sym, ap, ◌∙◌}
use mathlib.Core.Bool.{Bool, true, false, cond}
use mathlib.Core.List.{List}
use lib.ListN.{length}
use lib.Seq.{sets}
use lib.Dec.{eqb}
use seplogic.Ra.Ura.{Ura}
use base.Logic.{SProp, ent, sep, id⊢, fst∗}
use prog.Memory.{Memory}
use prog.Routine.{Routine}
use types.Logic.{Logic}
use contract.Monad.{Fun, fact}
use Rattle.terms.proofs.Once.{once}
use Rattle.figures.specs.declared.Snapshot.{Snapshot}
use Rattle.machine.specs.declared.Rest.{Rest}
use Rattle.runfile.specs.Read.{read_of}
use Rattle.play.specs.declared.Told.{Told}
use Rattle.play.specs.Run.{results_of, entries_of, number_of, told_of, refused, ran, when}
use Rattle.play.proofs.Decided.{is_written}
use Rattle.play.proofs.Answers.{told_once}
use Rattle.lending.proofs.Once.{OnceOver, both_say}
use Rattle.lent.specs.Runs.{lent_small, lent_number, lent_told}
use Rattle.lent.proofs.LentRun.{same_number, same_told}
use Rattle.lent.specs.contracts.run_over as over
use Rattle.lent.specs.contracts.run as run
use Rattle.lent.specs.contracts.pszenorad_run_lent as run_lent

the : (A : Type 0) → A → A
the A a = a

two_facts : {M : Type 1} (𝓤 : Ura M) {φ ψ : Type 0} → ent 𝓤 (sep 𝓤 (fact 𝓤 φ) (fact 𝓤 ψ)) (fact 𝓤 (φ × ψ))
two_facts 𝓤 {φ} {ψ} = both_say 𝓤 (id⊢ 𝓤 (fact 𝓤 φ)) (id⊢ 𝓤 (fact 𝓤 ψ)) (λ (a : φ) (b : ψ). the (φ × ψ) (a, b))

-- the first four of five clauses
four_facts : {M : Type 1} (𝓤 : Ura M) {φ ψ χ ω α : Type 0}
    → ent 𝓤 (sep 𝓤 (fact 𝓤 φ) (sep 𝓤 (fact 𝓤 ψ) (sep 𝓤 (fact 𝓤 χ) (sep 𝓤 (fact 𝓤 ω) (fact 𝓤 α))))) (fact 𝓤 (φ × ψ × χ × ω))
four_facts 𝓤 {φ} {ψ} {χ} {ω} {α} =
    both_say 𝓤 (id⊢ 𝓤 (fact 𝓤 φ))
    (both_say 𝓤 (id⊢ 𝓤 (fact 𝓤 ψ))
    (both_say 𝓤 (id⊢ 𝓤 (fact 𝓤 χ)) (fst∗ 𝓤 (fact 𝓤 ω) (fact 𝓤 α)) (λ (c : χ) (d : ω). the (χ × ω) (c, d)))
    (λ (b : ψ) (c : χ × ω). the (ψ × χ × ω) (b, c.0, c.1)))
    (λ (a : φ) (b : ψ × χ × ω). (a, b.0, b.1, b.2))

module _ {M : Type 1} {𝓤 : Ura M} (𝓛 : Logic 𝓤) (mem : Memory → SProp 𝓤) (routine : Routine → Fun 𝓤) where
  pub run_over_once : OnceOver 𝓤 over.ended (over.clauses 𝓛 mem routine)
  run_over_once κs a g r s ws vs =
      both_say 𝓤 (two_facts 𝓤) (two_facts 𝓤) (λ p q. (
        refl,
        ap (λ (l : List Snapshot). (l, (ws.1.0, (tt, tt)))) (once p.1 q.1) ∙ ap (λ (m : Rest). (vs.0, (m, (tt, tt)))) (once p.0 q.0),
      ))

  pub run_once : OnceOver 𝓤 run.ended (run.clauses 𝓛 mem routine)
  run_once κs a g r s ws vs =
      both_say 𝓤 (four_facts 𝓤) (four_facts 𝓤) (λ p q. (
        told_once r s (once p.0 q.0),
        ap (λ (l : List ℕ). (tt, (l, (ws.1.1.0, (ws.1.1.1.0, tt))))) (once p.1 q.1)
            ∙ ap (λ (l : List ℕ). (tt, (vs.1.0, (l, (ws.1.1.1.0, tt))))) (once p.2 q.2)
            ∙ ap (λ (l : List Snapshot). (tt, (vs.1.0, (vs.1.1.0, (l, tt))))) (once p.3 q.3),
      ))

  pub run_lent_once : OnceOver 𝓤 run_lent.ended (run_lent.clauses 𝓛 mem routine)
  run_lent_once κs a g r s ws vs =
      both_say 𝓤 (four_facts 𝓤) (four_facts 𝓤) (λ p q. (
        once p.0 q.0,
        ap (λ (l : List ℕ). (tt, (l, (ws.1.1.0, (ws.1.1.1.0, tt))))) (once p.1 q.1)
            ∙ ap (λ (l : List ℕ). (tt, (vs.1.0, (l, (ws.1.1.1.0, tt))))) (once p.2 q.2)
            ∙ ap (λ (l : List Snapshot). (tt, (vs.1.0, (vs.1.1.0, (l, tt))))) (once p.3 q.3),
      ))

-- ---- Not refused, it is as `run`.

number_told : (b s : Bool) (n p : ℕ) (a : Told) → a.number ≡ 0 → (cond b (cond s (refused 11 0) a) (refused n p)).number ≡ cond b (cond s 11 0) n
number_told true true n p a z = refl
number_told true false n p a z = z
number_told false s n p a z = refl

-- what `run` promises for this file and these buffers
pub record AsRun (f rs ls : List ℕ) (told : Told) (rs' ls' : List ℕ) : Type 0 where
  pub answer : told ≡ told_of f (length rs) (length ls)
  pub results : rs' ≡ sets rs 0 (when (number_of f (length rs) (length ls)) (results_of f))
  pub log : ls' ≡ sets ls 0 (when (number_of f (length rs) (length ls)) (entries_of f))

pub same_as_run : (f rs ls : List ℕ) (table : ℕ) {told : Told} {rs' ls' : List ℕ}
    → told ≡ lent_told f (length rs) (length ls) table
    → rs' ≡ sets rs 0 (when (lent_number f (length rs) (length ls) table) (results_of f))
    → ls' ≡ sets ls 0 (when (lent_number f (length rs) (length ls) table) (entries_of f))
    → told.number ≡ 0 → AsRun f rs ls told rs' ls'
same_as_run f rs ls table told_is rs-is ls-is z =
    let e : lent_number f (length rs) (length ls) table ≡ 0 =
    sym (number_told (eqb (read_of f).number 0) (lent_small f (length rs) (length ls) table) (read_of f).number (read_of f).place (ran f) refl)
    ∙ sym (ap (λ (t : Told). t.number) told_is) ∙ z in
    let k = same_number f (length rs) (length ls) table e in
    record {
      answer = told_is ∙ same_told f (length rs) (length ls) table e;
      results = rs-is ∙ sym (is_written rs (results_of f) e) ∙ is_written rs (results_of f) k;
      log = ls-is ∙ sym (is_written ls (entries_of f) e) ∙ is_written ls (entries_of f) k;
    }
