-- A log played on the plain set: one operation after another, in log order.
use Rattle.std.specs.Prelude.{◌≡◌, Bool, true, false, List, [], ◌∷◌, ℕ}
use Rattle.history.specs.PlainSet.{Ask, answer_of, after_of}

pub record Op : Type 0 where
  pub ask : Ask
  pub returned : Bool
  pub answer : ℕ

-- a returned answer is the plain set's, an unfinished update succeeds
abbrev pub agrees : Bool → ℕ → ℕ → Type 0
agrees true answer plain = answer ≡ plain
agrees false answer plain = plain ≡ 1

abbrev pub Agrees : Op → ℕ → Type 0
Agrees op plain = agrees op.returned op.answer plain

-- the log, a list of operation numbers, played from a set
unfoldable pub Legal : (ℕ → Op) → List ℕ → List ℕ → Type 0
Legal ops set [] = Unit {0}
Legal ops set (o ∷ log) = Agrees (ops o) (answer_of (ops o).ask set) × Legal ops (after_of (ops o).ask set) log
