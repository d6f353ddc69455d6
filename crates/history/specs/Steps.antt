-- Steps of a schedule, a list of thread numbers: how many pass a test, and which are an operation's own.
use Rattle.std.specs.Prelude.{Bool, cond, ◌&&◌, ◌||◌, List, [], ◌∷◌, ℕ, suc, ◌+◌, eqb, ltb, leb}

-- how many steps of a schedule pass a test on the step's number and its thread; the first step's number is s
unfoldable pub steps_that : (ℕ → ℕ → Bool) → ℕ → List ℕ → ℕ
steps_that test s [] = 0
steps_that test s (t ∷ schedule) = cond (test s t) 1 0 + steps_that test (suc s) schedule

-- from an operation's first step to its last: to the end if it is unfinished, never if it has not begun
abbrev pub during : ℕ → ℕ → ℕ → Bool
during first last s = ltb 0 first && (leb first s && (eqb last 0 || leb s last))

-- own steps: the schedule's steps by that operation's thread, from its first to its last
abbrev pub own_steps : ℕ → ℕ → ℕ → List ℕ → ℕ
own_steps thread first last schedule = steps_that (λ s t. eqb t thread && during first last s) 1 schedule
