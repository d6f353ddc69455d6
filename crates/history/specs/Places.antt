-- A place in the log, and the one number that orders places.
use Rattle.std.specs.Prelude.{ℕ, ◌+◌, ◌*◌, ◌%◌, ◌^◌}
use Rattle.history.specs.declared.Place.{Place}

abbrev pub place : ℕ → ℕ → ℕ → ℕ → Place
place step rank tie read = record { step = step; rank = rank; tie = tie; read = read }

-- first by step, then by rank, by tie and by read (no run has 8,192 steps)
abbrev pub number_of : Place → ℕ
number_of p = ((p.step * 2 + p.rank) * 2 ^ 13 + p.tie % 2 ^ 13) * 2 ^ 13 + p.read % 2 ^ 13
