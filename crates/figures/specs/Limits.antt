-- The limits of document 01, which `Machine` has as its associated constants.
use Rattle.std.specs.Prelude.{ℕ}

-- threads at most
abbrev pub most_threads : ℕ
most_threads = 8

-- keys at most
abbrev pub most_keys : ℕ
most_keys = 16

-- operations at most, in all
abbrev pub most_operations : ℕ
most_operations = 64

-- steps at most
abbrev pub most_steps : ℕ
most_steps = 4096

-- a cell or a size that is not there yet; an answer that is not given yet
abbrev pub invalid : ℕ
invalid = 4294967295
