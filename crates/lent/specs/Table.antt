-- A snapshot table that the caller lends: a machine over it, and the records that a run announces in it.
use Rattle.std.specs.Prelude.{ℕ, suc, ◌+◌, cond, List, [], ◌∷◌, take}
use Rattle.figures.specs.declared.Snapshot.{Snapshot}
use Rattle.figures.specs.declared.Machine.{Machine}
use Rattle.figures.specs.Codec.{call_of, is_size}
use Rattle.machine.specs.Parts.{whole_of, rest_of}

-- the machine whose snapshots are this list
abbrev pub with_table : List Snapshot → Machine → Machine
with_table table m = whole_of (rest_of m) m.calculator.counters table

-- the announced records: record 0 to the current one
abbrev pub announced_in : Machine → List Snapshot
announced_in m = take (suc m.calculator.current.0) m.calculator.snapshots

-- how many of these operation bytes are sizes
unfoldable pub sizes_of : List ℕ → ℕ
sizes_of [] = 0
sizes_of (b ∷ ops) = cond (is_size (call_of b)) 1 0 + sizes_of ops
