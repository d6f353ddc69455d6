-- Memory at the start, of a run of so many threads and keys: one count per thread, and the operation bytes.
use Rattle.std.specs.Prelude.{ℕ, suc, ◌+◌, ◌-◌, ◌%◌, false, cond, List, [], ◌∷◌, replicate, ltb}
use Rattle.std.proofs.lemmas.List.Edits.{sets}
use Rattle.figures.specs.declared.Calculator.{Calculator}
use Rattle.figures.specs.declared.Content.TheVariants.{Empty}
use Rattle.figures.specs.declared.Point.TheVariants.{Idle}
use Rattle.figures.specs.declared.Local.{Local}
use Rattle.figures.specs.declared.Record.{Record}
use Rattle.figures.specs.declared.Machine.{Machine}
use Rattle.figures.specs.Limits.{most_keys, most_operations, invalid}
pub use Rattle.figures.specs.Codec.{call_of, key_of}
use Rattle.figures.specs.Figure4.{block_of, fresh_snapshot, fresh_trace}
use Rattle.figures.specs.Figure5.{none}
use Rattle.figures.specs.Step.{no_slot}

-- counters 0; record 0 is announced and not collecting, all else INVALID
abbrev pub calculator_start : Calculator
calculator_start =
    record {
      counters = block_of 0;
      current = none;
      snapshots = replicate (suc most_operations) (fresh_snapshot false);
      traces = replicate (suc most_operations) (fresh_trace 0);
    }

-- an operation that has not begun
abbrev pub unbegun : ℕ → ℕ → Record
unbegun thread b =
    record {
      asked = record { thread = record { 0 = thread }; call = call_of b; key = key_of b };
      outcome = record { answer = invalid; first = 0; last = 0; own = 0; raiser = invalid };
      look = record { read = 0; found = Empty };
      change = record { target = record { 0 = 0 }; exchanged = 0; raised = 0; window = none };
      snapshot = none;
    }

-- the thread that has operation o: each thread's operations follow those of the thread before
unfoldable pub owner_of : List ℕ → ℕ → ℕ
owner_of [] o = 0
owner_of (c ∷ counts) o = cond (ltb o c) 0 (suc (owner_of counts (o - c)))

unfoldable pub records_of : List ℕ → ℕ → List ℕ → List Record
records_of counts o [] = []
records_of counts o (b ∷ ops) = unbegun (owner_of counts o) b ∷ records_of counts (o + 1) ops

-- the threads, each between operations, before its first
unfoldable pub locals_of : ℕ → List ℕ → List Local
locals_of first [] = []
locals_of first (c ∷ counts) =
    record { point = Idle; op = record { 0 = first % 256 }; end = record { 0 = (first + c) % 256 }; seen = block_of 0 }
    ∷ locals_of (first + c) counts

unfoldable pub start_of : ℕ → ℕ → List ℕ → List ℕ → Machine
start_of threads keys counts ops =
    record {
      threads = threads;
      keys = keys;
      clock = 0;
      idle = 0;
      calculator = calculator_start;
      slots = replicate most_keys no_slot;
      locals = locals_of 0 counts;
      records = sets (replicate most_operations (unbegun 0 0)) 0 (records_of counts 0 ops);
    }
