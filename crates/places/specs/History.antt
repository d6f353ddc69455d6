-- What the log reads of a machine: the operation records and the traces of its snapshots.
use Rattle.std.specs.Prelude.{List, []}
use Rattle.figures.specs.declared.Trace.{Trace}
use Rattle.figures.specs.declared.Record.{Record}
use Rattle.figures.specs.declared.Machine.{Machine}

-- A machine that has these and nothing else. Its log is that of every machine that has these (proofs/History.antt).
abbrev pub with_history : List Record → List Trace → Machine
with_history records traces =
    record {
      threads = 0;
      keys = 0;
      clock = 0;
      idle = 0;
      calculator = record { counters = []; current = record { 0 = 0 }; snapshots = []; traces = traces };
      slots = [];
      locals = [];
      records = records;
    }
