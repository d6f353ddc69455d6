use Rattle.std.proofs.Common.{◌≡◌, replicate, length, drop}
use Rattle.std.proofs.lemmas.List.Edits.{sets}
use Rattle.figures.specs.Limits.{most_operations}
use Rattle.figures.specs.Start.{unbegun, records_of}
use Rattle.figures.proofs.records_of.Given as goal

-- the records made so far, with those that the definition gives for the operations left, are those that it gives for all
abbrev pub invariant-loop-o : goal.invariant-loop-o
invariant-loop-o l = record {
  long : length l.record-items ≡ 64;
  same : sets l.record-items l.o (records_of l.counts l.o (drop l.o l.operations)) ≡ sets (replicate most_operations (unbegun 0 0)) 0 (records_of l.counts 0 l.operations);
}
