use Rattle.std.proofs.Common.{◌-◌, rules, arith, tests, not, take, drop}
use Rattle.std.proofs.lemmas.Iterator.{YieldsList-from_slice}
use Rattle.std.proofs.lemmas.Iterator.Search.{position_from_yields_List}
use Rattle.figures.specs.Codec.{allowed}
use Rattle.runfile.proofs.First.{found}
use Rattle.runfile.proofs.Operations.{operation_stops, operation_passes}
use Rattle.runfile.proofs.check_operations.Goals as goal

pub returns-in-Some : goal.returns-in-Some
returns-in-Some c =
    let a = c.args in
    let p = position_from_yields_List (λ b. not (allowed a.keys b)) _ _ _ c.in-Some.ensures.ran (YieldsList-from_slice (take (a.part.end - a.part.start) (drop a.part.start a.bytes.now)) cc) (λ x b q k. search (rules, tests)) in
    let f = found (allowed a.keys) a.bytes.now a.part.start a.part.end c.requires.0 c.requires.1 _ p in
    rw (c.at.ensures, c.fault.ensures) (operation_stops a.keys a.bytes.now a.part.start a.part.end f.0 f.1)

pub returns-in-None : goal.returns-in-None
returns-in-None c =
    let a = c.args in
    let p = position_from_yields_List (λ b. not (allowed a.keys b)) _ _ _ c.in-None.ensures.ran (YieldsList-from_slice (take (a.part.end - a.part.start) (drop a.part.start a.bytes.now)) cc) (λ x b q k. search (rules, tests)) in
    operation_passes a.keys a.bytes.now a.part.start a.part.end
    (found (allowed a.keys) a.bytes.now a.part.start a.part.end c.requires.0 c.requires.1 _ p) (omega arith)
