-- A store of what stands there already changes nothing.
use Prim.Native.Nat.{ℕ}
use mathlib.Core.Path.{◌≡◌}
use mathlib.Core.List.{List}
use lib.ListN.{get_or, set}
use Rattle.std.proofs.lemmas.List.{set-get_or}
use Rattle.figures.specs.declared.Slot.{Slot}
use Rattle.figures.specs.declared.Trace.{Trace}
use Rattle.figures.specs.Figure4.{no_trace}
use Rattle.figures.specs.Step.{no_slot}

pub kept_slot : (l : List Slot) (i : ℕ) → set l i (record { content = (get_or l i no_slot).content }) ≡ l
kept_slot l i = set-get_or l i no_slot

pub kept_trace : (l : List Trace) (i : ℕ) → set l i (get_or l i no_trace) ≡ l
kept_trace l i = set-get_or l i no_trace
