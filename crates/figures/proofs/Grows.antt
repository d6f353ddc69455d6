-- One order for 'later': what a part of a step of thread t, in operation a, leaves of the state. Whatever it does is done after step x.
use Prim.Native.Nat.{ℕ, ◌≤◌, ◌<◌}
use mathlib.Core.Path.{◌≡◌}
use mathlib.Core.Logic.{◌≢◌, ◌⊎◌}
use mathlib.Core.Bool.{false}
use Rattle.figures.specs.Limits.{invalid}
use Rattle.figures.proofs.World.{World, thr, cell_op}
use Rattle.figures.proofs.Inv.{Known}

-- an operation that another one's step leaves alone; its raising alone is not its own
pub record Alone (w w' : World) (o : ℕ) : Type 0 where
  pub first : w'.first o ≡ w.first o
  pub last : w'.last o ≡ w.last o
  pub answer : w'.answer o ≡ w.answer o
  pub read : w'.read o ≡ w.read o
  pub found : w'.found o ≡ w.found o
  pub exch : w'.exch o ≡ w.exch o
  pub target : w'.target o ≡ w.target o
  pub used : w'.used o ≡ w.used o

-- a thread that does not step
pub record Still (w w' : World) (t : ℕ) : Type 0 where
  pub op : w'.op t ≡ w.op t
  pub point : w'.point t ≡ w.point t
  pub mine : w'.mine t ≡ w.mine t

-- an update that is raised stays so; one that is raised now is raised after x, past what its counter was
pub record Rise (x : ℕ) (w w' : World) (u : ℕ) : Type 0 where
  pub kept : 0 < w.raised u → (w'.raised u ≡ w.raised u) × (w'.window u ≡ w.window u)
  pub new : w.raised u ≡ 0 → 0 < w'.raised u → (x < w'.raised u) × (w.count (cell_op w u) < w'.target u)

-- an update that is exchanged stays so
pub record Swap (x : ℕ) (w w' : World) (u : ℕ) : Type 0 where
  pub kept : 0 < w.exch u → (w'.exch u ≡ w.exch u) × (w'.target u ≡ w.target u)
  pub new : w.exch u ≡ 0 → 0 < w'.exch u → x < w'.exch u

-- a snapshot that is announced
pub record Ages (x : ℕ) (w w' : World) (s : ℕ) : Type 0 where
  pub ann : w'.ann s ≡ w.ann s
  pub flag : w.flag s ≡ false → w'.flag s ≡ false
  pub closed : 0 < w.closed s → w'.closed s ≡ w.closed s
  pub closes : w.closed s ≡ 0 → 0 < w'.closed s → x < w'.closed s
  pub cell : (q : ℕ) → w.cell s q ≢ invalid → (w'.cell s q ≢ invalid) × (w.cell s q ≤ w'.cell s q)
  pub held : 0 < w.closed s → (q : ℕ) → w'.held s q ≡ w.held s q
  pub holds : w.closed s ≡ 0 → 0 < w'.closed s → (q : ℕ) → w.cell s q ≢ invalid → w.cell s q ≤ w'.held s q
  pub size : w.size s ≢ invalid → (w'.size s ≡ w.size s) × (w'.seen s ≡ w.seen s) × (w'.fixed s ≡ w.fixed s)

-- a counter changes only where an update of its thread's current operation is exchanged
pub record Owed (w : World) (q : ℕ) : Type 0 where
  pub u : ℕ
  pub exch : 0 < w.exch u
  pub current : w.op (thr w u) ≡ u
  pub cell : cell_op w u ≡ q

pub record Grows (x t a : ℕ) (w w' : World) : Type 0 where
  pub asked : w'.asked ≡ w.asked
  pub alone : (o : ℕ) → o ≢ a → Alone w w' o
  pub still : (t' : ℕ) → t' ≢ t → Still w w' t'
  pub begun : 0 < w.first a → w'.first a ≡ w.first a
  pub rise : (u : ℕ) → Rise x w w' u
  pub swap : (u : ℕ) → Swap x w w' u
  pub count : (q : ℕ) → w.count q ≤ w'.count q
  pub owed : (q : ℕ) → (w'.count q ≡ w.count q) ⊎ Owed w q
  pub cur : w.cur ≤ w'.cur
  pub ages : (s : ℕ) → Known w s → Ages x w w' s
  pub new : (s : ℕ) → w.cur < s → s ≤ w'.cur → x < w'.ann s
