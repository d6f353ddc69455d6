-- Deeds that leave the slots, what was exchanged, read and returned as they were.
use mathlib.Core.Path.{◌≡◌, refl}
use Prim.Native.Nat.{ℕ}
use Rattle.figures.specs.declared.Update.{Update}
use Rattle.figures.specs.declared.UpdateDeed.{UpdateDeed}
use Rattle.figures.specs.declared.UpdateDeed.TheVariants.{Reads, Raises, Forwards}
use Rattle.figures.specs.declared.SizeDeed.{SizeDeed}
use Rattle.figures.specs.declared.SizeDeed.TheVariants.{Looks, Announces, Collects, Lowers, Keeps, Fixes, Shares}
use Rattle.figures.specs.declared.Deed.{Deed}
use Rattle.figures.specs.declared.Deed.TheVariants.{Rests, Finds, Links, Marks, Unlinks, Updates, Sizes}
use Rattle.figures.specs.declared.Next.{Next}
use Rattle.figures.specs.declared.Next.TheVariants.{To, Returns}
use Rattle.figures.proofs.World.{World, tick, act, update, compute, onward}

pub record Quiet (w w' : World) : Type 0 where
  pub exch : w'.exch ≡ w.exch
  pub read : w'.read ≡ w.read
  pub found : w'.found ≡ w.found
  pub content : w'.content ≡ w.content

quiet : {w w' : World} → w'.exch ≡ w.exch → w'.read ≡ w.read → w'.found ≡ w.found → w'.content ≡ w.content → Quiet w w'
quiet e r f c = record { exch = e; read = r; found = f; content = c }

pub rests_quiet : (w : World) → Quiet w w
rests_quiet w = quiet refl refl refl refl

pub tick_quiet : (o : ℕ) (w : World) → Quiet w (tick o w)
tick_quiet o w = quiet refl refl refl refl

pub update_quiet : (e : UpdateDeed) (u : Update) (w : World) → Quiet w (update e u w)
update_quiet Reads u w = quiet refl refl refl refl
update_quiet Raises u w = quiet refl refl refl refl
update_quiet (Forwards s) u w = quiet refl refl refl refl

pub compute_quiet : (e : SizeDeed) (t o : ℕ) (w : World) → Quiet w (compute e t o w)
compute_quiet Looks t o w = quiet refl refl refl refl
compute_quiet Announces t o w = quiet refl refl refl refl
compute_quiet (Collects s j v) t o w = quiet refl refl refl refl
compute_quiet (Lowers s) t o w = quiet refl refl refl refl
compute_quiet (Keeps j v) t o w = quiet refl refl refl refl
compute_quiet (Fixes s v) t o w = quiet refl refl refl refl
compute_quiet (Shares s) t o w = quiet refl refl refl refl

pub onward_quiet : (nx : Next) (t o : ℕ) (w : World) → Quiet w (onward nx t o w)
onward_quiet (To p) t o w = quiet refl refl refl refl
onward_quiet (Returns a) t o w = quiet refl refl refl refl

-- no deed returns
update_last : (e : UpdateDeed) (u : Update) (w : World) → (update e u w).last ≡ w.last
update_last Reads u w = refl
update_last Raises u w = refl
update_last (Forwards s) u w = refl

compute_last : (e : SizeDeed) (t o : ℕ) (w : World) → (compute e t o w).last ≡ w.last
compute_last Looks t o w = refl
compute_last Announces t o w = refl
compute_last (Collects s j v) t o w = refl
compute_last (Lowers s) t o w = refl
compute_last (Keeps j v) t o w = refl
compute_last (Fixes s v) t o w = refl
compute_last (Shares s) t o w = refl

pub act_last : (d : Deed) (t o : ℕ) (w : World) → (act d t o w).last ≡ w.last
act_last Rests t o w = refl
act_last (Finds c) t o w = refl
act_last (Links d) t o w = refl
act_last (Marks m d) t o w = refl
act_last Unlinks t o w = refl
act_last (Updates e u) t o w = update_last e u w
act_last (Sizes e) t o w = compute_last e t o w
