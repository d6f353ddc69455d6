-- A fact about the state holds of any state that has the same values where the fact looks.
use Prim.Native.Nat.{ℕ, ◌<◌}
use mathlib.Core.Path.{◌≡◌, sym, ap, ◌∙◌, subst}
use mathlib.Core.Logic.{inl, inr}
use Rattle.figures.specs.declared.Kind.{Kind}
use Rattle.figures.specs.declared.Content.{Content}
use Rattle.figures.specs.declared.Node.{Node}
use Rattle.figures.specs.declared.Update.{Update}
use Rattle.figures.specs.declared.After.{After}
use Rattle.figures.specs.declared.After.TheVariants.{Answer, ToMark, ToHelpUnlink, ToUnlink}
use Rattle.figures.specs.declared.Asked.{Asked}
use Rattle.figures.specs.declared.Call.TheVariants.{Insert, Delete}
use Rattle.figures.proofs.World.{World, call, call_for, empty}
use Rattle.figures.proofs.Inv.{Noted, Settles, Settled, Afterwards, Owning, Helping, Marking, Clearing, Unlinking}
use Rattle.figures.proofs.Inv.Settles.{alone, after, reached, caught}

-- the state that has these in place of its own
module _ (w w' : World) (a : w'.asked ≡ w.asked) (e : w'.exch ≡ w.exch) where
  -- a property of what is asked, of every operation's exchange
  along : (P : (ℕ → Asked) → (ℕ → ℕ) → Type 0) → P w.asked w.exch → P w'.asked w'.exch
  along P h =
      subst (λ (f : ℕ → Asked). P f w'.exch) (sym a) (subst (λ (f : ℕ → ℕ). P w.asked f) (sym e) h)

  pub noted_same : {d : Node} {k : Kind} {on : ℕ} → w'.target ≡ w.target → Noted w d k on → Noted w' d k on
  noted_same {d} {k} {on} g m =
      let o = d.op.0 in
      record {
        exchanged = along (λ b f. 0 < f o) m.exchanged;
        does = along (λ b f. (b o).call ≡ call_for k) m.does;
        on_key = along (λ b f. (b o).key ≡ on) m.on_key;
        by_thread = along (λ b f. (b o).thread.0 ≡ d.note.0.0) m.by_thread;
        aims = ap (λ (f : ℕ → ℕ). f o) g ∙ m.aims;
      }

  module _ (r : w'.read ≡ w.read) (f : w'.found ≡ w.found) where
    helping_same : {o b : ℕ} {u : Update} → Helping w o u b → Helping w' o u b
    helping_same {o} {b} {u} h =
        record {
          fresh = along (λ b f. f o ≡ 0) h.fresh;
          looked = subst (λ (g : ℕ → ℕ). 0 < g o) (sym r) h.looked;
          is_found = subst (λ (g : ℕ → Content). Rattle.figures.proofs.Inv.IsFound (g o) u) (sym f) h.is_found;
          fits =
              subst (λ (g : ℕ → Content). Rattle.figures.proofs.Inv.Fits (call w' o) (g o) b) (sym f)
              (along (λ c e. Rattle.figures.proofs.Inv.Fits (c o).call (w.found o) b) h.fits);
        }

    pub afterwards_same : (o : ℕ) (u : Update) (b : After) → Afterwards w o u b → Afterwards w' o u b
    afterwards_same o u (Answer b) (inl h) = inl (record { own = h.own; does = along (λ c e. (c o).call ≡ Insert) h.does; one = h.one })
    afterwards_same o u (Answer b) (inr h) = inr (helping_same h)
    afterwards_same o u (ToMark d) h =
        record {
          fresh = along (λ c e. e o ≡ 0) h.fresh;
          does = along (λ c e. (c o).call ≡ Delete) h.does;
          same = h.same;
          on_key = along (λ c e. (c d.op.0).key ≡ (c o).key) h.on_key;
        }
    afterwards_same o u (ToHelpUnlink m d) h =
        record {
          fresh = along (λ c e. e o ≡ 0) h.fresh;
          does = along (λ c e. (c o).call ≡ Insert) h.does;
          same = h.same;
          on_key = along (λ c e. (c d.op.0).key ≡ (c o).key) h.on_key;
        }
    afterwards_same o u (ToUnlink m d) h = record { does = along (λ c e. (c o).call ≡ Delete) h.does; same = h.same; own = h.own }

-- an update that is settled is so whatever the slots hold
pub settled_empty : (w : World) (k : ℕ) {u y : ℕ} → Settled w u y → Settled (empty k w) u y
settled_empty w k {u} {y} s = record { raised = s.raised; before = s.before; how = go s.how }
  where
    go : Settles w u y → Settles (empty k w) u y
    go (alone e) = alone e
    go (after c b) = after c b
    go (reached c b d) = reached c b d
    go (caught c b) = caught c b
