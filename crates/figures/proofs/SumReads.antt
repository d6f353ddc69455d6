-- What a thread has read for the sum of its size, and what the winner of a snapshot had read: the reads of the run, each cell once.
use Prim.Native.Nat.{ℕ, suc, ◌<◌}
use mathlib.Core.Path.{◌≡◌, sym, ap, ◌∙◌, subst}
use mathlib.Core.Logic.{◌⊎◌, inl, inr}
use mathlib.Core.List.{List, [], ◌∷◌, ◌++◌}
use native.Mathlib.Omega.{arith}
use native.Mathlib.Decide.{ℕ_discrete}
use lib.ListN.{length}
use Rattle.terms.specs.declared.OpId.{OpId}
use Rattle.figures.specs.declared.Cell.{Cell}
use Rattle.figures.specs.declared.SizeDeed.TheVariants.{Keeps}
use Rattle.figures.specs.declared.Deed.TheVariants.{Sizes}
use Rattle.figures.specs.declared.Machine.{Machine}
use Rattle.figures.specs.Step.{run_of}
use Rattle.figures.specs.Events.{Event, SumRead, At}
use Rattle.figures.proofs.World.{put, put_same, put_other, no_of}
use Rattle.figures.proofs.Mirror.{cell_at, at_no}
use Rattle.figures.proofs.Events.{at_later, at_now, at_either}

pub same_kept : {j j' : Cell} {v v' : ℕ} → Sizes (Keeps j v) ≡ Sizes (Keeps j' v') → (j ≡ j') × (v ≡ v')
same_kept e = (cc, cc)

-- operation x has read the first r cells for its sum, each at one step, and cell q was f q
pub record Reading (start : Machine) (s : List ℕ) (x : OpId) (r : ℕ) (f : ℕ → ℕ) : Type 0 where
  pub all : (j : Cell) (v k : ℕ) → At start s (SumRead x j v) k → (no_of j < r) × (f (no_of j) ≡ v)
  pub some : (q : ℕ) → q < r → (k : ℕ) × At start s (SumRead x (cell_at q) (f q)) k
  pub once : (j : Cell) (v v' k k' : ℕ) → At start s (SumRead x j v) k → At start s (SumRead x j v') k' → k ≡ k'

-- nothing is read, whatever f
pub reading_none : {start : Machine} {s : List ℕ} {x : OpId} {f : ℕ → ℕ} → ((j : Cell) (v k : ℕ) → At start s (SumRead x j v) k → ⊥)
    → Reading start s x 0 f
reading_none n =
    record { all = λ j v k a. absurd (n j v k a); some = λ q l. absurd (omega arith); once = λ j v v' k k' a b. absurd (n j v k a) }

pub reading_zero : {start : Machine} {s : List ℕ} {x : OpId} {f : ℕ → ℕ} (g : ℕ → ℕ) → Reading start s x 0 f → Reading start s x 0 g
reading_zero g h = reading_none (λ j v k a. omega (arith, (h.all j v k a).0))

module _ (start : Machine) (s : List ℕ) (t : ℕ) (x : OpId) where
  abbrev s' : List ℕ
  s' = s ++ t ∷ []

  abbrev Now : Event → Type 0
  Now E = E (run_of start s) (record { 0 = t })

  -- a read of x in the longer run: this step, or one before
  abbrev Either : Cell → ℕ → ℕ → Type 0
  Either j v k = ((k ≡ suc (length s)) × Now (SumRead x j v)) ⊎ At start s (SumRead x j v) k

  either : (j : Cell) (v k : ℕ) → At start s' (SumRead x j v) k → Either j v k
  either j v k a = at_either start (SumRead x j v) s t a

  -- a step that is no read of x
  pub reading_still : {r : ℕ} {f : ℕ → ℕ} → ((j : Cell) (v : ℕ) → Now (SumRead x j v) → ⊥) → Reading start s x r f → Reading start s' x r f
  reading_still {r} {f} n h =
      record {
        all = λ j v k a. h.all j v k (old j v k (either j v k a));
        some = λ q l. let y = h.some q l in (y.0, at_later start (SumRead x (cell_at q) (f q)) s t y.1);
        once = λ j v v' k k' a b. h.once j v v' k k' (old j v k (either j v k a)) (old j v' k' (either j v' k' b));
      }
    where
      old : (j : Cell) (v k : ℕ) → Either j v k → At start s (SumRead x j v) k
      old j v k (inl y) = absurd (n j v y.1)
      old j v k (inr y) = y

  -- the read of the next cell
  pub reading_on : {j : Cell} {c : ℕ} {f : ℕ → ℕ} → Now (SumRead x j c) → Reading start s x (no_of j) f
      → Reading start s' x (suc (no_of j)) (put f (no_of j) c)
  reading_on {j} {c} {f} z h =
      record {
        all = λ j' v k a. each j' v k (either j' v k a);
        some = λ q l. got q l (ℕ_discrete q (no_of j));
        once = λ j' v v' k k' a b. same j' v v' k k' (either j' v k a) (either j' v' k' b);
      }
    where
      now_no : (j' : Cell) (v : ℕ) → Now (SumRead x j' v) → (no_of j' ≡ no_of j) × (c ≡ v)
      now_no j' v y = let e = same_kept (sym z.deed ∙ y.deed) in (ap no_of (sym e.0), e.1)

      each : (j' : Cell) (v k : ℕ) → Either j' v k → (no_of j' < suc (no_of j)) × (put f (no_of j) c (no_of j') ≡ v)
      each j' v k (inl y) =
          let e = now_no j' v y.1 in
          (omega (arith, e.0), ap (put f (no_of j) c) e.0 ∙ put_same f (no_of j) c ∙ e.1)
      each j' v k (inr y) =
          let b = h.all j' v k y in
          (omega (arith, b.0), put_other f (no_of j) c (no_of j') (λ i. omega (arith, b.0)) ∙ b.1)

      -- this cell was not read before
      same : (j' : Cell) (v v' k k' : ℕ) → Either j' v k → Either j' v' k' → k ≡ k'
      same j' v v' k k' (inl y) (inl y') = y.0 ∙ sym y'.0
      same j' v v' k k' (inl y) (inr y') = absurd (omega (arith, (now_no j' v y.1).0, (h.all j' v' k' y').0))
      same j' v v' k k' (inr y) (inl y') = absurd (omega (arith, (now_no j' v' y'.1).0, (h.all j' v k y).0))
      same j' v v' k k' (inr y) (inr y') = h.once j' v v' k k' y y'

      got : (q : ℕ) → q < suc (no_of j) → Dec (q ≡ no_of j) → (k : ℕ) × At start s' (SumRead x (cell_at q) (put f (no_of j) c q)) k
      got q l (yes e) = (
        suc (length s),
        at_now start (SumRead x (cell_at q) (put f (no_of j) c q)) s t
            (subst (λ (i : Cell). Now (SumRead x i (put f (no_of j) c q))) (sym (at_no j) ∙ ap cell_at (sym e))
            (subst (λ (v : ℕ). Now (SumRead x j v)) (sym (ap (put f (no_of j) c) e ∙ put_same f (no_of j) c)) z)),
      )
      got q l (no n) =
          let y = h.some q (omega arith) in
          (y.0, at_later start (SumRead x (cell_at q) (put f (no_of j) c q)) s t (subst (λ (v : ℕ). At start s (SumRead x (cell_at q) v) y.0) (sym (put_other f (no_of j) c q n)) y.1))
