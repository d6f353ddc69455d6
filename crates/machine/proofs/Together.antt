-- The changes, part by part, make up what the definition of a step says.
use Prim.Native.Nat.{ℕ, suc, zero}
use mathlib.Core.Path.{◌≡◌, refl, sym, ap, ◌∙◌}
use mathlib.Core.List.{List, [], ◌∷◌}
use lib.ListN.{get_or, set}
use Rattle.std.proofs.lemmas.List.{set-get_or}
use Rattle.terms.specs.declared.ThreadId.{ThreadId}
use Rattle.terms.specs.declared.OpId.{OpId}
use Rattle.terms.specs.declared.SnapshotId.{SnapshotId}
use Rattle.figures.specs.declared.Calculator.{Calculator}
use Rattle.figures.specs.declared.UpdateDeed.{UpdateDeed}
use Rattle.figures.specs.declared.SizeDeed.{SizeDeed}
use Rattle.figures.specs.declared.Content.{Content}
use Rattle.figures.specs.declared.Content.TheVariants.{Empty, Live, Marked}
use Rattle.figures.specs.declared.Update.{Update}
use Rattle.figures.specs.declared.UpdateDeed.TheVariants.{Reads, Raises, Forwards}
use Rattle.figures.specs.declared.SizeDeed.TheVariants.{Looks, Announces, Collects, Lowers, Keeps, Fixes, Shares}
use Rattle.figures.specs.declared.Deed.{Deed}
use Rattle.figures.specs.declared.Deed.TheVariants.{Rests, Finds, Links, Marks, Unlinks, Updates, Sizes}
use Rattle.figures.specs.declared.Next.{Next}
use Rattle.figures.specs.declared.Next.TheVariants.{To, Returns}
use Rattle.figures.specs.declared.Slot.{Slot}
use Rattle.figures.specs.declared.Local.{Local}
use Rattle.figures.specs.declared.Record.{Record}
use Rattle.figures.specs.declared.Machine.{Machine}
use Rattle.figures.specs.Figure4.{more, window_of, block_of, set_count}
use Rattle.figures.specs.Step.{no_record, no_slot, no_local, record_at, with_seen, answered, counted, raised_at, exchanged_at, with_look, with_used, does, goes_on, ticked}
use Rattle.machine.specs.Parts.{answered_by, goes_by, raised_record}
use Rattle.machine.proofs.Changes.{acted_by}

module _ {A : Type 0} (d : A) where
  -- two changes of one element are one
  pub twice : (f g : A → A) (l : List A) (i : ℕ) → set (set l i (f (get_or l i d))) i (g (get_or (set l i (f (get_or l i d))) i d)) ≡ set l i (g (f (get_or l i d)))
  twice f g [] i = refl
  twice f g (x ∷ l) zero = refl
  twice f g (x ∷ l) (suc i) = ap (λ (r : List A). x ∷ r) (twice f g l i)

  -- changes of two elements can change places, where they do on one element
  pub swap : (f g : A → A) → ((a : A) → f (g a) ≡ g (f a)) → (l : List A) (i j : ℕ) →
      set (set l i (f (get_or l i d))) j (g (get_or (set l i (f (get_or l i d))) j d)) ≡ set (set l j (g (get_or l j d))) i (f (get_or (set l j (g (get_or l j d))) i d))
  swap f g e [] i j = refl
  swap f g e (x ∷ l) zero zero = ap (λ (y : A). y ∷ l) (sym (e x))
  swap f g e (x ∷ l) zero (suc j) = refl
  swap f g e (x ∷ l) (suc i) zero = refl
  swap f g e (x ∷ l) (suc i) (suc j) = ap (λ (r : List A). x ∷ r) (swap f g e l i j)

  -- what a change of an element keeps is as it was
  pub kept : {B : Type 0} (p : A → B) (f : A → A) → ((a : A) → p (f a) ≡ p a) → (l : List A) (i : ℕ) → p (get_or (set l i (f (get_or l i d))) i d) ≡ p (get_or l i d)
  kept p f e [] i = refl
  kept p f e (x ∷ l) zero = e x
  kept p f e (x ∷ l) (suc i) = kept p f e l i

module _ (m : Machine) (t : ThreadId) (o : OpId) where
  abbrev step : ℕ
  step = more m.clock

  abbrev key : ℕ
  key = (record_at m o).asked.key

  abbrev whole : Calculator → List Slot → List Local → List Record → Machine
  whole c s l r =
      record {
        threads = m.threads;
        keys = m.keys;
        clock = step;
        idle = m.idle;
        calculator = c;
        slots = s;
        locals = l;
        records = r;
      }

  built : (c : Calculator) {s s' : List Slot} {l l' : List Local} {r r' : List Record} → s ≡ s' → l ≡ l' → r ≡ r' → whole c s l r ≡ whole c s' l' r'
  built c a b e = cc

  -- the records, the operation's one with its answer if it returned
  abbrev ended : Next → List Record → List Record
  ended (To p) rs = rs
  ended (Returns a) rs = set rs o.0 (answered a step (get_or rs o.0 no_record))

  abbrev after : Next → Calculator → List Slot → List Local → List Record → Machine
  after x c s l r = whole c s (set l t.0 (goes_by x (get_or l t.0 no_local))) (ended x r)

  goes_on_lem : (x : Next) (c : Calculator) (s : List Slot) (l : List Local) (r : List Record) → goes_on x t o (whole c s l r) ≡ after x c s l r
  goes_on_lem (To p) c s l r = refl
  goes_on_lem (Returns a) c s l r = refl

  abbrev counts : List Record
  counts = set m.records o.0 (counted step (record_at m o))

  counted_record : (x : Next) → ended x counts ≡ set m.records o.0 (answered_by step x (counted step (record_at m o)))
  counted_record (To p) = refl
  counted_record (Returns a) = twice no_record (counted step) (answered a step) m.records o.0

  noted_record : (x : Next) (g : Record → Record) →
      ended x (set counts o.0 (g (get_or counts o.0 no_record))) ≡ set m.records o.0 (answered_by step x (g (counted step (record_at m o))))
  noted_record (To p) g = twice no_record (counted step) g m.records o.0
  noted_record (Returns a) g =
      twice no_record g (answered a step) counts o.0
      ∙ twice no_record (counted step) (λ (r : Record). answered a step (g r)) m.records o.0

  raised_record_lem : (x : Next) (w : SnapshotId) (u : OpId) →
      ended x (raised_record step w t u counts) ≡ raised_record step w t u (set m.records o.0 (answered_by step x (counted step (record_at m o))))
  raised_record_lem (To p) w u = refl
  raised_record_lem (Returns a) w u =
      sym (swap no_record (answered a step) (raised_at step w t) (λ r. refl) counts o.0 u.0)
      ∙ ap (raised_record step w t u) (twice no_record (counted step) (answered a step) m.records o.0)

  same_key : (get_or counts o.0 no_record).asked.key ≡ key
  same_key = kept no_record (λ (r : Record). r.asked.key) (counted step) (λ r. refl) m.records o.0

  still : m.slots ≡ set m.slots key (record { content = (get_or m.slots key no_slot).content })
  still = sym (set-get_or m.slots key no_slot)

  stored : (c : Content) → set m.slots (get_or counts o.0 no_record).asked.key (record { content = c }) ≡ set m.slots key (record { content = c })
  stored c = ap (λ (k : ℕ). set m.slots k (record { content = c })) same_key

  abbrev Together : Deed → Next → Type 0
  Together d x = goes_on x t o (does d t o (ticked o m)) ≡ acted_by d x step t.0 o key m

  updates_together : (d : UpdateDeed) (u : Update) (x : Next) → Together (Updates d u) x
  updates_together Reads u x = goes_on_lem x _ _ _ _ ∙ built _ still refl (counted_record x)
  updates_together Raises u x = goes_on_lem x _ _ _ _ ∙ built _ still refl (raised_record_lem x (window_of m.calculator) u.node.op)
  updates_together (Forwards n) u x = goes_on_lem x _ _ _ _ ∙ built _ still refl (counted_record x)

  sizes_together : (d : SizeDeed) (x : Next) → Together (Sizes d) x
  sizes_together Looks x = goes_on_lem x _ _ _ _ ∙ built _ still refl (counted_record x)
  sizes_together Announces x = goes_on_lem x _ _ _ _ ∙ built _ still refl (counted_record x)
  sizes_together (Collects n j v) x = goes_on_lem x _ _ _ _ ∙ built _ still refl (counted_record x)
  sizes_together (Lowers n) x =
      goes_on_lem x _ _ _ _ ∙ built _ still (twice no_local (with_seen (block_of 0)) (goes_by x) m.locals t.0) (counted_record x)
  sizes_together (Keeps j v) x =
      goes_on_lem x _ _ _ _ ∙ built _ still (twice no_local (λ (l : Local). with_seen (set_count l.seen j v) l) (goes_by x) m.locals t.0) (counted_record x)
  sizes_together (Fixes n v) x = goes_on_lem x _ _ _ _ ∙ built _ still refl (noted_record x (with_used n))
  sizes_together (Shares n) x = goes_on_lem x _ _ _ _ ∙ built _ still refl (noted_record x (with_used n))

  pub together : (d : Deed) (x : Next) → Together d x
  together Rests x = goes_on_lem x _ _ _ _ ∙ built _ still refl (counted_record x)
  together (Finds c) x = goes_on_lem x _ _ _ _ ∙ built _ still refl (noted_record x (with_look (record { read = step; found = c })))
  together (Links n) x = goes_on_lem x _ _ _ _ ∙ built _ (stored (Live n)) refl (noted_record x (exchanged_at n.note.1 step))
  together (Marks n d) x = goes_on_lem x _ _ _ _ ∙ built _ (stored (Marked n d)) refl (noted_record x (exchanged_at d.note.1 step))
  together Unlinks x = goes_on_lem x _ _ _ _ ∙ built _ (stored Empty) refl (counted_record x)
  together (Updates d u) x = updates_together d u x
  together (Sizes d) x = sizes_together d x
