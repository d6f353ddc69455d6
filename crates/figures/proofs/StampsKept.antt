-- No two exchanges, raisings, reads or closings are at one step, after each part of a step: a part makes at most one, and later than all.
use Prim.Native.Nat.{ℕ, ◌≤◌, ◌<◌}
use mathlib.Core.Path.{◌≡◌, refl, sym, ap, ◌∙◌}
use mathlib.Core.Logic.{◌⊎◌, inl, inr}
use native.Mathlib.Omega.{arith}
use native.Mathlib.Decide.{ℕ_discrete, dec_lt}
use Rattle.figures.specs.declared.Deed.{Deed}
use Rattle.figures.specs.declared.Next.{Next}
use Rattle.figures.specs.declared.Next.TheVariants.{To, Returns}
use Rattle.figures.proofs.World.{World, put, put_case, tick, act, onward}
use Rattle.figures.proofs.Inv.{Core, Known, Stamps, Event, exchanges, raises, reads, closes, stamp}
use Rattle.figures.proofs.Guar.{Acting, Guar}
use Rattle.figures.proofs.Touch.{Log, log, Touch, quietly, closing, finding, exchanging, raising, touch}

-- e has the stamp that it had, or it is the new one, after x
abbrev Stamped : ℕ → World → World → Event → Event → Type 0
Stamped x w w' new e = (stamp w' e ≡ stamp w e) ⊎ ((e ≡ new) × (x < stamp w' e))

stamps_kept : (x : ℕ) (w w' : World) (new : Event) → ((e : Event) → stamp w e ≤ x) → Stamps w → ((e : Event) → Stamped x w w' new e) → Stamps w'
stamps_kept x w w' new low k f e e' h i = go (f e) (f e')
  where
    go : Stamped x w w' new e → Stamped x w w' new e' → e ≡ e'
    go (inl p) (inl q) = k e e' (omega arith) (sym p ∙ i ∙ q)
    go (inl p) (inr q) = absurd (omega (arith, low e))
    go (inr p) (inl q) = absurd (omega (arith, low e'))
    go (inr p) (inr q) = p.0 ∙ sym q.0

module _ (T n x : ℕ) (w : World) (c : Core T n x w) where
  none_above : (a : ℕ) → (0 < a → a ≤ x) → a ≤ x
  none_above a f = go (dec_lt 0 a)
    where
      go : Dec (0 < a) → a ≤ x
      go (yes h) = f h
      go (no h) = omega arith

  -- a closed snapshot is one that was announced
  known : (s : ℕ) → 0 < w.closed s → Known w s
  known s h = go (ℕ_discrete s 0) (dec_lt w.cur s)
    where
      go : Dec (s ≡ 0) → Dec (w.cur < s) → Known w s
      go (yes e) d = absurd (omega (arith, c.snaps.none_closed, rw e at h))
      go (no m) (yes l) = absurd (omega (arith, c.snaps.future s l))
      go (no m) (no l) = record { some = omega arith; there = omega arith }

  pub stamp_past : (e : Event) → stamp w e ≤ x
  stamp_past (exchanges o) = none_above (w.exch o) (λ h. (c.records.exchanges o h).past)
  stamp_past (raises o) = none_above (w.raised o) (λ h. (c.records.raises o h).past)
  stamp_past (reads o) = none_above (w.read o) (λ h. (c.records.reads o h).past)
  stamp_past (closes s) = none_above (w.closed s) (λ h. (c.snaps.spans s (known s h) h).1)

  -- the four kinds of events apart
  module _ (w' : World) (new : Event) where
    stamped : ((j : ℕ) → Stamped x w w' new (exchanges j)) → ((j : ℕ) → Stamped x w w' new (raises j)) → ((j : ℕ) → Stamped x w w' new (reads j)) → ((j : ℕ) → Stamped x w w' new (closes j)) → Stamps w'
    stamped f g h k = stamps_kept x w w' new stamp_past c.stamps go
      where
        go : (e : Event) → Stamped x w w' new e
        go (exchanges j) = f j
        go (raises j) = g j
        go (reads j) = h j
        go (closes j) = k j

    stamped_log : log w' ≡ log w → ((j : ℕ) → Stamped x w w' new (closes j)) → Stamps w'
    stamped_log e k = stamped (λ j. inl (ap (λ (l : Log). l.exch j) e)) (λ j. inl (ap (λ (l : Log). l.raised j) e)) (λ j. inl (ap (λ (l : Log). l.read j) e)) k

  pub stamps_tick : (o : ℕ) → Stamps (tick o w)
  stamps_tick o = stamped (tick o w) (reads o) (λ j. inl refl) (λ j. inl refl) (λ j. inl refl) (λ j. inl refl)

  module _ (t o : ℕ) (by : Acting T n x w t o) where
    -- a write of this step at one place
    now : (E : ℕ → Event) (f : ℕ → ℕ) (i j : ℕ) → (put f i w.clock j ≡ f j) ⊎ ((E j ≡ E i) × (x < put f i w.clock j))
    now E f i j = put_case (λ (y : ℕ). (y ≡ f j) ⊎ ((E j ≡ E i) × (x < y))) f i w.clock j (λ e. inr (ap E e, omega (arith, by.clock))) (λ m. inl refl)

    told : {w' : World} → Touch w o w' → Stamps w'
    told {w'} (quietly e h) = stamped_log w' (reads o) e (λ j. inl (h j))
    told {w'} (closing s e h) = stamped_log w' (closes s) e (λ j. rw (h j) (now closes w.closed s j))
    told {w'} (finding b) = stamped w' (reads o) (λ j. inl refl) (λ j. inl refl) (now reads w.read o) (λ j. inl refl)
    told {w'} (exchanging g b f) = stamped w' (exchanges o) (now exchanges w.exch o) (λ j. inl refl) (λ j. inl refl) (λ j. inl refl)
    told {w'} (raising a q g f) = stamped w' (raises a) (λ j. inl refl) (now raises w.raised a) (λ j. inl refl) (λ j. inl refl)

    pub stamps_act : (d : Deed) → Guar T x w t o d → Stamps (act d t o w)
    stamps_act d g = told (touch T n x w c t o by d g)

  pub stamps_onward : (t o : ℕ) (nx : Next) → Stamps (onward nx t o w)
  stamps_onward t o (To p) = stamped_log (onward (To p) t o w) (reads o) refl (λ j. inl refl)
  stamps_onward t o (Returns a) = stamped (onward (Returns a) t o w) (reads o) (λ j. inl refl) (λ j. inl refl) (λ j. inl refl) (λ j. inl refl)
