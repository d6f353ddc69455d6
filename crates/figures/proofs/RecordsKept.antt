-- The operations' records: each part of a step keeps what holds of their steps.
use Prim.Native.Nat.{ℕ, suc, ◌≤◌, ◌<◌}
use mathlib.Core.Path.{◌≡◌, refl, ap}
use mathlib.Core.Logic.{◌⊎◌, inl, inr}
use native.Mathlib.Omega.{arith}
use native.Mathlib.Decide.{ℕ_discrete}
use Rattle.figures.specs.declared.Content.{Content}
use Rattle.figures.specs.declared.Deed.{Deed}
use Rattle.figures.specs.declared.Next.{Next}
use Rattle.figures.specs.declared.Next.TheVariants.{To, Returns}
use Rattle.figures.proofs.Laws.{eq_case}
use Rattle.figures.proofs.World.{World, put, put_same, put_other, put_case, tick, act, exchange, raise, onward}
use Rattle.figures.proofs.Inv.{Core, Records, Exchange, Raising, Within}
use Rattle.figures.proofs.Guar.{Acting, Guar}
use Rattle.figures.proofs.Touch.{Log, log, Touch, quietly, closing, finding, exchanging, raising, ExchangesOp, RaisesOp, touch, Going}

-- What a part of a step leaves: each record's steps stay, or are set to one that fits.
abbrev Begins : World → World → ℕ → Type 0
Begins w w' o = (w'.first o ≡ w.first o) ⊎ ((w.first o ≡ 0) × (w'.first o ≤ w'.clock))

abbrev Swaps : ℕ → ℕ → ℕ → World → World → ℕ → Type 0
Swaps T n x w w' o = ((w'.exch o ≡ w.exch o) × (w'.target o ≡ w.target o)) ⊎ ((w.exch o ≡ 0) × Exchange T n x w' o)

abbrev Rises : ℕ → World → World → ℕ → Type 0
Rises x w w' o = (w'.raised o ≡ w.raised o) ⊎ Raising x w' o

pub record Recorded (T n x : ℕ) (w w' : World) : Type 0 where
  pub asked : w'.asked ≡ w.asked
  pub clock : w.clock ≤ w'.clock
  pub first : (o : ℕ) → Begins w w' o
  pub exch : (o : ℕ) → Swaps T n x w w' o
  pub raised : (o : ℕ) → Rises x w w' o
  pub read : (o : ℕ) → (w'.read o ≡ w.read o) ⊎ Within x (w'.first o) (w'.read o)
  pub last : (o : ℕ) → (w'.last o ≡ w.last o) ⊎ Within x (w'.first o) (w'.last o)

module _ (T n x x' : ℕ) (w w' : World) (later : x ≤ x') (r : Records T n x w) (k : Recorded T n x' w w') where
  -- an operation that has begun keeps its first step
  first_kept : (o : ℕ) → 0 < w.first o → w'.first o ≡ w.first o
  first_kept o h = go (k.first o)
    where
      go : Begins w w' o → w'.first o ≡ w.first o
      go (inl e) = e
      go (inr z) = absurd (omega arith)

  within_kept : (o s s' : ℕ) → Within x (w.first o) s → s' ≡ s → Within x' (w'.first o) s'
  within_kept o s s' a e = let f = first_kept o a.began in let b = a.began in let c = a.after in let d = a.past in omega arith

  exchange_kept : (o : ℕ) → w'.exch o ≡ w.exch o → w'.target o ≡ w.target o → Exchange T n x w o → Exchange T n x' w' o
  exchange_kept o e g a =
      let f = first_kept o a.began in
      record {
        inside = a.inside;
        thread = rw k.asked a.thread;
        does = rw k.asked a.does;
        began = omega (arith, a.began);
        after = omega (arith, a.after);
        past = omega (arith, a.past);
        aim = omega (arith, a.aim);
      }

  pub records_kept : Records T n x' w'
  records_kept =
      record {
        firsts = λ o. firsts o (k.first o);
        exchanges = λ o h. exchanges o h (k.exch o);
        raises = λ o h. raises o h (k.raised o) (k.exch o);
        reads = λ o h. withins o (w.read o) (w'.read o) (r.reads o) h (k.read o);
        ends = λ o h. withins o (w.last o) (w'.last o) (r.ends o) h (k.last o);
      }
    where
      firsts : (o : ℕ) → Begins w w' o → w'.first o ≤ w'.clock
      firsts o (inl e) = omega (arith, r.firsts o, k.clock)
      firsts o (inr z) = z.1

      exchanges : (o : ℕ) → 0 < w'.exch o → Swaps T n x' w w' o → Exchange T n x' w' o
      exchanges o h (inl e) = exchange_kept o e.0 e.1 (r.exchanges o (omega arith))
      exchanges o h (inr e) = e.1

      raises : (o : ℕ) → 0 < w'.raised o → Rises x' w w' o → Swaps T n x' w w' o → Raising x' w' o
      raises o h (inl e) (inl f) = let a = r.raises o (omega arith) in let b = a.exchanged in let c = a.after in let d = a.past in omega arith
      raises o h (inl e) (inr f) = absurd (omega (arith, (r.raises o (omega arith)).exchanged))
      raises o h (inr a) f = a

      withins : (o s s' : ℕ) → (0 < s → Within x (w.first o) s) → 0 < s' → (s' ≡ s) ⊎ Within x' (w'.first o) s' → Within x' (w'.first o) s'
      withins o s s' f h (inl e) = within_kept o s s' (f (omega arith)) e
      withins o s s' f h (inr a) = a

-- ---- The parts of a step.

-- a write at one place
put_or : (P : ℕ → ℕ → Type 0) (f : ℕ → ℕ) (i a j : ℕ) → P i a → (put f i a j ≡ f j) ⊎ P j (put f i a j)
put_or P f i a j p = put_case (λ (y : ℕ). (y ≡ f j) ⊎ P j y) f i a j (λ e. inr (rw e p)) (λ n. inl refl)

module _ (T n x : ℕ) (w : World) (c : Core T n x w) where
  r : Records T n x w
  r = c.records

  recorded_same : (x' : ℕ) (w' : World) → log w' ≡ log w → Recorded T n x' w w'
  recorded_same x' w' e =
      record {
        asked = ap (λ (l : Log). l.asked) e;
        clock = omega (arith, ap (λ (l : Log). l.clock) e);
        first = λ o. inl (ap (λ (l : Log). l.first o) e);
        exch = λ o. inl (ap (λ (l : Log). l.exch o) e, ap (λ (l : Log). l.target o) e);
        raised = λ o. inl (ap (λ (l : Log). l.raised o) e);
        read = λ o. inl (ap (λ (l : Log). l.read o) e);
        last = λ o. inl (ap (λ (l : Log). l.last o) e);
      }

  pub records_tick : (o : ℕ) → Records T n x (tick o w)
  records_tick o =
      records_kept T n x x w (tick o w) (omega arith) r
      (record { asked = refl; clock = omega arith; first = begins; exch = λ j. inl (refl, refl); raised = λ j. inl refl; read = λ j. inl refl; last = λ j. inl refl })
    where
      begins : (j : ℕ) → Begins w (tick o w) j
      begins j =
          put_case (λ (y : ℕ). (y ≡ w.first j) ⊎ ((w.first j ≡ 0) × (y ≤ suc w.clock))) w.first o _ j
          (λ e. eq_case (λ (y : ℕ). (y ≡ w.first j) ⊎ ((w.first j ≡ 0) × (y ≤ suc w.clock))) (w.first o) 0 _ _ (λ z. inr (rw e z, omega arith)) (λ z. inl (rw e)))
          (λ e. inl refl)

  -- a step at the clock of an operation that has begun
  now : (x' o : ℕ) → w.clock ≡ x' → 0 < w.first o → Within x' (w.first o) w.clock
  now x' o e h = omega (arith, r.firsts o)

  module _ (t o : ℕ) (by : Acting T n x w t o) where
    new_exchange : (g : ℕ) (k : Content) → ExchangesOp w o g → Exchange T n (suc x) (exchange o g k w) o
    new_exchange g k f =
        let p = put_same w.exch o w.clock in
        let q = put_same w.target o g in
        let b = by.clock in
        let a = f.aims in
        record {
          inside = by.inside;
          thread = rw by.thread by.runs;
          does = f.does;
          began = by.began;
          after = omega (arith, r.firsts o);
          past = omega arith;
          aim = omega arith;
        }

    new_raising : (a q g : ℕ) → RaisesOp w a q g → Raising (suc x) (raise a q g w) a
    new_raising a q g f =
        let p = put_same w.raised a w.clock in
        let b = by.clock in
        let e = (r.exchanges a f.exchanged).past in
        record { exchanged = f.exchanged; after = omega arith; past = omega arith }

    recorded : {w' : World} → Touch w o w' → Recorded T n (suc x) w w'
    recorded {w'} (quietly e f) = recorded_same (suc x) w' e
    recorded {w'} (closing s e f) = recorded_same (suc x) w' e
    recorded (finding k) =
        record { asked = refl; clock = omega arith; first = λ j. inl refl; exch = λ j. inl (refl, refl); raised = λ j. inl refl; read = λ j. put_or (λ (i y : ℕ). Within (suc x) (w.first i) y) w.read o w.clock j (now (suc x) o by.clock by.began); last = λ j. inl refl }
    recorded (exchanging g k f) =
        record { asked = refl; clock = omega arith; first = λ j. inl refl; exch = λ j. swap j (ℕ_discrete j o); raised = λ j. inl refl; read = λ j. inl refl; last = λ j. inl refl }
      where
        swap : (j : ℕ) → Dec (j ≡ o) → Swaps T n (suc x) w (exchange o g k w) j
        swap j (yes e) = rw e (inr (f.fresh, new_exchange g k f))
        swap j (no m) = inl (put_other w.exch o w.clock j m, put_other w.target o g j m)
    recorded (raising a q g f) =
        record { asked = refl; clock = omega arith; first = λ j. inl refl; exch = λ j. inl (refl, refl); raised = λ j. rise j (ℕ_discrete j a); read = λ j. inl refl; last = λ j. inl refl }
      where
        rise : (j : ℕ) → Dec (j ≡ a) → Rises (suc x) w (raise a q g w) j
        rise j (yes e) = rw e (inr (new_raising a q g f))
        rise j (no m) = inl (put_other w.raised a w.clock j m)

    pub records_act : (d : Deed) → Guar T x w t o d → Records T n (suc x) (act d t o w)
    records_act d g = records_kept T n x (suc x) w _ (omega arith) r (recorded (touch T n x w c t o by d g))

  pub records_onward : w.clock ≡ x → (t o : ℕ) (nx : Next) → Going x w t o nx → Records T n x (onward nx t o w)
  records_onward e t o (To p) g = records_kept T n x x w _ (omega arith) r (recorded_same x _ refl)
  records_onward e t o (Returns a) g =
      records_kept T n x x w _ (omega arith) r (record { asked = refl; clock = omega arith; first = λ j. inl refl; exch = λ j. inl (refl, refl); raised = λ j. inl refl; read = λ j. inl refl; last = λ j. put_or (λ (i y : ℕ). Within x (w.first i) y) w.last o w.clock j (now x o e g.began) })
