-- The raiser that a record tells is the thread that the schedule names at the step of the raising: for every run within the limits.
use Prim.Native.Nat.{ℕ, suc, ◌-◌, ◌≤◌, ◌<◌}
use mathlib.Core.Path.{◌≡◌, refl, sym, ap, ◌∙◌, subst}
use mathlib.Core.Bool.{true}
use mathlib.Core.List.{List, [], ◌∷◌, ◌++◌}
use native.Mathlib.Omega.{arith}
use native.Mathlib.Decide.{ℕ_discrete, dec_lt}
use lib.ListN.{length, get_or, set, get_or-append}
use lib.Seq.{get_or-append_seam, get_or-set_other}
use Rattle.history.specs.Demand.{is_update}
use Rattle.terms.specs.declared.ThreadId.{ThreadId}
use Rattle.terms.specs.declared.OpId.{OpId}
use Rattle.figures.specs.declared.UpdateDeed.TheVariants.{Reads, Raises, Forwards}
use Rattle.figures.specs.declared.SizeDeed.TheVariants.{Looks, Announces, Collects, Lowers, Keeps, Fixes, Shares}
use Rattle.figures.specs.declared.Kind.{Kind}
use Rattle.figures.specs.declared.Kind.TheVariants.{Insertion, Deletion}
use Rattle.figures.specs.declared.Call.{Call}
use Rattle.figures.specs.declared.Update.{Update}
use Rattle.figures.specs.declared.Deed.{Deed}
use Rattle.figures.specs.declared.Deed.TheVariants.{Rests, Finds, Links, Marks, Unlinks, Updates, Sizes}
use Rattle.figures.specs.declared.Next.{Next}
use Rattle.figures.specs.declared.Next.TheVariants.{To, Returns}
use Rattle.figures.specs.declared.Record.{Record}
use Rattle.figures.specs.declared.Machine.{Machine}
use Rattle.figures.specs.Limits.{invalid}
use Rattle.figures.specs.Figure4.{more}
use Rattle.figures.specs.Step.{no_record, local_at, record_at, move_of, does, goes_on, ticked, accessed, step_of, run_of}
use Rattle.figures.specs.Start.{start_of}
use Rattle.figures.specs.Places.{ask_of}
use Rattle.figures.specs.Counts.{Within}
use Rattle.figures.specs.Events.{Raising, At}
use Rattle.figures.specs.Raisers.{RaiserIs, raised, none, Raisers}
use Rattle.figures.proofs.Laws.{set_field, set_case, more_is}
use Rattle.figures.proofs.Runs.{step_case}
use Rattle.figures.proofs.Shape.{Shape, shape_ticked}
use Rattle.figures.proofs.Frame.{record_of}
use Rattle.figures.proofs.Begin.{start_record}
use Rattle.figures.proofs.Sound.{length_snoc, run_keeps_within}
use Rattle.figures.proofs.World.{call_for, kind_of}
use Rattle.figures.proofs.Main.{inv_run}
use Rattle.figures.proofs.Told.{told_run}

-- ---- What a step does to the raising that is told of operation i: its step, and the thread that took it.

abbrev raising_in : Record → ℕ × ℕ
raising_in r = (r.change.raised, r.outcome.raiser)

abbrev raising_of : Machine → ℕ → ℕ × ℕ
raising_of m i = raising_in (record_of m i)

-- it is told now, or is as it was
data Tells (t : ThreadId) (i step : ℕ) (m m' : Machine) : Type 0 where
  now : raising_of m' i ≡ (step, t.0) → Tells t i step m m'
  same : raising_of m' i ≡ raising_of m i → Tells t i step m m'

module _ (t : ThreadId) (o : OpId) (i : ℕ) (m : Machine) where
  -- a record written with its raising as it was
  kept : (r : Record) → raising_in r ≡ raising_in (record_at m o) → raising_in (get_or (set m.records o.0 r) i no_record) ≡ raising_of m i
  kept r e = set_field raising_in m.records o.0 i r no_record e

  abbrev Says : Deed → Type 0
  Says d = Tells t i m.clock m (does d t o m)

  raises_tells : (u : Update) → i < length m.records → Dec (i ≡ u.node.op.0) → Says (Updates Raises u)
  raises_tells u h (yes e) =
      now
      (set_case (λ (r : Record). raising_in r ≡ (m.clock, t.0)) m.records u.node.op.0 i _ no_record (omega arith)
      (λ q. refl) (λ q. absurd (q e)))
  raises_tells u h (no n) = same (ap raising_in (get_or-set_other m.records u.node.op.0 i _ no_record n))

  does_tells : (d : Deed) → i < length m.records → Says d
  does_tells Rests h = same refl
  does_tells (Finds c) h = same (kept _ refl)
  does_tells (Links n) h = same (kept _ refl)
  does_tells (Marks n d) h = same (kept _ refl)
  does_tells Unlinks h = same refl
  does_tells (Updates Reads v) h = same refl
  does_tells (Updates Raises v) h = raises_tells v h (ℕ_discrete i v.node.op.0)
  does_tells (Updates (Forwards n) v) h = same refl
  does_tells (Sizes Looks) h = same refl
  does_tells (Sizes Announces) h = same refl
  does_tells (Sizes (Collects n j v)) h = same refl
  does_tells (Sizes (Lowers n)) h = same refl
  does_tells (Sizes (Keeps j v)) h = same refl
  does_tells (Sizes (Fixes n v)) h = same (kept _ refl)
  does_tells (Sizes (Shares n)) h = same (kept _ refl)

  goes_tells : (x : Next) → raising_of (goes_on x t o m) i ≡ raising_of m i
  goes_tells (To p) = refl
  goes_tells (Returns a) = kept _ refl

module _ (m : Machine) (t : ThreadId) (i : ℕ) (s : Shape m) (h : i < 64) where
  access_tells : (local_at m t).op.0 < (local_at m t).end.0 → Tells t i (more m.clock) m (accessed m t)
  unfolding accessed
  access_tells l = go (does_tells t o i (ticked o m) (move_of m t).deed (omega (arith, (shape_ticked o m s).records)))
    where
      o : OpId
      o = (local_at m t).op

      done : Machine
      done = does (move_of m t).deed t o (ticked o m)

      end : raising_of (goes_on (move_of m t).next t o done) i ≡ raising_of done i
      end = goes_tells t o i done (move_of m t).next

      go : Tells t i (more m.clock) (ticked o m) done → Tells t i (more m.clock) m (goes_on (move_of m t).next t o done)
      go (now r) = now (end ∙ r)
      go (same r) = same (end ∙ r ∙ kept t o i m _ refl)

  step_tells : Tells t i (more m.clock) m (step_of m t)
  step_tells = step_case (Tells t i (more m.clock) m) m t access_tells (λ l. same refl)

-- ---- Every run.

-- a raising that is told is a step of the schedule, with the thread that it names there
record Fits (s : List ℕ) (x : ℕ × ℕ) : Type 0 where
  none_told : x.0 ≡ 0 → x.1 ≡ invalid
  past : x.0 ≤ length s
  named : 0 < x.0 → x.1 ≡ get_or s (x.0 - 1) 0

module _ (s : List ℕ) (t : ℕ) where
  fits_now : Fits (s ++ t ∷ []) (suc (length s), t)
  fits_now =
      let k : suc (length s) - 1 ≡ length s = omega arith in
      record {
        none_told = λ e. absurd (omega arith);
        past = omega (arith, length_snoc s t);
        named = λ l. sym (rw k (get_or-append_seam s t [] 0));
      }

  fits_later : {x : ℕ × ℕ} → Fits s x → Fits (s ++ t ∷ []) x
  fits_later {x} f =
      record {
        none_told = f.none_told;
        past = omega (arith, f.past, length_snoc s t);
        named = λ l. f.named l ∙ sym (get_or-append s (t ∷ []) 0 (x.0 - 1) (omega (arith, f.past)));
      }

  fits_step : {m m' : Machine} {i step : ℕ} → step ≡ suc (length s) → Tells (record { 0 = t }) i step m m' → Fits s (raising_of m i)
      → Fits (s ++ t ∷ []) (raising_of m' i)
  fits_step e (now r) f = subst (Fits (s ++ t ∷ [])) (sym r) (rw e fits_now)
  fits_step e (same r) f = subst (Fits (s ++ t ∷ [])) (sym r) (fits_later f)

module _ (threads keys : ℕ) (counts ops schedule : List ℕ) (within : Within threads keys counts ops schedule) where
  abbrev start : Machine
  start = start_of threads keys counts ops

  abbrev Kept : List ℕ → Machine → Type 0
  Kept s m = (i : ℕ) → i < length ops → Fits s (raising_of m i)

  untold : Kept [] start
  untold i l =
      subst (Fits []) (sym (ap raising_in (start_record counts threads keys ops i within.at_most_operations l)))
      (record { none_told = λ e. refl; past = omega arith; named = λ h. absurd (omega arith) })

  kept_run : Kept schedule (run_of start schedule)
  kept_run =
      (run_keeps_within threads keys counts ops schedule within Kept
      (λ s t m e l h d k i il.
      fits_step s t (more_is m.clock (omega (arith, d.clock)) ∙ ap suc d.clock)
      (step_tells m (record { 0 = t }) i d.shape (omega (arith, within.at_most_operations))) (k i il))
      untold).1

  -- an update is raised at one step, and is an insert or a delete
  only_at : (o : OpId) (s : ℕ) → At start schedule (Raising o) s → s ≡ (record_at (run_of start schedule) o).change.raised
  only_at o s a = ((told_run threads keys counts ops schedule within).raisings o).only tt s a

  made : (k : Kind) (key : ℕ) → is_update (ask_of (call_for k) key) ≡ true
  made Insertion key = refl
  made Deletion key = refl

  raiser_is : (o : OpId) → o.0 < length ops → Dec (0 < (record_at (run_of start schedule) o).change.raised)
      → RaiserIs start schedule o (record_at (run_of start schedule) o).outcome.raiser
  raiser_is o l (yes h) =
      subst (RaiserIs start schedule o) (sym ((kept_run o.0 l).named h))
      (raised _ (((told_run threads keys counts ops schedule within).raisings o).told h))
  raiser_is o l (no n) =
      subst (RaiserIs start schedule o) (sym ((kept_run o.0 l).none_told (omega arith)))
      (none (λ s a. omega (arith, only_at o s a, a.some)))

  pub raisers_run : Raisers start schedule (length ops) (run_of start schedule)
  raisers_run =
      record {
        raiser = λ o l. raiser_is o l (dec_lt 0 (record_at (run_of start schedule) o).change.raised);
        once = λ o s s' a b. only_at o s a ∙ sym (only_at o s' b);
        updates = λ o s a.
            let i = (inv_run threads keys counts ops schedule within).1.core.records in
            let r = i.raises o.0 (omega (arith, only_at o s a, a.some)) in
            let x = (record_at (run_of start schedule) o).asked in
            ap (λ (c : Call). is_update (ask_of c x.key)) (i.exchanges o.0 r.exchanged).does ∙ made (kind_of x.call) x.key;
      }
