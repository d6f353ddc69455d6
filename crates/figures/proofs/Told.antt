-- What the records and traces hold are the events of the run: for every run within the limits.
use Prim.Native.Nat.{ℕ, ◌<◌}
use mathlib.Core.Path.{◌≡◌, refl, ap, ◌∙◌}
use mathlib.Core.Logic.{◌⊎◌, inl, inr}
use mathlib.Core.List.{List, [], ◌∷◌, ◌++◌}
use native.Mathlib.Omega.{arith}
use lib.ListN.{length}
use Rattle.terms.specs.declared.ThreadId.{ThreadId}
use Rattle.terms.specs.declared.OpId.{OpId}
use Rattle.terms.specs.declared.SnapshotId.{SnapshotId}
use Rattle.terms.specs.declared.Target.{Target}
use Rattle.figures.specs.declared.Record.{Record}
use Rattle.figures.specs.declared.Trace.{Trace}
use Rattle.figures.specs.declared.Machine.{Machine}
use Rattle.figures.specs.Figure4.{fresh_trace, no_trace, trace_at}
use Rattle.figures.specs.Step.{no_record, record_at, run_of}
use Rattle.figures.specs.Start.{start_of, unbegun}
use Rattle.figures.specs.Counts.{Within}
use Rattle.figures.specs.Events.{Exchange, Raising, SlotRead, Announcement, Lowering, Fixing, Return}
use Rattle.figures.proofs.Laws.{replicate_holds}
use Rattle.figures.proofs.Frame.{op_of, end_of}
use Rattle.figures.proofs.Begin.{start_records}
use Rattle.figures.proofs.Main.{Acts, Idles, run_world}
use Rattle.figures.proofs.Events.{Latest, Earliest, Only, Renews, Opens, Strikes, latest_step, earliest_step, only_step, latest_start, earliest_start, only_start}
use Rattle.figures.proofs.Struck.{ReadNow, ExchangedNow, RaisedNow, AnnouncedNow, LoweredNow, FixedNow, ReturnedNow, History, history_of, past, read_of, found_of, exchanged_of, target_of, raised_of, announced_of, closed_of, fixed_of, returned_of, Ahead, reads_now, exchanges_now, raises_now, announces_now, ahead_now, lowers_now, fixes_now, returns_now}

pub record Told (start : Machine) (s : List ℕ) (m : Machine) : Type 0 where
  pub exchanges : (x : OpId) → Only start (Exchange x) (exchanged_of x) (target_of x) s m
  pub raisings : (x : OpId) → Only start (λ (i : Unit {0}). Raising x) (raised_of x) (λ (m : Machine). tt) s m
  pub reads : (x : OpId) → Latest start (SlotRead x) (read_of x) (found_of x) s m
  pub announcements : (x : SnapshotId) → Only start (λ (i : Unit {0}). Announcement x) (announced_of x) (λ (m : Machine). tt) s m
  pub lowerings : (x : SnapshotId) → Earliest start (λ (i : Unit {0}). Lowering x) (closed_of x) (λ (m : Machine). tt) s m
  pub fixings : (x : SnapshotId) → Only start (λ (i : Unit {0}). Fixing x) (fixed_of x) (λ (m : Machine). tt) s m
  pub returns : (x : OpId) → Latest start (λ (i : Unit {0}). Return x) (returned_of x) (λ (m : Machine). tt) s m
  pub ahead : Ahead m

-- ---- An idle step is none of them.

module _ {T n : ℕ} {m m' : Machine} {t : ℕ} (start : Machine) (a : Idles T n m t m') where
  abbrev t' : ThreadId
  t' = record { 0 = t }

  same : past m' ≡ past m
  same = ap history_of a.after

  left : {A : Type 0} → op_of m t < end_of m t → A
  left l = absurd (omega (arith, a.none))

  exchanges_idle : (x : OpId) → ExchangedNow start m m' t' x
  exchanges_idle x = Strikes.keeps (λ c y. none y) (ap (λ (y : History). y.exch x.0) same) (λ i. record { 0 = (same i).target x.0 })
    where
      none : {c : Target} → Exchange x c m t' → ⊥
      none (Exchange.links b y z) = left y.inside.left
      none (Exchange.marks b b' y z) = left y.inside.left

  raises_idle : (x : OpId) → RaisedNow start m m' t' x
  raises_idle x = Strikes.keeps (λ i y. left y.does.inside.left) (ap (λ (y : History). y.raised x.0) same) refl

  reads_idle : (x : OpId) → ReadNow start m m' t' x
  reads_idle x =
      Renews.keeps (λ c y. left y.inside.left) (ap (λ (y : History). y.read x.0) same) (ap (λ (y : History). y.found x.0) same)

  announces_idle : (x : SnapshotId) → AnnouncedNow start m m' t' x
  announces_idle x = Strikes.keeps (λ i y. left y.does.inside.left) (ap (λ (y : History). y.ann x.0) same) refl

  lowers_idle : (x : SnapshotId) → LoweredNow start m m' t' x
  lowers_idle x = Opens.keeps (λ i y. left y.does.inside.left) (ap (λ (y : History). y.closed x.0) same) refl

  fixes_idle : (x : SnapshotId) → FixedNow start m m' t' x
  fixes_idle x = Strikes.keeps (λ i y. left y.does.inside.left) (ap (λ (y : History). y.fixed x.0) same) refl

  returns_idle : (x : OpId) → ReturnedNow start m m' t' x
  returns_idle x = Renews.keeps (λ i y. left y.inside.left) (λ i. (a.after i).last x.0) refl

  ahead_idle : Ahead m → Ahead m'
  ahead_idle h s l =
      let z = h s (omega (arith, ap (λ (y : History). y.cur) same)) in
      (ap (λ (y : History). y.ann s) same ∙ z.0, ap (λ (y : History). y.fixed s) same ∙ z.1)

-- ---- Every run.

module _ (threads keys : ℕ) (counts ops schedule : List ℕ) (within : Within threads keys counts ops schedule) where
  abbrev start : Machine
  start = start_of threads keys counts ops

  pub told_step : (s : List ℕ) (t : ℕ) (m m' : Machine) → m ≡ run_of start s → m.clock ≡ length s
      → Acts threads (length ops) m t m' ⊎ Idles threads (length ops) m t m' → Told start s m → Told start (s ++ t ∷ []) m'
  told_step s t m m' e c (inl a) h =
      record {
        exchanges = λ x. only_step start (Exchange x) (exchanged_of x) (target_of x) s t m m' e c (exchanges_now start a x) (h.exchanges x);
        raisings = λ x. only_step start _ (raised_of x) _ s t m m' e c (raises_now start a x) (h.raisings x);
        reads = λ x. latest_step start (SlotRead x) (read_of x) (found_of x) s t m m' e c (reads_now start a x) (h.reads x);
        announcements = λ x. only_step start _ (announced_of x) _ s t m m' e c (announces_now start a h.ahead x) (h.announcements x);
        lowerings = λ x. earliest_step start _ (closed_of x) _ s t m m' e c (lowers_now start a x) (h.lowerings x);
        fixings = λ x. only_step start _ (fixed_of x) _ s t m m' e c (fixes_now start a h.ahead x) (h.fixings x);
        returns = λ x. latest_step start _ (returned_of x) _ s t m m' e c (returns_now start a x) (h.returns x);
        ahead = ahead_now start a h.ahead;
      }
  told_step s t m m' e c (inr a) h =
      record {
        exchanges = λ x. only_step start (Exchange x) (exchanged_of x) (target_of x) s t m m' e c (exchanges_idle start a x) (h.exchanges x);
        raisings = λ x. only_step start _ (raised_of x) _ s t m m' e c (raises_idle start a x) (h.raisings x);
        reads = λ x. latest_step start (SlotRead x) (read_of x) (found_of x) s t m m' e c (reads_idle start a x) (h.reads x);
        announcements = λ x. only_step start _ (announced_of x) _ s t m m' e c (announces_idle start a x) (h.announcements x);
        lowerings = λ x. earliest_step start _ (closed_of x) _ s t m m' e c (lowers_idle start a x) (h.lowerings x);
        fixings = λ x. only_step start _ (fixed_of x) _ s t m m' e c (fixes_idle start a x) (h.fixings x);
        returns = λ x. latest_step start _ (returned_of x) _ s t m m' e c (returns_idle start a x) (h.returns x);
        ahead = ahead_idle start a h.ahead;
      }

  no_record_lem : (f : Record → ℕ) → f no_record ≡ 0 → ((t b : ℕ) → f (unbegun t b) ≡ 0) → (x : OpId) → f (record_at start x) ≡ 0
  no_record_lem f z u x = start_records threads keys counts ops (λ (r : Record). f r ≡ 0) z u x.0

  no_trace_lem : (f : Trace → ℕ) → f (fresh_trace 0) ≡ 0 → f no_trace ≡ 0 → (x : ℕ)
      → f (trace_at start.calculator (record { 0 = x })) ≡ 0
  unfolding start_of
  no_trace_lem f z u x = replicate_holds (λ (r : Trace). f r ≡ 0) 65 x (fresh_trace 0) no_trace z u

  pub told_start : Told start [] start
  told_start =
      record {
        exchanges =
            λ x. only_start start (Exchange x) (exchanged_of x) (target_of x)
            (no_record_lem (λ (r : Record). r.change.exchanged) refl (λ t b. refl) x);
        raisings = λ x. only_start start _ (raised_of x) _ (no_record_lem (λ (r : Record). r.change.raised) refl (λ t b. refl) x);
        reads =
            λ x. latest_start start (SlotRead x) (read_of x) (found_of x) (no_record_lem (λ (r : Record). r.look.read) refl (λ t b. refl) x);
        announcements = λ x. only_start start _ (announced_of x) _ (no_trace_lem (λ (r : Trace). r.announced) refl refl x.0);
        lowerings = λ x. earliest_start start _ (closed_of x) _ (no_trace_lem (λ (r : Trace). r.closed) refl refl x.0);
        fixings = λ x. only_start start _ (fixed_of x) _ (no_trace_lem (λ (r : Trace). r.fixed) refl refl x.0);
        returns = λ x. latest_start start _ (returned_of x) _ (no_record_lem (λ (r : Record). r.outcome.last) refl (λ t b. refl) x);
        ahead = λ s l. (no_trace_lem (λ (r : Trace). r.announced) refl refl s, no_trace_lem (λ (r : Trace). r.fixed) refl refl s);
      }

  pub told_run : Told start schedule (run_of start schedule)
  told_run =
      run_world threads keys counts ops schedule within (Told start) (λ s t m m' e l d y h. told_step s t m m' e d.clock y h) told_start
