-- A file that reading accepts asks for a run within the limits.
use Prim.Native.Nat.{ℕ, zero, suc, ◌+◌, ◌-◌, ◌*◌, ◌≤◌, ◌<◌}
use mathlib.Core.Path.{◌≡◌, refl, sym, ap, ◌∙◌, subst}
use mathlib.Core.List.{List, [], ◌∷◌}
use native.Mathlib.Omega.{arith}
use lib.ListN.{length, get_or, take, drop, length-take, length-drop}
use lib.Seq.{get_or-take, get_or-drop}
use Rattle.figures.specs.Codec.{key_of}
use Rattle.figures.specs.Start.{start_of}
use Rattle.figures.specs.Step.{run_of}
use Rattle.figures.specs.Counts.{Within, Counted, SizeSteps, ops_before}
use Rattle.figures.proofs.Codec.{allowed_key}
use Rattle.runfile.specs.Rows.{sum_to}
use Rattle.runfile.specs.Layout.{count_of}
use Rattle.std.specs.Prelude.{Ok}
use Rattle.runfile.specs.declared.Layout.{Layout}
use Rattle.runfile.specs.declared.Reading.{Reading}
use Rattle.runfile.specs.Answers.{reading_of}
use Rattle.runfile.proofs.Answers.{layout_accepts}
use Rattle.runfile.specs.Read.{read_of}
use Rattle.runfile.specs.Accepts.{Accepts}
use Rattle.runfile.proofs.Accepts.{accepts}
use Rattle.runfile.proofs.Laws.{sum_head, sum_zeros}
use Rattle.history.specs.Order.{Sorted, NeverFalling}
use Rattle.history.specs.Demand.{Demand}
use Rattle.figures.specs.declared.Machine.{Machine}
use Rattle.figures.specs.Ranges.{Limited, Unwrapped, Sums}
use Rattle.figures.specs.Rules.{Agrees}
use Rattle.figures.specs.Raisers.{Raisers, Reports, RaiserIs}
use Rattle.figures.specs.declared.Record.{Record}
use Rattle.figures.specs.Step.{no_record}
use Rattle.figures.proofs.Sound.{sound_run}
use Rattle.play.proofs.Results.{fifth_at}
use Rattle.figures.specs.Places.{course_of, order_of, ordered_of, log_of}
use Rattle.figures.proofs.Counted.{counted_run, size_steps_run}
use Rattle.figures.proofs.Limited.{limited_run, unwrapped, sums_run}
use Rattle.figures.proofs.Rules.{agrees_run}
use Rattle.figures.proofs.Raisers.{raisers_run}
use Rattle.figures.proofs.MetadataUpdates.{reports_run}
use Rattle.figures.proofs.Demand.{demand_run}
use Rattle.play.specs.Run.{operations_of, schedule_of, count_of as operation_count, machine_of, results_of, per_operation}
use Rattle.play.specs.Meets.{Meets}

-- a thread's operations begin after the sum of the counts before it
before_sum : (counts : List ℕ) (t : ℕ) → ops_before counts t ≡ sum_to (count_of counts) t
unfolding sum_to
before_sum counts zero = refl
before_sum [] (suc t) = sym (sum_zeros (count_of []) 0 (suc t) (omega arith) (λ i h. refl))
before_sum (c ∷ counts) (suc t) = ap (λ (n : ℕ). c + n) (before_sum counts t) ∙ sym (sum_head (count_of (c ∷ counts)) t)

module _ (f : List ℕ) (ok : (read_of f).number ≡ 0) where
  a : Accepts f (read_of f)
  a = accepts f ok

  pub operations_length : length (operations_of f) ≡ (read_of f).operations
  operations_length = simp (length-take, length-drop) (omega (arith, a.schedule_next, a.file_ends))

  pub schedule_length : length (schedule_of f) ≡ (read_of f).steps
  schedule_length = simp (length-take, length-drop) (omega (arith, a.schedule_next, a.file_ends))

  byte_at : (o : ℕ) → o < (read_of f).operations → get_or (operations_of f) o 0 ≡ get_or f ((read_of f).operations_at + o) 0
  byte_at o h = rw (get_or-take, get_or-drop)

  step_at : (s : ℕ) → s < (read_of f).steps → get_or (schedule_of f) s 0 ≡ get_or f ((read_of f).schedule_at + s) 0
  step_at s h = rw (get_or-take, get_or-drop)

  byte : (o : ℕ) → o < length (operations_of f) → (get_or (operations_of f) o 0 < 256) × (key_of (get_or (operations_of f) o 0) < (read_of f).keys)
  byte o h =
      let l : o < (read_of f).operations = omega (arith, operations_length) in
      rw (byte_at o l) (allowed_key (read_of f).keys _ a.keys_low (a.operations_allowed ((read_of f).operations_at + o) (omega arith) (omega (arith, a.schedule_next))))

  pub within : Within (read_of f).threads (read_of f).keys (read_of f).counts (operations_of f) (schedule_of f)
  within =
      record {
        some_threads = a.threads_low;
        at_most_threads = a.threads_high;
        some_keys = a.keys_low;
        at_most_keys = a.keys_high;
        counted = a.counts_eight;
        absent = a.counts_absent;
        operations = before_sum (read_of f).counts 8 ∙ a.counts_sum 8 a.threads_high ∙ sym operations_length;
        at_most_operations = omega (arith, operations_length, a.operations_few);
        bytes = λ o h. (byte o h).0;
        keyed = λ o h. (byte o h).1;
        at_most_steps = omega (arith, schedule_length, a.steps_few);
        steps = λ s h. let l : s < (read_of f).steps = omega (arith, schedule_length) in
            rw (step_at s l) (a.steps_named ((read_of f).schedule_at + s) (omega arith) (omega (arith, a.file_ends)));
      }

-- the parts that reading tells lie in the file
pub laid_out : (f : List ℕ) (l : Layout) → reading_of (Ok l) ≡ read_of f → (l.operations_at ≤ l.schedule_at) × (l.schedule_at ≤ length f)
laid_out f l e = let a = layout_accepts f l e in (omega (arith, a.schedule_next), omega (arith, a.file_ends))

-- what is played: the parts of the file that reading tells
pub played_is : (f : List ℕ) (r : Reading) → r ≡ read_of f → r.number ≡ 0
    → run_of (start_of r.threads r.keys r.counts (take (r.schedule_at - r.operations_at) (drop r.operations_at f)))
    (take (length f - r.schedule_at) (drop r.schedule_at f))
    ≡ machine_of f
unfolding machine_of
played_is f r e z =
    let a = accepts f (ap (λ (x : Reading). x.number) (sym e) ∙ z) in
    let o : (read_of f).schedule_at - (read_of f).operations_at ≡ (read_of f).operations = omega (arith, a.schedule_next) in
    let s : length f - (read_of f).schedule_at ≡ (read_of f).steps = omega (arith, a.file_ends) in
    rw (e, o, s)

-- ---- What holds of the run of every accepted file.

abbrev start_of_file : List ℕ → Machine
start_of_file f = start_of (read_of f).threads (read_of f).keys (read_of f).counts (operations_of f)

module _ (f : List ℕ) (ok : (read_of f).number ≡ 0) where
  -- what holds of a run within the limits holds of it
  held : (Q : ℕ → Machine → Type 0) → Q (length (operations_of f)) (run_of (start_of_file f) (schedule_of f))
      → Q (operation_count f) (machine_of f)
  unfolding machine_of
  held Q h = subst (λ (n : ℕ). Q n (machine_of f)) (operations_length f ok) h

  -- demand 3, and the bound on the steps of a size
  pub demand_held : Meets f
  demand_held =
      record {
        demand = held (λ n m. Demand n (course_of m)) (demand_run _ _ _ _ _ (within f ok));
        sizes = held (SizeSteps (read_of f).threads) (size_steps_run _ _ _ _ _ (within f ok));
      }

  -- so the log is sorted by place, and its steps never fall
  pub order_held : Sorted (order_of (machine_of f)) (ordered_of (machine_of f) (operation_count f))
      × NeverFalling 0 (log_of (machine_of f) (operation_count f))
  order_held = (demand_held.demand.sorts, demand_held.demand.climbs)

  -- each place is the one that document 01's rules tell over the run, and they tell no other
  pub places_held : Agrees (start_of_file f) (schedule_of f) (operation_count f) (machine_of f)
  places_held = held (Agrees (start_of_file f) (schedule_of f)) (agrees_run _ _ _ _ _ (within f ok))

  -- the fifth number of each operation is who raised it, and an update of the metadata reports whether it did
  pub raisers_held : Raisers (start_of_file f) (schedule_of f) (operation_count f) (machine_of f)
  raisers_held = held (Raisers (start_of_file f) (schedule_of f)) (raisers_run _ _ _ _ _ (within f ok))

  pub reports_held : Reports (start_of_file f) (schedule_of f)
  reports_held = reports_run _ _ _ _ _ (within f ok)

  -- own, idle and snapshot counts are what their words say
  pub counts_held : Counted (start_of_file f) (operation_count f) (schedule_of f) (machine_of f)
  counts_held = held (λ n m. Counted (start_of_file f) n (schedule_of f) m) (counted_run _ _ _ _ _ (within f ok))

  -- every number of the state is one that there is
  pub bounds_held : Limited (read_of f).keys (operation_count f) (machine_of f)
  bounds_held = held (Limited (read_of f).keys) (limited_run _ _ _ _ _ (within f ok))

  -- so no number comes to a limit of its type, and one more is one more wherever a step counts
  pub unwrapped_held : Unwrapped (machine_of f)
  unwrapped_held = unwrapped (read_of f).keys (operation_count f) (machine_of f) bounds_held

  -- no sum is below zero, and no size is above the number of keys
  pub sums_held : Sums (read_of f).keys (machine_of f)
  sums_held = held (λ n m. Sums (read_of f).keys m) (sums_run _ _ _ _ _ (within f ok))

  -- the fifth number that is handed back of an operation, over the schedule
  pub fifth_held : (o : ℕ) → o < operation_count f
      → RaiserIs (start_of_file f) (schedule_of f) (record { 0 = o }) (get_or (results_of f) (per_operation * o + 4) 0)
  fifth_held o h =
      let n = operation_count f in
      let l : length (machine_of f).records ≡ 64 = held (λ k m. length m.records ≡ 64) (sound_run _ _ _ _ _ (within f ok)).shape.records in
      let few : n ≤ 64 = (accepts f ok).operations_few in
      let t : length (take n (machine_of f).records) ≡ n = simp length-take (omega (arith, l, few)) in
      let e : get_or (take n (machine_of f).records) o no_record ≡ get_or (machine_of f).records o no_record = get_or-take n _ o no_record h in
      subst (RaiserIs (start_of_file f) (schedule_of f) (record { 0 = o }))
      (sym (fifth_at (take n (machine_of f).records) o (omega (arith, t)) ∙ ap (λ (r : Record). r.outcome.raiser) e))
      (raisers_held.raiser (record { 0 = o }) h)
