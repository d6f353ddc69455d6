-- Before the first step: the sizes among the operation bytes are counted, and a file that reading accepts is opened or refused.
use Prim.Native.Nat.{ℕ, ◌+◌, ◌-◌, ◌≤◌, ◌<◌}
use mathlib.Core.Path.{◌≡◌, refl, sym, ap, ◌∙◌}
use mathlib.Core.Bool.{Bool, true, false, cond}
use mathlib.Core.List.{List}
use native.Mathlib.Omega.{arith}
use lib.ListN.{length, take, drop}
use borrow.Author.Tests.{lt-ltb, le-ltb, eq-eqb}
use Rattle.std.specs.Prelude.{Ok}
use Rattle.std.specs.List.{count_by}
use Rattle.std.proofs.lemmas.List.Recursion.{is_sum_by}
use Rattle.history.proofs.Split.{or_second}
use Rattle.figures.specs.Codec.{call_of, is_size}
use Rattle.figures.specs.Start.{start_of}
use Rattle.runfile.specs.declared.Refusal.TheVariants.{TooSmall}
use Rattle.runfile.specs.declared.Layout.{Layout}
use Rattle.runfile.specs.declared.Reading.{Reading}
use Rattle.runfile.specs.Accepts.{Accepts}
use Rattle.runfile.specs.Read.{read_of}
use Rattle.runfile.specs.Answers.{reading_of}
use Rattle.runfile.proofs.Answers.{accepted_number, accepted_threads, accepted_keys, accepted_counts, accepted_operations, layout_accepts}
use Rattle.places.proofs.Held.{held_all}
use Rattle.play.specs.Run.{operations_of, schedule_of, lacks, too_small, too_small_for}
use Rattle.lent.specs.Table.{sizes_of}
use Rattle.lent.specs.Runs.{lent_small, Opens, Refuses}

-- ---- Counting the sizes.

pub sizes_counted : (ops : List ℕ) → sizes_of ops ≡ count_by (λ b. is_size (call_of b)) ops
unfolding sizes_of
sizes_counted = is_sum_by sizes_of (λ b. cond (is_size (call_of b)) 1 0) refl (λ b ops. refl)

-- ---- A file that reads as a layout.

module _ (f : List ℕ) (l : Layout) (e : reading_of (Ok l) ≡ read_of f) where
  pub lies : Accepts f (reading_of (Ok l))
  lies = layout_accepts f l e

  operations_part : take (l.schedule_at - l.operations_at) (drop l.operations_at f) ≡ operations_of f
  operations_part =
      let o : l.schedule_at - l.operations_at ≡ l.operations = omega (arith, lies.schedule_next) in
      rw o (ap (λ (r : Reading). take r.operations (drop r.operations_at f)) e)

  pub schedule_part : take (length f - l.schedule_at) (drop l.schedule_at f) ≡ schedule_of f
  schedule_part =
      let s : length f - l.schedule_at ≡ l.steps = omega (arith, lies.file_ends) in
      rw s (ap (λ (r : Reading). take r.steps (drop r.schedule_at f)) e)

  pub start_is : start_of l.threads l.keys l.counts (take (l.schedule_at - l.operations_at) (drop l.operations_at f))
      ≡ start_of (read_of f).threads (read_of f).keys (read_of f).counts (operations_of f)
  start_is = rw (accepted_threads f l e, accepted_keys f l e, accepted_counts f l e, operations_part)

  module _ (results log table : ℕ) {lacking : Bool} (lacking_is : lacking ≡ lacks l.operations results log) where
    room_is : lacking ≡ too_small f results log
    room_is = lacking_is ∙ ap (λ (n : ℕ). too_small_for n results log) (held_all l.operations lies.operations_few ∙ sym (accepted_operations f l e))

    -- where room is lacking, of the table or of what is handed back, that is told
    pub small_refused : lent_small f results log table ≡ true → Refuses f results log table (record { why = TooSmall; place = 0 })
    small_refused h = let z = eq-eqb (read_of f).number 0 (accepted_number f l e) in record { number = rw (z, h); told = rw (z, h) }

    pub lacking_refused : lacking ≡ true → Refuses f results log table (record { why = TooSmall; place = 0 })
    lacking_refused h = small_refused (rw (sym room_is ∙ h))

    module _ {sizes : ℕ} (counted : sizes ≡ sizes_of (take (l.schedule_at - l.operations_at) (drop l.operations_at f))) where
      sizes_are : sizes ≡ sizes_of (operations_of f)
      sizes_are = counted ∙ ap sizes_of operations_part

      pub table_refused : table ≤ sizes → Refuses f results log table (record { why = TooSmall; place = 0 })
      table_refused h = small_refused (or_second (too_small f results log) (lt-ltb table (sizes_of (operations_of f) + 1) (omega (arith, sizes_are))))

      pub room_opens : lacking ≡ false → sizes < table → Opens f results log table l
      room_opens h k =
          let z = eq-eqb (read_of f).number 0 (accepted_number f l e) in
          let t : too_small f results log ≡ false = sym room_is ∙ h in
          let u = le-ltb table (sizes_of (operations_of f) + 1) (omega (arith, sizes_are)) in
          record { accepted = rw (z, t, u); read = e }
