-- What the form in numbers says of an answer: it has one number and one place or one layout, so that two answers of one form are equal;
-- and what an accepted or refused file's reading is, for a caller of `read`, by what it promises.
use Prim.Native.Nat.{ℕ}
use mathlib.Core.Path.{◌≡◌, refl, sym, ap, ◌∙◌}
use mathlib.Core.List.{List}
use native.Mathlib.Omega.{arith}
use Rattle.std.specs.Prelude.{Result, Ok, Err}
use Rattle.runfile.specs.declared.Refusal.{Refusal}
use Rattle.runfile.specs.declared.Refused.{Refused}
use Rattle.runfile.specs.declared.Layout.{Layout}
use Rattle.runfile.specs.declared.Reading.{Reading}
use Rattle.runfile.specs.declared.Writing.{Writing}
use Rattle.runfile.specs.Refusals.{number_of}
use Rattle.runfile.specs.Rows.{Passes, Stops}
use Rattle.runfile.specs.Read.{rows, refused, accepted, read_of}
use Rattle.runfile.specs.Answers.{layout_of, reading_of, writing_of}
use Rattle.runfile.specs.Accepts.{Accepts}
use Rattle.runfile.proofs.Rows.{numbered, one_row, passed, stopped}
use Rattle.runfile.proofs.Accepts.{reading_accepts}

same_refused : (a b : Refused) → a.why ≡ b.why → a.place ≡ b.place → a ≡ b
same_refused a b e e' =
    ap (λ (w : Refusal). refusal w a.place) e ∙ ap (refusal b.why) e'
  where
    refusal : Refusal → ℕ → Refused
    refusal w p = record { why = w; place = p }

pub reading_once : (r s : Result Layout Refused) → reading_of r ≡ reading_of s → r ≡ s
reading_once (Ok l) (Ok m) e = ap (λ (x : Reading). Ok (layout_of x)) e
reading_once (Ok l) (Err b) e = absurd (omega (arith, numbered b.why, ap (λ (x : Reading). x.number) e))
reading_once (Err a) (Ok m) e = absurd (omega (arith, numbered a.why, ap (λ (x : Reading). x.number) e))
reading_once (Err a) (Err b) e =
    ap Err (same_refused a b (one_row a.why b.why (ap (λ (x : Reading). x.number) e)) (ap (λ (x : Reading). x.place) e))

pub writing_once : (r s : Result ℕ Refused) → writing_of r ≡ writing_of s → r ≡ s
writing_once (Ok n) (Ok m) e = ap (λ (x : Writing). Ok x.length) e
writing_once (Ok n) (Err b) e = absurd (omega (arith, numbered b.why, ap (λ (x : Writing). x.number) e))
writing_once (Err a) (Ok m) e = absurd (omega (arith, numbered a.why, ap (λ (x : Writing). x.number) e))
writing_once (Err a) (Err b) e =
    ap Err (same_refused a b (one_row a.why b.why (ap (λ (x : Writing). x.number) e)) (ap (λ (x : Writing). x.place) e))

-- what tests of all rows make of a file
module _ (f : List ℕ) where
  pub passed_reading : Passes (rows f) → reading_of (Ok (layout_of (accepted f))) ≡ read_of f
  unfolding read_of
  passed_reading ps = sym (passed refused (accepted f) (rows f) ps)

  pub stopped_reading : {r : Refusal} {p : ℕ} → Stops (rows f) r p → reading_of (Err (record { why = r; place = p })) ≡ read_of f
  unfolding read_of
  stopped_reading s = sym (stopped refused (accepted f) s)

-- a file that reads as a layout
module _ (f : List ℕ) (l : Layout) (e : reading_of (Ok l) ≡ read_of f) where
  pub accepted_number : (read_of f).number ≡ 0
  accepted_number = ap (λ (r : Reading). r.number) (sym e)

  pub accepted_place : (read_of f).place ≡ 0
  accepted_place = ap (λ (r : Reading). r.place) (sym e)

  pub accepted_threads : (read_of f).threads ≡ l.threads
  accepted_threads = ap (λ (r : Reading). r.threads) (sym e)

  pub accepted_keys : (read_of f).keys ≡ l.keys
  accepted_keys = ap (λ (r : Reading). r.keys) (sym e)

  pub accepted_counts : (read_of f).counts ≡ l.counts
  accepted_counts = ap (λ (r : Reading). r.counts) (sym e)

  pub accepted_operations_at : (read_of f).operations_at ≡ l.operations_at
  accepted_operations_at = ap (λ (r : Reading). r.operations_at) (sym e)

  pub accepted_operations : (read_of f).operations ≡ l.operations
  accepted_operations = ap (λ (r : Reading). r.operations) (sym e)

  pub accepted_schedule_at : (read_of f).schedule_at ≡ l.schedule_at
  accepted_schedule_at = ap (λ (r : Reading). r.schedule_at) (sym e)

  pub accepted_steps : (read_of f).steps ≡ l.steps
  accepted_steps = ap (λ (r : Reading). r.steps) (sym e)

  pub layout_accepts : Accepts f (reading_of (Ok l))
  layout_accepts = reading_accepts f (reading_of (Ok l)) e refl

-- a file that is refused
module _ (f : List ℕ) (x : Refused) (e : reading_of (Err x) ≡ read_of f) where
  pub refused_number : (read_of f).number ≡ number_of x.why
  refused_number = ap (λ (r : Reading). r.number) (sym e)

  pub refused_place : (read_of f).place ≡ x.place
  refused_place = ap (λ (r : Reading). r.place) (sym e)

  pub refused_not_zero : (read_of f).number ≡ 0 → ⊥
  refused_not_zero z = omega (arith, numbered x.why, refused_number)
