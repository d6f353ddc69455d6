-- What a run tells, by which test decided.
use Prim.Native.Nat.{ℕ, ◌*◌, ◌≤◌}
use mathlib.Core.Path.{◌≡◌, refl, sym, ap, ◌∙◌}
use mathlib.Core.Logic.{◌≢◌}
use mathlib.Core.Bool.{Bool, true, false, cond}
use mathlib.Core.List.{List, []}
use native.Mathlib.Omega.{arith}
use lib.ListN.{length, take}
use lib.Seq.{sets}
use lib.Dec.{ltb}
use borrow.Author.Tests.{le-ltb, eq-eqb, ne_eqb}
use Rattle.std.specs.Prelude.{None, Some}
use Rattle.history.specs.Order.{Entry}
use Rattle.history.proofs.Split.{or_second}
use Rattle.figures.specs.declared.Counts.{Counts}
use Rattle.figures.specs.declared.Snapshot.{Snapshot}
use Rattle.figures.specs.declared.Machine.{Machine}
use Rattle.figures.specs.Places.{log_of}
use Rattle.machine.specs.declared.Rest.{Rest}
use Rattle.machine.specs.Parts.{whole_of}
use Rattle.places.specs.Written.{numbers_of, held_of, log_lacks, logged_of}
use Rattle.places.proofs.Held.{held_all}
use Rattle.places.proofs.History.{log_told}
use Rattle.runfile.specs.Read.{read_of}
use Rattle.runfile.proofs.Accepts.{accepts}
use Rattle.play.specs.Run.{machine_of, count_of, per_operation, results_of, entries_of, fives_of, number_of, refused, told_of, when, lacks, lack_number, handed_told}

-- ---- Handing back.

-- what is written and told of a log says whether there was room for it
no_log : (b : Bool) (es : List Entry) → logged_of b es ≡ None → b ≡ true
no_log true es e = refl
no_log false es e = cc

some_log : (b : Bool) (es : List Entry) (k : ℕ) → logged_of b es ≡ Some k → (b ≡ false) × (k ≡ length es)
some_log true es k e = cc
some_log false es k e = (refl, cc)

module _ (n results log : ℕ) where
  -- where there is no log room is lacking, and where there is one, and room for the results, it is not
  pub lacks_log : (es : List Entry) → logged_of (log_lacks (held_of n) log) es ≡ None → (lacks n results log ≡ true) × (log_lacks (held_of n) log ≡ true)
  lacks_log es e = let b = no_log _ es e in (or_second (ltb results (per_operation * held_of n)) b, b)

  pub has_log : (es : List Entry) (k : ℕ) → logged_of (log_lacks (held_of n) log) es ≡ Some k → per_operation * held_of n ≤ results
      → (lacks n results log ≡ false) × (k ≡ length es) × (log_lacks (held_of n) log ≡ false)
  has_log es k e h = let s = some_log _ es k e in (rw (le-ltb results (per_operation * held_of n) h) s.0, s.1, s.0)

  -- where room is lacking the number is 11, and otherwise 0
  pub lacking : lacks n results log ≡ true → lack_number n results log ≢ 0
  lacking e z = let y : lack_number n results log ≡ 11 = rw e in omega (arith, y, z)

  pub lacking_none : lacks n results log ≡ false → lack_number n results log ≡ 0
  lacking_none e = rw e

-- what is told where there is room
pub hands_told : (m : Machine) (n results log : ℕ) {entries : ℕ} → lacks n results log ≡ false → entries ≡ length (log_of m (held_of n))
    → record { number = 0; place = 0; entries = entries; idle = m.idle; snapshots = m.calculator.current.0 } ≡ handed_told m n results log
hands_told m n results log e k = rw (k, e)

-- whatever the counters and the table are
module _ (m : Rest) (b : List Counts) (t : List Snapshot) where
  log_any : (n : ℕ) → log_of (whole_of m [] []) n ≡ log_of (whole_of m b t) n
  log_any n = sym (log_told (whole_of m [] []) n) ∙ log_told (whole_of m b t) n

  hands_any : (n results log : ℕ) → handed_told (whole_of m [] []) n results log ≡ handed_told (whole_of m b t) n results log
  hands_any n results log =
      ap
      (λ (es : List Entry). cond (lacks n results log) (refused 11 0)
      (record { number = 0; place = 0; entries = length es; idle = m.idle; snapshots = m.current.0 }))
      (log_any (held_of n))

-- a refusal writes nothing
pub unwritten : {A : Type 0} {n : ℕ} (l xs : List A) → n ≢ 0 → l ≡ sets l 0 (when n xs)
unwritten {n = n} l xs h = rw (ne_eqb n 0 h)

pub is_written : {A : Type 0} {n : ℕ} (l xs : List A) → n ≡ 0 → sets l 0 xs ≡ sets l 0 (when n xs)
is_written {n = n} l xs h = rw (eq-eqb n 0 h)

-- ---- Of a file: by reading, and otherwise as its machine is handed back.

module _ (f : List ℕ) (results log : ℕ) where
  module _ (ok : (read_of f).number ≡ 0) where
    -- a machine holds all operations of an accepted file
    held_file : held_of (count_of f) ≡ count_of f
    held_file = held_all (count_of f) (accepts f ok).operations_few

    pub told_file : handed_told (machine_of f) (count_of f) results log ≡ told_of f results log
    told_file = rw (eq-eqb (read_of f).number 0 ok, held_file)

    pub number_file : lack_number (count_of f) results log ≡ number_of f results log
    number_file = rw (eq-eqb (read_of f).number 0 ok, held_file)

    -- what is handed back of the rest of its machine is what is handed back of the file
    pub record AsFile (m : Rest) (n : ℕ) : Type 0 where
      pub told : handed_told (whole_of m [] []) n results log ≡ told_of f results log
      pub in_results : (l : List ℕ)
          → sets l 0 (when (lack_number n results log) (fives_of (take (held_of n) m.records)))
          ≡ sets l 0 (when (number_of f results log) (results_of f))
      pub in_log : (l : List ℕ)
          → sets l 0 (when (lack_number n results log) (numbers_of (log_of (whole_of m [] []) (held_of n))))
          ≡ sets l 0 (when (number_of f results log) (entries_of f))

    -- what is written of as many operations as a machine holds is what is written of the file's
    written_file : {A : Type 0} (xs : ℕ → List A)
        → when (lack_number (count_of f) results log) (xs (held_of (count_of f))) ≡ when (number_of f results log) (xs (count_of f))
    written_file xs =
        ap (λ (k : ℕ). when (lack_number (count_of f) results log) (xs k)) held_file ∙ ap (λ (k : ℕ). when k (xs (count_of f))) number_file

    -- whatever the counters and the table are
    pub hands_file : {m : Rest} {b : List Counts} {t : List Snapshot} {n : ℕ} → whole_of m b t ≡ machine_of f → n ≡ count_of f → AsFile m n
    hands_file {m} {b} {t} {n} is all =
        record {
          told = hands_any m b t n results log
              ∙ ap (λ (x : Machine). handed_told x n results log) is
              ∙ ap (λ (k : ℕ). handed_told (machine_of f) k results log) all
              ∙ told_file;
          in_results = λ l.
              ap (λ (x : Machine). sets l 0 (when (lack_number n results log) (fives_of (take (held_of n) x.records)))) is
              ∙ ap (λ (k : ℕ). sets l 0 (when (lack_number k results log) (fives_of (take (held_of k) (machine_of f).records)))) all
              ∙ ap (sets l 0) (written_file (λ k. fives_of (take k (machine_of f).records)));
          in_log = λ l.
              ap (λ (es : List Entry). sets l 0 (when (lack_number n results log) (numbers_of es))) (log_any m b t (held_of n))
              ∙ ap (λ (x : Machine). sets l 0 (when (lack_number n results log) (numbers_of (log_of x (held_of n))))) is
              ∙ ap (λ (k : ℕ). sets l 0 (when (lack_number k results log) (numbers_of (log_of (machine_of f) (held_of k))))) all
              ∙ ap (sets l 0) (written_file (λ k. numbers_of (log_of (machine_of f) k)));
        }
