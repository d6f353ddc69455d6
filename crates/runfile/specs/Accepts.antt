-- What an accepted reading says of the file.
use Rattle.std.specs.Prelude.{ℕ, ◌+◌, ◌<◌, ◌≤◌, ◌≡◌, true, List, length, get_or}
use Rattle.figures.specs.Limits.{most_threads, most_keys, most_operations, most_steps}
use Rattle.figures.specs.Codec.{allowed}
use Rattle.runfile.specs.Rows.{sum_to}
use Rattle.runfile.specs.Layout.{body_at, count_in, count_of}
use Rattle.runfile.specs.declared.Reading.{Reading}

pub record Accepts (f : List ℕ) (r : Reading) : Type 0 where
  pub threads_low : 1 ≤ r.threads
  pub threads_high : r.threads ≤ most_threads
  pub keys_low : 1 ≤ r.keys
  pub keys_high : r.keys ≤ most_keys
  pub counts_eight : length r.counts ≡ most_threads
  pub counts_present : (i : ℕ) → i < r.threads → get_or r.counts i 0 ≡ count_in f i
  pub counts_absent : (i : ℕ) → r.threads ≤ i → get_or r.counts i 0 ≡ 0
  -- of the present threads, or of some absent ones too
  pub counts_sum : (n : ℕ) → r.threads ≤ n → sum_to (count_of r.counts) n ≡ r.operations
  pub operations_few : r.operations ≤ most_operations
  pub steps_few : r.steps ≤ most_steps
  pub operations_first : r.operations_at ≡ body_at r.threads
  pub schedule_next : r.operations_at + r.operations ≡ r.schedule_at
  pub file_ends : r.schedule_at + r.steps ≡ length f
  pub operations_allowed : (p : ℕ) → r.operations_at ≤ p → p < r.schedule_at
      → allowed r.keys (get_or f p 0) ≡ true
  pub steps_named : (p : ℕ) → r.schedule_at ≤ p → p < length f → get_or f p 0 < r.threads
