-- Demand 3 at the end of a run: the courses of the machine's operations have the facts that `history` asks.
use Prim.Native.Nat.{ℕ, ◌≤◌, ◌<◌}
use mathlib.Core.Path.{◌≡◌}
use mathlib.Core.List.{List}
use borrow.Author.Tests.{lt-ltb}
use Rattle.history.specs.Demand.{Demand}
use Rattle.history.proofs.Facts.{Account, Facts}
use Rattle.history.proofs.Keyed.{account_change}
use Rattle.history.proofs.Replay.{demanded}
use Rattle.figures.specs.declared.Machine.{Machine}
use Rattle.figures.specs.Counts.{ops_before}
use Rattle.figures.specs.Places.{course_of}
use Rattle.figures.proofs.World.{World}
use Rattle.figures.proofs.Inv.{Inv}
use Rattle.figures.proofs.Threads.{Threads}
use Rattle.figures.proofs.Mirror.{world_of}
use Rattle.figures.proofs.PlaceUpdates.{Ended}
use Rattle.figures.proofs.PlaceStands.{Stand, sizes, changes, looks, follows, stand_of, spans_of, ranked, placed}
use Rattle.figures.proofs.PlaceKeys.{keyed, account_looks, account_follows}
use Rattle.figures.proofs.PlaceSizes.{account_size}

module _ {T n : ℕ} {m : Machine} {g : ℕ → ℕ → ℕ} {counts : List ℕ} (i : Ended T n m g counts) where
  abbrev w : World
  w = world_of m g

  account : (o : ℕ) → o < n → Stand m w o → Account n (course_of m) o
  account o h (sizes e l s a) = account_size i o e l s a
  account o h (changes r a) = account_change n (course_of m) w.exch (keyed i) o h (lt-ltb 0 (w.raised o) r)
  account o h (looks f) = account_looks i o f
  account o h (follows u f) = account_follows i o u f

  pub facts : Facts n (course_of m)
  facts =
      record {
        changes = λ o h. (keyed i).changes o;
        placed = placed i;
        ranked = ranked i;
        spans = λ o h t. spans_of i o (stand_of i o h t);
        account = λ o h t. account o h (stand_of i o h t);
      }

pub conclude : (T n : ℕ) (m : Machine) (g : ℕ → ℕ → ℕ) (counts : List ℕ) → T ≤ 8 → n ≤ 64 → m.clock ≤ 4096
    → Inv T n m.clock (world_of m g) → Threads counts m → ops_before counts 8 ≡ n → Demand n (course_of m)
conclude T n m g counts t k c i o a =
    let e : Ended T n m g counts = record { threads = t; operations = k; steps = c; core = i.core; owners = o; all = a } in
    demanded n (course_of m) (facts e)
