-- The machine's sum as the proofs' `total`, and the start: nothing has happened, so everything holds.
use Prim.Native.Nat.{ℕ, zero, suc, ◌+◌, ◌<◌}
use mathlib.Core.Path.{◌≡◌, refl, sym, ap, ◌∙◌}
use mathlib.Core.Bool.{false}
use mathlib.Core.List.{List, [], ◌∷◌}
use native.Mathlib.Omega.{arith}
use lib.ListN.{length, get_or}
use Rattle.history.specs.Tally.{tally, sum_to}
use Rattle.history.proofs.Tally.{tally_none}
use Rattle.terms.specs.declared.ThreadId.{ThreadId}
use Rattle.figures.specs.declared.Kind.{Kind}
use Rattle.figures.specs.declared.Kind.TheVariants.{Insertion, Deletion}
use Rattle.figures.specs.declared.Counts.{Counts}
use Rattle.figures.specs.declared.Snapshot.{Snapshot}
use Rattle.figures.specs.declared.Trace.{Trace}
use Rattle.figures.specs.declared.Content.TheVariants.{Empty}
use Rattle.figures.specs.declared.Slot.{Slot}
use Rattle.figures.specs.declared.Point.TheVariants.{Idle}
use Rattle.figures.specs.declared.Machine.{Machine}
use Rattle.figures.specs.Figure4.{count_of, both, no_snapshot, no_trace, fresh_snapshot, fresh_trace}
use Rattle.figures.specs.Figure6.{sum_of, total_of}
use Rattle.figures.specs.Step.{no_slot, local_at}
use Rattle.figures.specs.Start.{start_of}
use Rattle.figures.proofs.Laws.{replicate_holds}
use Rattle.figures.proofs.Begin.{start_records, start_point}
use Rattle.figures.proofs.Shape.{Shape}
use Rattle.figures.proofs.World.{World}
use Rattle.figures.proofs.Inv.{Inv, Core, Known, Event, exchanges, raises, reads, closes, stamp, Balance, raised_to, made, sum_by, total}
use Rattle.figures.proofs.Mirror.{world_of, block, block_at, block_zero}

-- ---- The sum.

sum_first : (f : ℕ → ℕ) (n : ℕ) → sum_to (suc n) f ≡ f 0 + sum_to n (λ i. f (suc i))
unfolding sum_to
sum_first f zero = refl
sum_first f (suc n) = omega (arith, sum_first f n)

sum_list : (k : Kind) (b : List Counts) → sum_of k b ≡ sum_to (length b) (λ i. count_of k (get_or b i (both 0)))
unfolding sum_to
sum_list k [] = refl
sum_list k (c ∷ b) = ap (count_of k c +◌) (sum_list k b) ∙ sym (sum_first (λ i. count_of k (get_or (c ∷ b) i (both 0))) (length b))

sum_cells : (k : Kind) (b : List Counts) (n : ℕ) → sum_to n (λ i. count_of k (get_or b i (both 0))) ≡ sum_by k (block b) n
unfolding sum_to sum_by
sum_cells k b zero = refl
sum_cells k b (suc n) = omega (arith, sum_cells k b n, block_at b (record { thread = record { 0 = n }; kind = k }))

pub sum_of_lem : (k : Kind) (b : List Counts) → length b ≡ 8 → sum_of k b ≡ sum_by k (block b) 8
sum_of_lem k b h = sum_list k b ∙ sum_cells k b (length b) ∙ ap (sum_by k (block b)) h

pub total_of_lem : (b : List Counts) → length b ≡ 8 → total_of b ≡ total (block b)
total_of_lem b h = rw (sum_of_lem Insertion b h, sum_of_lem Deletion b h)

pub total_mine : (m : Machine) (g : ℕ → ℕ → ℕ) (t : ThreadId) → Shape m → t.0 < 8 → total_of (local_at m t).seen ≡ total ((world_of m g).mine t.0)
total_mine m g t s h = total_of_lem (local_at m t).seen (s.seen t.0 h)

-- ---- A state in which nothing has happened.

pub record Quiet (w : World) : Type 0 where
  pub first : (o : ℕ) → w.first o ≡ 0
  pub last : (o : ℕ) → w.last o ≡ 0
  pub read : (o : ℕ) → w.read o ≡ 0
  pub exch : (o : ℕ) → w.exch o ≡ 0
  pub raised : (o : ℕ) → w.raised o ≡ 0
  pub point : (t : ℕ) → w.point t ≡ Idle
  pub count : (q : ℕ) → w.count q ≡ 0
  pub cur : w.cur ≡ 0
  pub flag : (s : ℕ) → w.flag s ≡ false
  pub closed : (s : ℕ) → w.closed s ≡ 0
  pub content : (k : ℕ) → w.content k ≡ Empty

never : {A : Type 0} {x : ℕ} → x ≡ 0 → 0 < x → A
never e h = absurd (omega arith)

module _ (T n : ℕ) (w : World) (e : Quiet w) where
  unknown : {A : Type 0} {s : ℕ} → Known w s → A
  unknown k = absurd (omega (arith, e.cur, k.some, k.there))

  quiet_tally : (q v : ℕ) → tally (raised_to w q v) n ≡ 0
  unfolding raised_to
  quiet_tally q v = tally_none (raised_to w q v) n (λ o l. rw (e.raised o))

  quiet_made : (k : Kind) (on y : ℕ) → tally (made w k on y) n ≡ 0
  unfolding made
  quiet_made k on y = tally_none (made w k on y) n (λ o l. rw (e.exch o))

  quiet_balance : (on y : ℕ) → Balance n w on y 0
  quiet_balance on y = omega (arith, quiet_made Insertion on y, quiet_made Deletion on y)

  quiet_stamp : (v : Event) → stamp w v ≡ 0
  quiet_stamp (exchanges o) = e.exch o
  quiet_stamp (raises o) = e.raised o
  quiet_stamp (reads o) = e.read o
  quiet_stamp (closes s) = e.closed s

  pub quiet_core : Core T n 0 w
  quiet_core =
      record {
        records =
            record {
              firsts = λ o. omega (arith, e.first o);
              exchanges = λ o h. never (e.exch o) h;
              raises = λ o h. never (e.raised o) h;
              reads = λ o h. never (e.read o) h;
              ends = λ o h. never (e.last o) h;
            };
        counters =
            record {
              due = λ u h. never (e.exch u) h;
              done = λ u h. never (e.raised u) h;
              own = λ u h. never (e.exch u) h;
              order = λ u v h. never (e.raised u) h;
            };
        tallies = λ q v h. omega (arith, quiet_tally q v, e.count q);
        snaps =
            record {
              none = e.flag 0;
              none_closed = e.closed 0;
              future = λ s h. e.closed s;
              past = λ s h. e.flag s;
              shut = λ s k. unknown k;
              open' = λ s k. unknown k;
              announced = λ s k. unknown k;
              spans = λ s k. unknown k;
              apart = λ s s' k. unknown k;
              whole = λ s k. unknown k;
              fair = λ s k. unknown k;
              kept = λ s k. unknown k;
              fixed = λ s k. unknown k;
              valid = λ s k. unknown k;
              dated = λ s k. unknown k;
            };
        windows = record { told = λ u h. never (e.raised u) h; only = λ u s h. never (e.raised u) h };
        keys =
            record {
              pairs = λ u v h. never (e.exch u) h;
              holds = λ on. rw (e.content on) (λ u h. never (e.exch u) h);
            };
        balances =
            record {
              now' = λ on. rw (e.content on) (quiet_balance on 0);
              updates = λ u h. never (e.exch u) h;
              finders = λ o h. never (e.read o) h;
            };
        finders = λ o h. never (e.read o) h;
        returned =
            record {
              changed = λ o h. never (e.last o) h;
              finder = λ o h. never (e.last o) h;
              sized = λ o h. never (e.last o) h;
            };
        stamps = λ v v' h. never (quiet_stamp v) h;
      }

  pub quiet_inv : Inv T n 0 w
  quiet_inv = record { core = quiet_core; knows = λ t h. rw (e.point t) tt }

-- ---- The start.

module _ (T K : ℕ) (counts ops : List ℕ) (g : ℕ → ℕ → ℕ) where
  pub start_quiet : Quiet (world_of (start_of T K counts ops) g)
  unfolding start_of
  start_quiet =
      record {
        first = λ o. start_records T K counts ops (λ r. r.outcome.first ≡ 0) refl (λ t b. refl) o;
        last = λ o. start_records T K counts ops (λ r. r.outcome.last ≡ 0) refl (λ t b. refl) o;
        read = λ o. start_records T K counts ops (λ r. r.look.read ≡ 0) refl (λ t b. refl) o;
        exch = λ o. start_records T K counts ops (λ r. r.change.exchanged ≡ 0) refl (λ t b. refl) o;
        raised = λ o. start_records T K counts ops (λ r. r.change.raised ≡ 0) refl (λ t b. refl) o;
        point = λ t. start_point T K counts ops t;
        count = λ q. ap (λ (f : ℕ → ℕ). f q) block_zero;
        cur = refl;
        flag = λ s. replicate_holds (λ (x : Snapshot). x.collecting ≡ false) 65 s (fresh_snapshot false) no_snapshot refl refl;
        closed = λ s. replicate_holds (λ (x : Trace). x.closed ≡ 0) 65 s (fresh_trace 0) no_trace refl refl;
        content = λ k. replicate_holds (λ (x : Slot). x.content ≡ Empty) 16 k no_slot no_slot refl refl;
      }

  pub start_inv : (n : ℕ) → Inv T n 0 (world_of (start_of T K counts ops) g)
  start_inv n = quiet_inv T n (world_of (start_of T K counts ops) g) start_quiet
