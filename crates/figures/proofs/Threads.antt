-- Each thread takes its operations one after another: an access is a turn of its thread, as `history` has it.
use Prim.Native.Nat.{ℕ, suc, ◌≤◌, ◌<◌}
use mathlib.Core.Path.{◌≡◌, refl, sym, subst}
use mathlib.Core.List.{List}
use native.Mathlib.Omega.{arith}
use lib.ListN.{length}
use Rattle.history.proofs.Turns.{Turns, turns_taken, turns_rested, turns_start}
use Rattle.terms.specs.declared.ThreadId.{ThreadId}
use Rattle.terms.specs.declared.OpId.{OpId}
use Rattle.figures.specs.declared.Counts.{Counts}
use Rattle.figures.specs.declared.Sight.{Sight}
use Rattle.figures.specs.declared.UpdateNext.{UpdateNext}
use Rattle.figures.specs.declared.UpdateNext.TheVariants.{Then, Done}
use Rattle.figures.specs.declared.SizeNext.{SizeNext}
use Rattle.figures.specs.declared.SizeNext.TheVariants.{Goes, Sized}
use Rattle.figures.specs.declared.Node.{Node}
use Rattle.figures.specs.declared.Content.{Content}
use Rattle.figures.specs.declared.Content.TheVariants.{Empty, Live, Marked}
use Rattle.figures.specs.declared.Call.{Call}
use Rattle.figures.specs.declared.Call.TheVariants.{Insert, Delete, Contains, Size}
use Rattle.figures.specs.declared.Update.{Update}
use Rattle.figures.specs.declared.After.{After}
use Rattle.figures.specs.declared.After.TheVariants.{Answer, ToMark, ToHelpUnlink, ToUnlink}
use Rattle.figures.specs.declared.Point.{Point}
use Rattle.figures.specs.declared.Point.TheVariants.{Idle, ReadSlot, Updating, CountInsertions, Link, HelpUnlink, CountDeletions, Mark, Unlink, Sizing}
use Rattle.figures.specs.declared.Move.{Move}
use Rattle.figures.specs.declared.Record.{Record}
use Rattle.figures.specs.declared.Machine.{Machine}
use Rattle.figures.specs.Figure4.{more, sight_of}
use Rattle.figures.specs.Figure5.{update_at, size_at}
use Rattle.figures.specs.Figure3.{looks_at_cell, looks_at_snapshot, found, link_found, update_next, size_next, entry, node_of, is_live}
use Rattle.figures.specs.Step.{no_record, content_at, local_at, record_at, stands_at, access_of, move_of, accessed, idled, step_of}
use Rattle.figures.specs.Start.{start_of, unbegun}
use Rattle.figures.specs.Counts.{ops_before}
use Rattle.figures.proofs.Laws.{cond_both, more_is}
use Rattle.figures.proofs.Runs.{step_case, acting}
use Rattle.figures.proofs.Shape.{Shape}
use Rattle.figures.proofs.Frame.{record_of, op_of, Moving, Busy, board_of, Moved, moved_of, turn-of, went}
use Rattle.figures.proofs.Begin.{Owned, owner_owned, before_grows, start_point, start_op, start_end, start_records, start_record}

-- ---- No access leads between operations but by a return.

busy_found : (k : Call) (c : Content) → Busy (found k c)
busy_found Insert Empty = tt
busy_found Insert (Live n) = tt
busy_found Insert (Marked n d) = tt
busy_found Delete Empty = tt
busy_found Delete (Live n) = tt
busy_found Delete (Marked n d) = tt
busy_found Contains Empty = tt
busy_found Contains (Live n) = tt
busy_found Contains (Marked n d) = tt
busy_found Size c = tt

busy_update : (n : UpdateNext) (u : Update) (a : After) → Busy (update_next n u a)
busy_update (Then p) u a = tt
busy_update (Done r) u (Answer a) = tt
busy_update (Done r) u (ToMark n) = tt
busy_update (Done r) u (ToHelpUnlink n d) = tt
busy_update (Done r) u (ToUnlink n d) = tt

busy_link : (n : Node) (c : Content) → Busy (link_found n c).next
busy_link n Empty = tt
busy_link n (Live a) = tt
busy_link n (Marked a b) = tt

busy_size : (n : SizeNext) → Busy (size_next n)
busy_size (Goes p) = tt
busy_size (Sized a) = tt

busy_access : (p : Point) (t : ThreadId) (o : OpId) (k : Call) (threads : ℕ) (seen : List Counts) (s : Sight) (c : Content) → Moving p → Busy (access_of p t o k threads seen s c).next
busy_access Idle t o k threads seen s c h = h
busy_access ReadSlot t o k threads seen s c h = busy_found k c
busy_access (Updating p u a) t o k threads seen s c h = busy_update (update_at p u.node.note.1 s).next u a
busy_access CountInsertions t o k threads seen s c h = tt
busy_access (Link g) t o k threads seen s c h = busy_link (node_of t g o) c
busy_access (HelpUnlink n d) t o k threads seen s c h = tt
busy_access (CountDeletions n) t o k threads seen s c h = tt
busy_access (Mark n g) t o k threads seen s c h = cond_both (λ (v : Move). Busy v.next) (is_live n c) _ _ tt tt
busy_access (Unlink n d) t o k threads seen s c h = tt
busy_access (Sizing p) t o k threads seen s c h = busy_size (size_at p threads seen s).next

moving_entry : (k : Call) → Moving (entry k)
moving_entry Insert = tt
moving_entry Delete = tt
moving_entry Contains = tt
moving_entry Size = tt

pub moving_stands : (p : Point) (k : Call) → Moving (stands_at p k)
moving_stands Idle k = moving_entry k
moving_stands ReadSlot k = tt
moving_stands (Updating p u a) k = tt
moving_stands CountInsertions k = tt
moving_stands (Link c) k = tt
moving_stands (HelpUnlink n d) k = tt
moving_stands (CountDeletions n) k = tt
moving_stands (Mark n c) k = tt
moving_stands (Unlink n d) k = tt
moving_stands (Sizing p) k = tt

pub busy : (m : Machine) (t : ThreadId) → Busy (move_of m t).next
unfolding move_of
busy m t =
    let l = local_at m t in
    let x = (record_at m l.op).asked in
    let p = stands_at l.point x.call in
    busy_access p t l.op x.call m.threads l.seen
    (sight_of m.calculator (looks_at_snapshot p) (looks_at_cell t p)) (content_at m x.key) (moving_stands l.point x.call)

-- ---- So each step is a turn of its thread.

abbrev pub Threads : List ℕ → Machine → Type 0
Threads counts m = Turns 8 (ops_before counts) (board_of m)

-- ---- Every step, and every run.

module _ (counts : List ℕ) (few : ops_before counts 8 ≤ 64) where
  -- the current operation's number is one of the records'
  pub op_small : (m : Machine) (t : ℕ) → t < 8 → Threads counts m → op_of m t ≤ 64
  op_small m t tl i = omega (arith, i.upto t tl, i.ends t tl, before_grows counts (suc t) 8 tl)

  pub moved : (m : Machine) (t : ThreadId) → Shape m → m.clock < 4096 → Threads counts m
      → (local_at m t).op.0 < (local_at m t).end.0 → Moved t.0 (local_at m t).op.0 m (accessed m t)
  moved m t h c i l =
      let tl : t.0 < 8 = omega (arith, acting m t l, h.locals) in
      let b = before_grows counts (suc t.0) 8 tl in
      let e = i.ends t.0 tl in
      let s = i.spent (local_at m t).op.0 in
      moved_of m (accessed m t) t c (omega arith) (omega arith) (move_of m t).next (busy m t) (went m t h tl (omega arith))

  threads_idled : (m : Machine) → m.clock < 4096 → Threads counts m → Threads counts (idled m)
  threads_idled m c i =
      let e : more m.clock ≡ suc m.clock = more_is m.clock (omega arith) in
      let f : more m.idle ≡ suc m.idle = more_is m.idle (omega (arith, i.idles)) in
      turns_rested 8 (ops_before counts) (board_of m) (more m.clock) (more m.idle) (omega arith) (omega (arith, i.idles)) i

  pub threads_step : (m : Machine) (t : ThreadId) → Shape m → m.clock < 4096 → Threads counts m → Threads counts (step_of m t)
  threads_step m t h c i = step_case (Threads counts) m t access (λ e. threads_idled m c i)
    where
      access : (local_at m t).op.0 < (local_at m t).end.0 → Threads counts (accessed m t)
      access l =
          let tl : t.0 < 8 = omega (arith, acting m t l, h.locals) in
          turns_taken 8 (ops_before counts) (before_grows counts) (board_of m) (board_of (accessed m t)) t.0 (local_at m t).op.0 tl
          i refl l
          (turn-of (moved m t h c i l))

  pub threads_start : (threads keys : ℕ) (ops : List ℕ) → length counts ≡ 8 → ops_before counts 8 ≡ length ops → Threads counts (start_of threads keys counts ops)
  threads_start threads keys ops eight all =
      turns_start 8 (ops_before counts) (board_of (start_of threads keys counts ops)) (before_grows counts)
      (record {
        idle = unfold start_of in refl;
        op = λ t l. start_op threads keys counts ops eight few t l;
        end = λ t l. start_end threads keys counts ops eight few t l;
        outside = λ t s. subst Moving (start_point threads keys counts ops t) s;
        whose = λ o l.
            let e = start_record counts threads keys ops o (omega arith) (omega arith) in
            subst (λ (r : Record). Owned counts r.asked.thread.0 o) (sym e) (owner_owned counts o eight l);
        first = never (λ r. r.outcome.first) refl (λ u b. refl);
        last = never (λ r. r.outcome.last) refl (λ u b. refl);
        own = never (λ r. r.outcome.own) refl (λ u b. refl);
      })
    where
      never : (f : Record → ℕ) → f no_record ≡ 0 → ((u b : ℕ) → f (unbegun u b) ≡ 0) → (o : ℕ) → f (record_of (start_of threads keys counts ops) o) ≡ 0
      never f z u o = start_records threads keys counts ops (λ (r : Record). f r ≡ 0) z u o
