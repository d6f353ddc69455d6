-- What a step does to the operations' outcomes and to where the threads stand. A deed leaves all of that as it is; the rest of
-- the step is the same for every access.
use Prim.Native.Nat.{ℕ, suc, ◌<◌}
use mathlib.Core.Path.{◌≡◌, refl, sym, ap, ap₂, subst, ◌∙◌}
use mathlib.Core.Logic.{◌≢◌}
use mathlib.Core.Bool.{Bool, cond}
use native.Mathlib.Omega.{arith}
use lib.ListN.{get_or, set}
use lib.Seq.{get_or-set_same, get_or-set_other}
use lib.Dec.{eqb}
use Rattle.history.proofs.Turns.{Board, Ending, goes, returns, Turn}
use Rattle.terms.specs.declared.ThreadId.{ThreadId}
use Rattle.terms.specs.declared.OpId.{OpId}
use Rattle.figures.specs.declared.Calculator.{Calculator}
use Rattle.figures.specs.declared.UpdateDeed.{UpdateDeed}
use Rattle.figures.specs.declared.UpdateDeed.TheVariants.{Reads, Raises, Forwards}
use Rattle.figures.specs.declared.SizeDeed.{SizeDeed}
use Rattle.figures.specs.declared.SizeDeed.TheVariants.{Looks, Announces, Collects, Lowers, Keeps, Fixes, Shares}
use Rattle.figures.specs.declared.Content.{Content}
use Rattle.figures.specs.declared.Update.{Update}
use Rattle.figures.specs.declared.Point.{Point}
use Rattle.figures.specs.declared.Point.TheVariants.{Idle, ReadSlot, Updating, CountInsertions, Link, HelpUnlink, CountDeletions, Mark, Unlink, Sizing}
use Rattle.figures.specs.declared.Deed.{Deed}
use Rattle.figures.specs.declared.Deed.TheVariants.{Rests, Finds, Links, Marks, Unlinks, Updates, Sizes}
use Rattle.figures.specs.declared.Next.{Next}
use Rattle.figures.specs.declared.Next.TheVariants.{To, Returns}
use Rattle.figures.specs.declared.Local.{Local}
use Rattle.figures.specs.declared.Outcome.{Outcome}
use Rattle.figures.specs.declared.Asked.{Asked}
use Rattle.figures.specs.declared.Record.{Record}
use Rattle.figures.specs.declared.Machine.{Machine}
use Rattle.figures.specs.Figure4.{more, more_byte}
use Rattle.figures.specs.Step.{no_local, no_record, local_at, record_at, with_calculator, with_content, with_local, with_record, updates, sizes, does, goes_on, ticked, accessed, move_of, counted, answered, standing, finished}
use borrow.Author.Tests.{eq-eqb, ne_eqb}
use Rattle.figures.proofs.Laws.{set_field, more_is, more_byte_is}
use Rattle.figures.proofs.Shape.{Shape, shape_ticked, shape_does}

-- the record of operation o and the thread numbered t, by their bare numbers
abbrev pub record_of : Machine → ℕ → Record
record_of m o = get_or m.records o no_record

abbrev pub local_of : Machine → ℕ → Local
local_of m t = get_or m.locals t no_local

-- what is handed back of an operation but its raiser, which others' steps tell (Raisers has that)
abbrev pub outcome_in : Record → Outcome
outcome_in r =
    let x = r.outcome in
    record { answer = x.answer; first = x.first; last = x.last; own = x.own; raiser = 0 }

abbrev pub outcome_of : Machine → ℕ → Outcome
outcome_of m o = outcome_in (record_of m o)

abbrev pub first_of : Machine → ℕ → ℕ
first_of m o = (outcome_of m o).first

abbrev pub last_of : Machine → ℕ → ℕ
last_of m o = (outcome_of m o).last

abbrev pub own_of : Machine → ℕ → ℕ
own_of m o = (outcome_of m o).own

abbrev pub point_of : Machine → ℕ → Point
point_of m t = (local_of m t).point

abbrev pub op_of : Machine → ℕ → ℕ
op_of m t = (local_of m t).op.0

abbrev pub end_of : Machine → ℕ → ℕ
end_of m t = (local_of m t).end.0

pub record Frame (m m' : Machine) : Type 0 where
  pub threads : m'.threads ≡ m.threads
  pub keys : m'.keys ≡ m.keys
  pub clock : m'.clock ≡ m.clock
  pub idle : m'.idle ≡ m.idle
  pub asked : (o : ℕ) → (record_of m' o).asked ≡ (record_of m o).asked
  pub outcome : (o : ℕ) → outcome_of m' o ≡ outcome_of m o
  pub point : (t : ℕ) → (local_of m' t).point ≡ (local_of m t).point
  pub op : (t : ℕ) → (local_of m' t).op ≡ (local_of m t).op
  pub end : (t : ℕ) → (local_of m' t).end ≡ (local_of m t).end

module _ (m : Machine) where
  frame_refl : Frame m m
  frame_refl =
      record { threads = refl; keys = refl; clock = refl; idle = refl; asked = λ o. refl; outcome = λ o. refl; point = λ t. refl; op = λ t. refl; end = λ t. refl }

  frame_calculator : (c : Calculator) → Frame m (with_calculator c m)
  frame_calculator c =
      record { threads = refl; keys = refl; clock = refl; idle = refl; asked = λ o. refl; outcome = λ o. refl; point = λ t. refl; op = λ t. refl; end = λ t. refl }

  frame_content : (k : ℕ) (c : Content) → Frame m (with_content k c m)
  frame_content k c =
      record { threads = refl; keys = refl; clock = refl; idle = refl; asked = λ o. refl; outcome = λ o. refl; point = λ t. refl; op = λ t. refl; end = λ t. refl }

  frame_record : (o : OpId) (r : Record) → r.asked ≡ (record_at m o).asked → outcome_in r ≡ outcome_in (record_at m o) → Frame m (with_record o r m)
  frame_record o r e f =
      record {
        threads = refl;
        keys = refl;
        clock = refl;
        idle = refl;
        asked = λ i. set_field (λ (x : Record). x.asked) m.records o.0 i r no_record e;
        outcome = λ i. set_field outcome_in m.records o.0 i r no_record f;
        point = λ t. refl;
        op = λ t. refl;
        end = λ t. refl;
      }

  frame_local : (t : ThreadId) (l : Local) → l.point ≡ (local_at m t).point → l.op ≡ (local_at m t).op → l.end ≡ (local_at m t).end → Frame m (with_local t l m)
  frame_local t l p o e =
      record {
        threads = refl;
        keys = refl;
        clock = refl;
        idle = refl;
        asked = λ i. refl;
        outcome = λ i. refl;
        point = λ i. set_field (λ (x : Local). x.point) m.locals t.0 i l no_local p;
        op = λ i. set_field (λ (x : Local). x.op) m.locals t.0 i l no_local o;
        end = λ i. set_field (λ (x : Local). x.end) m.locals t.0 i l no_local e;
      }

frame_trans : {m m' m'' : Machine} → Frame m m' → Frame m' m'' → Frame m m''
frame_trans f g =
    record {
      threads = g.threads ∙ f.threads;
      keys = g.keys ∙ f.keys;
      clock = g.clock ∙ f.clock;
      idle = g.idle ∙ f.idle;
      asked = λ o. g.asked o ∙ f.asked o;
      outcome = λ o. g.outcome o ∙ f.outcome o;
      point = λ t. g.point t ∙ f.point t;
      op = λ t. g.op t ∙ f.op t;
      end = λ t. g.end t ∙ f.end t;
    }

module _ (t : ThreadId) (o : OpId) where
  frame_updates : (d : UpdateDeed) (u : Update) (m : Machine) → Frame m (updates d u t m)
  frame_updates Reads u m = frame_refl m
  frame_updates Raises u m = frame_trans (frame_calculator m _) (frame_record _ u.node.op _ refl refl)
  frame_updates (Forwards n) u m = frame_calculator m _

  frame_sizes : (d : SizeDeed) (m : Machine) → Frame m (sizes d t o m)
  frame_sizes Looks m = frame_refl m
  frame_sizes Announces m = frame_calculator m _
  frame_sizes (Collects n j v) m = frame_calculator m _
  frame_sizes (Lowers n) m = frame_trans (frame_calculator m _) (frame_local _ t _ refl refl refl)
  frame_sizes (Keeps j v) m = frame_local m t _ refl refl refl
  frame_sizes (Fixes n v) m = frame_trans (frame_calculator m _) (frame_record _ o _ refl refl)
  frame_sizes (Shares n) m = frame_record m o _ refl refl

  pub frame_does : (d : Deed) (m : Machine) → Frame m (does d t o m)
  frame_does Rests m = frame_refl m
  frame_does (Finds c) m = frame_record m o _ refl refl
  frame_does (Links n) m = frame_trans (frame_record m o _ refl refl) (frame_content _ _ _)
  frame_does (Marks n d) m = frame_trans (frame_record m o _ refl refl) (frame_content _ _ _)
  frame_does Unlinks m = frame_content m _ _
  frame_does (Updates d u) m = frame_updates d u m
  frame_does (Sizes d) m = frame_sizes d m

-- ---- What a step with a given end does.

abbrev pub first_after : ℕ → ℕ → ℕ
first_after step x = cond (eqb x 0) step x

abbrev pub outcome_after : Next → ℕ → Outcome → Outcome
outcome_after (To p) step x = record { answer = x.answer; first = first_after step x.first; last = x.last; own = more x.own; raiser = 0 }
outcome_after (Returns a) step x = record { answer = a; first = first_after step x.first; last = step; own = more x.own; raiser = 0 }

abbrev pub point_after : Next → Point
point_after (To p) = p
point_after (Returns a) = Idle

abbrev pub op_after : Next → OpId → OpId
op_after (To p) o = o
op_after (Returns a) o = record { 0 = more_byte o.0 }

pub record Went (t : ThreadId) (n : Next) (m m' : Machine) : Type 0 where
  pub threads : m'.threads ≡ m.threads
  pub keys : m'.keys ≡ m.keys
  pub clock : m'.clock ≡ more m.clock
  pub idle : m'.idle ≡ m.idle
  pub asked : (o : ℕ) → (record_of m' o).asked ≡ (record_of m o).asked
  pub other : (o : ℕ) → o ≢ (local_at m t).op.0 → outcome_of m' o ≡ outcome_of m o
  pub mine : outcome_of m' (local_at m t).op.0 ≡ outcome_after n (more m.clock) (outcome_of m (local_at m t).op.0)
  pub point : (u : ℕ) → u ≢ t.0 → (local_of m' u).point ≡ (local_of m u).point
  pub op : (u : ℕ) → u ≢ t.0 → (local_of m' u).op ≡ (local_of m u).op
  pub end : (u : ℕ) → (local_of m' u).end ≡ (local_of m u).end
  pub here : (local_at m' t).point ≡ point_after n
  pub next : (local_at m' t).op ≡ op_after n (local_at m t).op

-- counted, and the deed done: the state before the thread goes on
abbrev counted_done : Deed → ThreadId → Machine → Machine
counted_done d t m = does d t (local_at m t).op (ticked (local_at m t).op m)

module _ (m : Machine) (h : Shape m) (t : ThreadId) (tl : t.0 < 8) (ol : (local_at m t).op.0 < 64) (d : Deed) where
  shape_done : Shape (counted_done d t m)
  shape_done = shape_does t (local_at m t).op tl d _ (shape_ticked (local_at m t).op m h)

  frame_done : Frame (ticked (local_at m t).op m) (counted_done d t m)
  frame_done = frame_does t (local_at m t).op d _

  asked_done : (i : ℕ) → (record_of (counted_done d t m) i).asked ≡ (record_of m i).asked
  asked_done i = frame_done.asked i ∙ set_field (λ (x : Record). x.asked) m.records (local_at m t).op.0 i _ no_record refl

  other_done : (i : ℕ) → i ≢ (local_at m t).op.0 → outcome_of (counted_done d t m) i ≡ outcome_of m i
  other_done i n = frame_done.outcome i ∙ ap outcome_in (get_or-set_other m.records (local_at m t).op.0 i _ no_record n)

  mine_done : outcome_of (counted_done d t m) (local_at m t).op.0 ≡ outcome_in (counted (more m.clock) (record_at m (local_at m t).op))
  mine_done =
      frame_done.outcome (local_at m t).op.0
      ∙ ap outcome_in (get_or-set_same m.records (local_at m t).op.0 (counted (more m.clock) (record_at m (local_at m t).op)) no_record (omega (arith, h.records)))

  local_done : (l : Local) → get_or (set (counted_done d t m).locals t.0 l) t.0 no_local ≡ l
  local_done l = get_or-set_same (counted_done d t m).locals t.0 l no_local (omega (arith, shape_done.locals))

  local_other : (l : Local) (u : ℕ) → u ≢ t.0 → get_or (set (counted_done d t m).locals t.0 l) u no_local ≡ local_of (counted_done d t m) u
  local_other l u n = get_or-set_other (counted_done d t m).locals t.0 u l no_local n

  pub went_on : (n : Next) → Went t n m (goes_on n t (local_at m t).op (counted_done d t m))
  went_on (To p) =
      record {
        threads = frame_done.threads;
        keys = frame_done.keys;
        clock = frame_done.clock;
        idle = frame_done.idle;
        asked = asked_done;
        other = other_done;
        mine = mine_done;
        point = λ u n. ap (λ (x : Local). x.point) (local_other _ u n) ∙ frame_done.point u;
        op = λ u n. ap (λ (x : Local). x.op) (local_other _ u n) ∙ frame_done.op u;
        end = λ u. set_field (λ (x : Local). x.end) (counted_done d t m).locals t.0 u _ no_local refl ∙ frame_done.end u;
        here = ap (λ (x : Local). x.point) (local_done (standing p (local_at (counted_done d t m) t)));
        next = ap (λ (x : Local). x.op) (local_done (standing p (local_at (counted_done d t m) t))) ∙ frame_done.op t.0;
      }
  went_on (Returns a) =
      let k = counted_done d t m in
      let o = (local_at m t).op in
      let r = answered a k.clock (record_at k o) in
      record {
        threads = frame_done.threads;
        keys = frame_done.keys;
        clock = frame_done.clock;
        idle = frame_done.idle;
        asked = λ i. set_field (λ (x : Record). x.asked) k.records o.0 i r no_record refl ∙ asked_done i;
        other = λ i n. ap outcome_in (get_or-set_other k.records o.0 i r no_record n) ∙ other_done i n;
        mine =
            ap outcome_in (get_or-set_same k.records o.0 r no_record (omega (arith, shape_done.records)))
            ∙ ap₂ (λ (x : Outcome) (c : ℕ). outcome_in (answered a c (record { asked = (record_at k o).asked; outcome = x; look = (record_at k o).look; change = (record_at k o).change; snapshot = (record_at k o).snapshot }))) mine_done frame_done.clock;
        point = λ u n. ap (λ (x : Local). x.point) (local_other _ u n) ∙ frame_done.point u;
        op = λ u n. ap (λ (x : Local). x.op) (local_other _ u n) ∙ frame_done.op u;
        end = λ u. set_field (λ (x : Local). x.end) k.locals t.0 u _ no_local refl ∙ frame_done.end u;
        here = ap (λ (x : Local). x.point) (local_done (finished (local_at k t)));
        next = ap (λ (x : Local). x.op) (local_done (finished (local_at k t))) ∙ ap (λ (x : OpId). op_after (Returns a) x) (frame_done.op t.0);
      }

pub went : (m : Machine) (t : ThreadId) → Shape m → t.0 < 8 → (local_at m t).op.0 < 64 → Went t (move_of m t).next m (accessed m t)
unfolding accessed
went m t h tl ol = went_on m h t tl ol (move_of m t).deed (move_of m t).next

-- ---- The same in numbers, where nothing wraps.

-- inside an operation
abbrev pub Moving : Point → Type 0
Moving Idle = ⊥
Moving ReadSlot = Unit {0}
Moving (Updating p u a) = Unit {0}
Moving CountInsertions = Unit {0}
Moving (Link c) = Unit {0}
Moving (HelpUnlink n d) = Unit {0}
Moving (CountDeletions n) = Unit {0}
Moving (Mark n c) = Unit {0}
Moving (Unlink n d) = Unit {0}
Moving (Sizing p) = Unit {0}

pub data Stands (p : Point) : Type 0 where
  between : p ≡ Idle → Stands p
  inside : Moving p → Stands p

pub stands : (p : Point) → Stands p
stands Idle = between refl
stands ReadSlot = inside tt
stands (Updating p u a) = inside tt
stands CountInsertions = inside tt
stands (Link c) = inside tt
stands (HelpUnlink n d) = inside tt
stands (CountDeletions n) = inside tt
stands (Mark n c) = inside tt
stands (Unlink n d) = inside tt
stands (Sizing p) = inside tt

abbrev pub Busy : Next → Type 0
Busy (To p) = Moving p
Busy (Returns a) = Unit {0}

-- what `history` reads of a machine
abbrev pub thread_of : Machine → ℕ → ℕ
thread_of m o = (record_of m o).asked.thread.0

abbrev pub board_of : Machine → Board
board_of m =
    record {
      clock = m.clock;
      idle = m.idle;
      op = op_of m;
      end = end_of m;
      inside = λ t. Moving (point_of m t);
      between = λ t. point_of m t ≡ Idle;
      clash = λ t p e. subst Moving e p;
      whose = thread_of m;
      first = first_of m;
      last = last_of m;
      own = own_of m;
    }

pub record Moved (t o : ℕ) (m m' : Machine) : Type 0 where
  pub threads : m'.threads ≡ m.threads
  pub keys : m'.keys ≡ m.keys
  pub clock : m'.clock ≡ suc m.clock
  pub idle : m'.idle ≡ m.idle
  pub asked : (i : ℕ) → (record_of m' i).asked ≡ (record_of m i).asked
  pub other : (i : ℕ) → i ≢ o → outcome_of m' i ≡ outcome_of m i
  pub began : first_of m o ≡ 0 → first_of m' o ≡ suc m.clock
  pub kept : 0 < first_of m o → first_of m' o ≡ first_of m o
  pub own : own_of m' o ≡ suc (own_of m o)
  pub op : (u : ℕ) → u ≢ t → op_of m' u ≡ op_of m u
  pub point : (u : ℕ) → u ≢ t → point_of m' u ≡ point_of m u
  pub end : (u : ℕ) → end_of m' u ≡ end_of m u
  pub ending : Ending t o (board_of m) (board_of m')

module _ (m m' : Machine) (t : ThreadId) (c : m.clock < 4096) (ol : (local_at m t).op.0 < 64) (wl : own_of m (local_at m t).op.0 < 4294967295) where
  ending_of : (n : Next) → Busy n → Went t n m m' → Ending t.0 (local_at m t).op.0 (board_of m) (board_of m')
  ending_of (To p) b w = goes (rw w.here b) (ap (λ (x : OpId). x.0) w.next) (ap (λ (x : Outcome). x.last) w.mine)
  ending_of (Returns a) b w =
      returns w.here (ap (λ (x : OpId). x.0) w.next ∙ more_byte_is _ (omega arith)) (ap (λ (x : Outcome). x.last) w.mine ∙ more_is _ (omega arith))

  first_of_lem : (n : Next) → Went t n m m' → first_of m' (local_at m t).op.0 ≡ first_after (more m.clock) (first_of m (local_at m t).op.0)
  first_of_lem (To p) w = ap (λ (x : Outcome). x.first) w.mine
  first_of_lem (Returns a) w = ap (λ (x : Outcome). x.first) w.mine

  own_of_lem : (n : Next) → Went t n m m' → own_of m' (local_at m t).op.0 ≡ more (own_of m (local_at m t).op.0)
  own_of_lem (To p) w = ap (λ (x : Outcome). x.own) w.mine
  own_of_lem (Returns a) w = ap (λ (x : Outcome). x.own) w.mine

  pub moved_of : (n : Next) → Busy n → Went t n m m' → Moved t.0 (local_at m t).op.0 m m'
  moved_of n b w =
      record {
        threads = w.threads;
        keys = w.keys;
        clock = w.clock ∙ more_is _ (omega arith);
        idle = w.idle;
        asked = w.asked;
        other = w.other;
        began = λ e. first_of_lem n w ∙ ap (λ (x : Bool). cond x (more m.clock) (first_of m (local_at m t).op.0)) (eq-eqb _ _ e) ∙ more_is _ (omega arith);
        kept = λ l. first_of_lem n w ∙ ap (λ (x : Bool). cond x (more m.clock) (first_of m (local_at m t).op.0)) (ne_eqb (first_of m (local_at m t).op.0) 0 (omega arith));
        own = own_of_lem n w ∙ more_is _ wl;
        op = λ u l. ap (λ (x : OpId). x.0) (w.op u l);
        point = w.point;
        end = λ u. ap (λ (x : OpId). x.0) (w.end u);
        ending = ending_of n b w;
      }

-- so a step is a turn of its thread
pub turn-of : {t o : ℕ} {m m' : Machine} → Moved t o m m' → Turn t o (board_of m) (board_of m')
turn-of w =
    record {
      clock = w.clock;
      idle = w.idle;
      whose = λ a. ap (λ (x : Asked). x.thread.0) (w.asked a);
      first_other = λ a n. ap (λ (x : Outcome). x.first) (w.other a n);
      last_other = λ a n. ap (λ (x : Outcome). x.last) (w.other a n);
      own_other = λ a n. ap (λ (x : Outcome). x.own) (w.other a n);
      began = w.began;
      kept = w.kept;
      own = w.own;
      op = w.op;
      inside = λ u n p. subst Moving (w.point u n) p;
      between = λ u n e. sym (w.point u n) ∙ e;
      end = w.end;
      ending = w.ending;
    }
