-- Each part of a step grows the state (`Grows`).
use Prim.Native.Nat.{ℕ, suc, ◌≤◌, ◌<◌}
use mathlib.Core.Path.{◌≡◌, refl, sym, ap, ◌∙◌}
use mathlib.Core.Logic.{◌≢◌, ◌⊎◌, inl, inr}
use mathlib.Core.Bool.{Bool, true, false, cond}
use native.Mathlib.Omega.{arith}
use native.Mathlib.Decide.{ℕ_discrete, dec_lt}
use borrow.Author.Tests.{ne_eqb}
use Rattle.history.proofs.Tally.{tally_all}
use Rattle.figures.specs.declared.Asked.{Asked}
use Rattle.figures.specs.declared.Content.{Content}
use Rattle.figures.specs.declared.Content.TheVariants.{Live, Marked}
use Rattle.figures.specs.declared.Point.{Point}
use Rattle.figures.specs.declared.Update.{Update}
use Rattle.figures.specs.declared.UpdateDeed.{UpdateDeed}
use Rattle.figures.specs.declared.UpdateDeed.TheVariants.{Reads, Raises, Forwards}
use Rattle.figures.specs.declared.SizeDeed.{SizeDeed}
use Rattle.figures.specs.declared.SizeDeed.TheVariants.{Looks, Announces, Collects, Lowers, Keeps, Fixes, Shares}
use Rattle.figures.specs.declared.Deed.{Deed}
use Rattle.figures.specs.declared.Deed.TheVariants.{Rests, Finds, Links, Marks, Unlinks, Updates, Sizes}
use Rattle.figures.specs.declared.Next.{Next}
use Rattle.figures.specs.declared.Next.TheVariants.{To, Returns}
use Rattle.figures.specs.Limits.{invalid}
use Rattle.figures.proofs.Laws.{test_case}
use Rattle.figures.proofs.World.{World, put, put_same, put_other, put_case, key, cell_op, no_of, update_cell, update_target, update_op, tick, find, exchange, empty, raise, write, announce, lower, keep, fix, share, stand, return, act, update, compute, onward, kind_call}
use Rattle.figures.proofs.Inv.{Core, Known, Noted, Behind, raised_to}
use Rattle.figures.proofs.Grows.{Alone, Still, Rise, Swap, Ages, Owed, Grows}
use Rattle.figures.proofs.Guar.{Acting, RaisesNow, ForwardsNow, GuarUpdate, GuarSize, Guar}

-- ---- The three sides of the state: operations and threads, counters, snapshots. A part of a step leaves most of them as they were.

record Acts (x t a : ℕ) (w w' : World) : Type 0 where
  asked : w'.asked ≡ w.asked
  alone : (o : ℕ) → o ≢ a → Alone w w' o
  still : (t' : ℕ) → t' ≢ t → Still w w' t'
  begun : 0 < w.first a → w'.first a ≡ w.first a
  swap : (u : ℕ) → Swap x w w' u

record Counts (x : ℕ) (w w' : World) : Type 0 where
  rise : (u : ℕ) → Rise x w w' u
  count : (q : ℕ) → w.count q ≤ w'.count q
  owed : (q : ℕ) → (w'.count q ≡ w.count q) ⊎ Owed w q

record Takes (x : ℕ) (w w' : World) : Type 0 where
  cur : w.cur ≤ w'.cur
  ages : (s : ℕ) → Known w s → Ages x w w' s
  new : (s : ℕ) → w.cur < s → s ≤ w'.cur → x < w'.ann s

grows : {x t a : ℕ} {w w' : World} → Acts x t a w w' → Counts x w w' → Takes x w w' → Grows x t a w w'
grows o c s =
    record {
      asked = o.asked;
      alone = o.alone;
      still = o.still;
      begun = o.begun;
      rise = c.rise;
      swap = o.swap;
      count = c.count;
      owed = c.owed;
      cur = s.cur;
      ages = s.ages;
      new = s.new;
    }

-- ---- What is left as it was.

cells_same : {f f' : ℕ → ℕ} → f' ≡ f → (q : ℕ) → f q ≢ invalid → (f' q ≢ invalid) × (f q ≤ f' q)
cells_same {f} {f'} e q n =
    let same : f' q ≡ f q = ap (λ (k : ℕ → ℕ). k q) e in
    (rw same n, omega arith)

module _ {x : ℕ} {w w' : World} where
  swap_same : {u : ℕ} → w'.exch u ≡ w.exch u → w'.target u ≡ w.target u → Swap x w w' u
  swap_same e a = record { kept = λ h. (e, a); new = λ z h. absurd (omega arith) }

  rise_same : {u : ℕ} → w'.raised u ≡ w.raised u → w'.window u ≡ w.window u → Rise x w w' u
  rise_same e a = record { kept = λ h. (e, a); new = λ z h. absurd (omega arith) }

  -- a snapshot whose flag and closing are as they were
  ages_but : {s : ℕ} → w'.ann s ≡ w.ann s → w'.flag s ≡ w.flag s → w'.closed s ≡ w.closed s → w'.held s ≡ w.held s → ((q : ℕ) → w.cell s q ≢ invalid → (w'.cell s q ≢ invalid) × (w.cell s q ≤ w'.cell s q)) → (w.size s ≢ invalid → (w'.size s ≡ w.size s) × (w'.seen s ≡ w.seen s) × (w'.fixed s ≡ w.fixed s)) → Ages x w w' s
  ages_but a f c h cell size =
      record {
        ann = a;
        flag = λ e. f ∙ e;
        closed = λ b. c;
        closes = λ z b. absurd (omega arith);
        cell = cell;
        held = λ b q. ap (λ (k : ℕ → ℕ). k q) h;
        holds = λ z b. absurd (omega arith);
        size = size;
      }

  ages_same : (s : ℕ) → w'.ann s ≡ w.ann s → w'.flag s ≡ w.flag s → w'.closed s ≡ w.closed s → w'.held s ≡ w.held s → w'.cell s ≡ w.cell s → w'.size s ≡ w.size s → w'.seen s ≡ w.seen s → w'.fixed s ≡ w.fixed s → Ages x w w' s
  ages_same s a f c h cell size seen fixed = ages_but a f c h (cells_same cell) (λ b. (size, seen, fixed))

module _ {w w' : World} where
  apart : {o : ℕ} → w'.first o ≡ w.first o → w'.last o ≡ w.last o → w'.answer o ≡ w.answer o → w'.read o ≡ w.read o → w'.found o ≡ w.found o → w'.exch o ≡ w.exch o → w'.target o ≡ w.target o → w'.used o ≡ w.used o → Alone w w' o
  apart f l a r c e g u =
      record { first = f; last = l; answer = a; read = r; found = c; exch = e; target = g; used = u }

  rests : {t : ℕ} → w'.op t ≡ w.op t → w'.point t ≡ w.point t → w'.mine t ≡ w.mine t → Still w w' t
  rests o p m = record { op = o; point = p; mine = m }

-- each side (of the first all but what an operation uses, and a thread's values), so that one `refl` tells that a part of a step does not touch it
record Book : Type 0 where
  asked : ℕ → Asked
  first : ℕ → ℕ
  last : ℕ → ℕ
  answer : ℕ → ℕ
  read : ℕ → ℕ
  exch : ℕ → ℕ
  target : ℕ → ℕ
  op : ℕ → ℕ
  found : ℕ → Content
  point : ℕ → Point

abbrev book_of : World → Book
book_of w = record { asked = w.asked; first = w.first; last = w.last; answer = w.answer; read = w.read; exch = w.exch; target = w.target; op = w.op; found = w.found; point = w.point }

record Meter : Type 0 where
  raised : ℕ → ℕ
  window : ℕ → ℕ
  count : ℕ → ℕ

abbrev meter_of : World → Meter
meter_of w = record { raised = w.raised; window = w.window; count = w.count }

record Shots : Type 0 where
  cur : ℕ
  flag : ℕ → Bool
  size : ℕ → ℕ
  ann : ℕ → ℕ
  closed : ℕ → ℕ
  fixed : ℕ → ℕ
  cell : ℕ → ℕ → ℕ
  seen : ℕ → ℕ → ℕ
  held : ℕ → ℕ → ℕ

abbrev shots_of : World → Shots
shots_of w = record { cur = w.cur; flag = w.flag; size = w.size; ann = w.ann; closed = w.closed; fixed = w.fixed; cell = w.cell; seen = w.seen; held = w.held }

module _ (x : ℕ) (w w' : World) where
  -- what an operation uses, and a thread's values, may change where it is the one that steps
  acts_own : (t a : ℕ) → book_of w' ≡ book_of w → ((o : ℕ) → o ≢ a → w'.used o ≡ w.used o) → ((t' : ℕ) → t' ≢ t → w'.mine t' ≡ w.mine t') → Acts x t a w w'
  acts_own t a e used mine =
      record {
        asked = ap (λ (b : Book). b.asked) e;
        alone = λ o n. apart (at (λ b. b.first) o) (at (λ b. b.last) o) (at (λ b. b.answer) o) (at (λ b. b.read) o) (ap (λ (b : Book). b.found o) e) (at (λ b. b.exch) o) (at (λ b. b.target) o) (used o n);
        still = λ t' n. rests (at (λ b. b.op) t') (ap (λ (b : Book). b.point t') e) (mine t' n);
        begun = λ h. at (λ b. b.first) a;
        swap = λ u. swap_same (at (λ b. b.exch) u) (at (λ b. b.target) u);
      }
    where
      at : (f : Book → ℕ → ℕ) (i : ℕ) → f (book_of w') i ≡ f (book_of w) i
      at f i = ap (λ (b : Book). f b i) e

  acts_same : (t a : ℕ) → book_of w' ≡ book_of w → w'.used ≡ w.used → w'.mine ≡ w.mine → Acts x t a w w'
  acts_same t a e u m = acts_own t a e (λ o n. ap (λ (f : ℕ → ℕ). f o) u) (λ t' n. ap (λ (f : ℕ → ℕ → ℕ). f t') m)

  counts_same : meter_of w' ≡ meter_of w → Counts x w w'
  counts_same e =
      record {
        rise = λ u. rise_same (ap (λ (m : Meter). m.raised u) e) (ap (λ (m : Meter). m.window u) e);
        count = λ q. omega (arith, ap (λ (m : Meter). m.count q) e);
        owed = λ q. inl (ap (λ (m : Meter). m.count q) e);
      }

  takes_same : shots_of w' ≡ shots_of w → Takes x w w'
  takes_same e =
      let cur = ap (λ (m : Shots). m.cur) e in
      record {
        cur = omega arith;
        ages = λ s k. ages_same s (ap (λ (m : Shots). m.ann s) e) (ap (λ (m : Shots). m.flag s) e) (ap (λ (m : Shots). m.closed s) e) (ap (λ (m : Shots). m.held s) e) (ap (λ (m : Shots). m.cell s) e) (ap (λ (m : Shots). m.size s) e) (ap (λ (m : Shots). m.seen s) e) (ap (λ (m : Shots). m.fixed s) e);
        new = λ s h i. absurd (omega arith);
      }

-- ---- The step is counted.

pub grows_tick : (x t o : ℕ) (w : World) → Grows x t o w (tick o w)
grows_tick x t o w =
    grows
    (record {
      asked = refl;
      alone = λ o' n. apart (put_other _ _ _ o' n) refl refl refl refl refl refl refl;
      still = λ t' n. rests refl refl refl;
      begun = λ h. put_same _ _ _ ∙ ap (λ (b : Bool). cond b (suc w.clock) (w.first o)) (ne_eqb (w.first o) 0 (omega arith));
      swap = λ u. swap_same refl refl;
    })
    (counts_same x w (tick o w) refl)
    (takes_same x w (tick o w) refl)

-- ---- Where the thread goes on.

pub grows_onward : (x : ℕ) (nx : Next) (t o : ℕ) (w : World) → Grows x t o w (onward nx t o w)
grows_onward x (To p) t o w =
    grows
    (record {
      asked = refl;
      alone = λ o' n. apart refl refl refl refl refl refl refl refl;
      still = λ t' n. rests refl (put_other _ _ _ t' n) refl;
      begun = λ h. refl;
      swap = λ u. swap_same refl refl;
    })
    (counts_same x w (stand t p w) refl)
    (takes_same x w (stand t p w) refl)
grows_onward x (Returns a) t o w =
    grows
    (record {
      asked = refl;
      alone = λ o' n. apart refl (put_other _ _ _ o' n) (put_other _ _ _ o' n) refl refl refl refl refl;
      still = λ t' n. rests (put_other _ _ _ t' n) (put_other _ _ _ t' n) refl;
      begun = λ h. refl;
      swap = λ u. swap_same refl refl;
    })
    (counts_same x w (return t o a w) refl)
    (takes_same x w (return t o a w) refl)

-- ---- What the operation o of thread t does to its own record, and the thread to its values.

module _ (x t o : ℕ) (w : World) where
  acts_find : (c : Content) → Acts x t o w (find o c w)
  acts_find c =
      record {
        asked = refl;
        alone = λ o' n. apart refl refl refl (put_other _ _ _ o' n) (put_other _ _ _ o' n) refl refl refl;
        still = λ t' n. rests refl refl refl;
        begun = λ h. refl;
        swap = λ u. swap_same refl refl;
      }

  acts_exchange : (g : ℕ) (c : Content) → w.clock ≡ suc x → w.exch o ≡ 0 → Acts x t o w (exchange o g c w)
  acts_exchange g c now fresh =
      record {
        asked = refl;
        alone = λ o' n. apart refl refl refl refl refl (put_other _ _ _ o' n) (put_other _ _ _ o' n) refl;
        still = λ t' n. rests refl refl refl;
        begun = λ h. refl;
        swap = λ u.
            record {
              kept = λ h. (put_other _ _ _ u (not_own u h), put_other _ _ _ u (not_own u h));
              new = λ z. put_case (λ y. 0 < y → x < y) w.exch o w.clock u (λ e h. omega arith) (λ n h. absurd (omega arith));
            };
      }
    where
      not_own : (u : ℕ) → 0 < w.exch u → u ≢ o
      not_own u h e = omega (arith, ap w.exch e)

  -- ---- What it does to the snapshots.

  takes_write : (s q v : ℕ) → (w.cell s q ≢ invalid → (v ≢ invalid) × (w.cell s q ≤ v)) → Takes x w (write s q v w)
  takes_write s q v up =
      record {
        cur = omega arith;
        ages = λ s' k. ages_but refl refl refl refl (rises s') (λ b. (refl, refl, refl));
        new = λ s' h i. absurd (omega arith);
      }
    where
      rises : (s' q' : ℕ) → w.cell s' q' ≢ invalid → (put w.cell s (put (w.cell s) q v) s' q' ≢ invalid) × (w.cell s' q' ≤ put w.cell s (put (w.cell s) q v) s' q')
      rises s' q' b =
          put_case (λ (f : ℕ → ℕ). (f q' ≢ invalid) × (w.cell s' q' ≤ f q')) w.cell s (put (w.cell s) q v) s'
          (λ e.
          put_case (λ c. (c ≢ invalid) × (w.cell s' q' ≤ c)) (w.cell s) q v q'
          (λ e'.
          let here : w.cell s' q' ≡ w.cell s q = rw (e, e') in
          let u = up (rw here at b) in
          (u.0, omega (arith, u.1)))
          (λ n. rw (← e) (b, omega arith)))
          (λ n. (b, omega arith))

  takes_announce : w.clock ≡ suc x → Takes x w (announce w)
  takes_announce now =
      record {
        cur = omega arith;
        ages = λ s k. old s (omega (arith, k.there));
        new = λ s h i. put_case (λ y. x < y) w.ann (suc w.cur) w.clock s (λ e. omega arith) (λ n. absurd (n (omega arith)));
      }
    where
      old : (s : ℕ) → s ≢ suc w.cur → Ages x w (announce w) s
      old s n =
          ages_same s (put_other _ _ _ s n) (put_other _ _ _ s n) (put_other _ _ _ s n) refl (put_other _ _ _ s n) (put_other _ _ _ s n) (put_other _ _ _ s n) (put_other _ _ _ s n)

  takes_fix : (s v : ℕ) → w.size s ≡ invalid → Takes x w (fix s v t o w)
  takes_fix s v unfixed =
      record {
        cur = omega arith;
        ages = λ s' k. ages_but refl refl refl refl (cells_same refl) (λ b. (put_other _ _ _ s' (other s' b), put_other _ _ _ s' (other s' b), put_other _ _ _ s' (other s' b)));
        new = λ s' h i. absurd (omega arith);
      }
    where
      other : (s' : ℕ) → w.size s' ≢ invalid → s' ≢ s
      other s' b e = b (ap w.size e ∙ unfixed)

-- ---- What it knows makes each of its changes one that grows the state.

pub noted_cell : {w : World} {u : Update} {on : ℕ} → Noted w u.node u.kind on → cell_op w (update_op u) ≡ update_cell u
noted_cell {w} {u} m = rw (m.by_thread, m.does, kind_call u.kind)

module _ {T n x t o : ℕ} {w : World} (core : Core T n x w) (now : Acting T n x w t o) where
  -- the flag of s goes down; the first time, it closes
  takes_lower : (s : ℕ) → Takes x w (lower s t w)
  takes_lower s =
      record {
        cur = omega arith;
        ages = λ s' k. aged s' k (ℕ_discrete s' s);
        new = λ s' h i. absurd (omega arith);
      }
    where
      closing : Known w s → w.flag s ≡ true → Ages x w (lower s t w) s
      closing k f =
          let zero' = core.snaps.open' s k f in
          let closed : (lower s t w).closed s ≡ w.clock = put_same _ _ _ ∙ ap (λ (b : Bool). cond b w.clock (w.closed s)) f in
          let held : (lower s t w).held s ≡ w.cell s = put_same _ _ _ ∙ ap (λ (b : Bool). cond b (w.cell s) (w.held s)) f in
          record {
            ann = refl;
            flag = λ z. put_same _ _ _;
            closed = λ h. absurd (omega arith);
            closes = λ z h. omega (arith, now.clock);
            cell = cells_same refl;
            held = λ h. absurd (omega arith);
            holds = λ z h q b. omega (arith, ap (λ (c : ℕ → ℕ). c q) held);
            size = λ b. (refl, refl, refl);
          }

      again : w.flag s ≡ false → Ages x w (lower s t w) s
      again f =
          ages_same s refl (put_same _ _ _ ∙ sym f)
          (put_same _ _ _ ∙ ap (λ (b : Bool). cond b w.clock (w.closed s)) f)
          (put_same _ _ _ ∙ ap (λ (b : Bool). cond b (w.cell s) (w.held s)) f)
          refl refl refl refl

      aged : (s' : ℕ) → Known w s' → Dec (s' ≡ s) → Ages x w (lower s t w) s'
      aged s' k (yes e) =
          rw e (test_case (λ b. w.flag s ≡ b → Ages x w (lower s t w) s) (w.flag s) (λ z f. closing (rw e at k) f) (λ z f. again f) refl)
      aged s' k (no z) = ages_same s' refl (put_other _ _ _ s' z) (put_other _ _ _ s' z) (put_other _ _ _ s' z) refl refl refl refl

  -- a counter comes to the next target, which is its thread's current operation's
  counts_raise : (u : Update) → RaisesNow w u → Counts x w (raise (update_op u) (update_cell u) (update_target u) w)
  counts_raise u h =
      record {
        rise = λ v. record {
          kept = λ r. (put_other _ _ _ v (raised_other v r), put_other _ _ _ v (raised_other v r));
          new = λ z. put_case (λ y. 0 < y → (x < y) × (w.count (cell_op w v) < w.target v)) w.raised o' w.clock v
              (λ e r. (omega (arith, now.clock), rw e (omega (arith, next))))
              (λ z' r. absurd (omega arith));
        };
        count = λ q. put_case (λ c. w.count q ≤ c) w.count (update_cell u) (update_target u) q (λ e. rw e (omega arith)) (λ z. omega arith);
        owed = λ q. owed q (ℕ_discrete q (update_cell u));
      }
    where
      o' : ℕ
      o' = update_op u

      next : w.target o' ≡ suc (w.count (cell_op w o'))
      next = h.noted.aims ∙ sym h.below ∙ ap (λ q. suc (w.count q)) (sym (noted_cell h.noted))

      unraised : w.raised o' ≡ 0
      unraised = go (dec_lt 0 (w.raised o'))
        where
          go : Dec (0 < w.raised o') → w.raised o' ≡ 0
          go (yes r) = absurd (omega (arith, next, core.counters.done o' r))
          go (no r) = omega arith

      raised_other : (v : ℕ) → 0 < w.raised v → v ≢ o'
      raised_other v r e = omega (arith, ap w.raised e, unraised)

      owed : (q : ℕ) → Dec (q ≡ update_cell u) → (put w.count (update_cell u) (update_target u) q ≡ w.count q) ⊎ Owed w q
      owed q (yes e) =
          inr (record {
            u = o';
            exch = h.noted.exchanged;
            current = (core.counters.due o' h.noted.exchanged unraised).0;
            cell = noted_cell h.noted ∙ sym e;
          })
      owed q (no z) = inl (put_other _ _ _ q z)

  -- there are fewer updates than INVALID, so that no target is
  module _ (few : n < invalid) where
    pub count_few : (q : ℕ) → w.count q < invalid
    count_few q =
        omega (arith, core.tallies q (w.count q) (omega arith), tally_all (raised_to w q (w.count q)) n)

    forwards_up : (s : ℕ) (u : Update) → ForwardsNow w s u → w.cell s (update_cell u) ≢ invalid → (update_target u ≢ invalid) × (w.cell s (update_cell u) ≤ update_target u)
    forwards_up s u h b = (omega (arith, h.noted.aims, done, count_few (cell_op w (update_op u))), go h.behind)
      where
        done : w.target (update_op u) ≤ w.count (cell_op w (update_op u))
        done = core.counters.done (update_op u) h.forwarding.sighted.raised.raised

        go : Behind u (w.cell s (update_cell u)) → w.cell s (update_cell u) ≤ update_target u
        go (inl e) = absurd (b e)
        go (inr l) = omega arith

    nothing : Grows x t o w w
    nothing = grows (acts_same x w w t o refl refl refl) (counts_same x w w refl) (takes_same x w w refl)

    grows_update : (e : UpdateDeed) (u : Update) → GuarUpdate w e u → Grows x t o w (update e u w)
    grows_update Reads u h = nothing
    grows_update Raises u h =
        let w' = raise (update_op u) (update_cell u) (update_target u) w in
        grows (acts_same x w w' t o refl refl refl) (counts_raise u h) (takes_same x w w' refl)
    grows_update (Forwards s) u h =
        let w' = write s.0 (update_cell u) (update_target u) w in
        grows (acts_same x w w' t o refl refl refl) (counts_same x w w' refl)
        (takes_write x t o w s.0 (update_cell u) (update_target u) (forwards_up s.0 u h))

    grows_compute : (e : SizeDeed) → GuarSize T w t o e → Grows x t o w (compute e t o w)
    grows_compute Looks h = nothing
    grows_compute Announces h =
        grows (acts_same x w (announce w) t o refl refl refl) (counts_same x w (announce w) refl) (takes_announce x t o w now.clock)
    grows_compute (Collects s j v) h =
        let w' = write s.0 (no_of j) v w in
        grows (acts_same x w w' t o refl refl refl) (counts_same x w w' refl)
        (takes_write x t o w s.0 (no_of j) v (λ b. absurd (b h.empty)))
    grows_compute (Lowers s) h =
        grows (acts_own x w (lower s.0 t w) t o refl (λ o' n. refl) (λ t' n. put_other _ _ _ t' n)) (counts_same x w (lower s.0 t w) refl) (takes_lower s.0)
    grows_compute (Keeps j v) h =
        let w' = keep t (no_of j) v w in
        grows (acts_own x w w' t o refl (λ o' n. refl) (λ t' n. put_other _ _ _ t' n)) (counts_same x w w' refl) (takes_same x w w' refl)
    grows_compute (Fixes s v) h =
        let w' = fix s.0 v t o w in
        grows (acts_own x w w' t o refl (λ o' n. put_other _ _ _ o' n) (λ t' n. refl)) (counts_same x w w' refl) (takes_fix x t o w s.0 v h.1.unfixed)
    grows_compute (Shares s) h =
        let w' = share s.0 o w in
        grows (acts_own x w w' t o refl (λ o' n. put_other _ _ _ o' n) (λ t' n. refl)) (counts_same x w w' refl) (takes_same x w w' refl)

    exchanged : (g : ℕ) (c : Content) → w.exch o ≡ 0 → Grows x t o w (exchange o g c w)
    exchanged g c fresh =
        let w' = exchange o g c w in
        grows (acts_exchange x t o w g c now.clock fresh) (counts_same x w w' refl) (takes_same x w w' refl)

    pub grows_act : (d : Deed) → Guar T x w t o d → Grows x t o w (act d t o w)
    grows_act Rests h = nothing
    grows_act (Finds c) h =
        grows (acts_find x t o w c) (counts_same x w (find o c w) refl) (takes_same x w (find o c w) refl)
    grows_act (Links d) h = exchanged d.note.1.0 (Live d) h.fresh
    grows_act (Marks m d) h = exchanged d.note.1.0 (Marked m d) h.fresh
    grows_act Unlinks h =
        let w' = empty (key w o) w in
        grows (acts_same x w w' t o refl refl refl) (counts_same x w w' refl) (takes_same x w w' refl)
    grows_act (Updates e u) h = grows_update e u h
    grows_act (Sizes e) h = grows_compute e h

-- ---- Nothing but the clock.

pub grows_still : (x t a : ℕ) (w w' : World) → book_of w' ≡ book_of w → w'.used ≡ w.used → w'.mine ≡ w.mine → meter_of w' ≡ meter_of w → shots_of w' ≡ shots_of w → Grows x t a w w'
grows_still x t a w w' b u m c s = grows (acts_same x w w' t a b u m) (counts_same x w w' c) (takes_same x w w' s)
