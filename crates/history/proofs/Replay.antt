-- Operations whose courses have their facts meet the demand: they play right.
use mathlib.Core.Path.{◌≡◌, refl, sym, ap, subst, ◌∙◌}
use mathlib.Core.Logic.{◌≢◌}
use mathlib.Core.Bool.{Bool, true, false, ◌&&◌}
use mathlib.Core.List.{List, []}
use Prim.Native.Nat.{ℕ, suc, ◌+◌, ◌≤◌, ◌<◌}
use native.Mathlib.Omega.{arith}
use lib.Dec.{eqb, ltb}
use lib.ListN.{length}
use borrow.Author.Tests.{ltb-true, ltb-false}
use Rattle.history.specs.PlainSet.{Ask, bit, answer_of, after_of}
use Rattle.history.specs.Play.{agrees, Agrees, Legal}
use Rattle.history.specs.Tally.{times}
use Rattle.history.specs.Order.{above, entries, NeverFalling}
use Rattle.history.specs.Courses.{Course, returned, listed, played, order_of, ordered}
use Rattle.history.specs.Demand.{Demand}
use Rattle.history.proofs.Split.{clash, split, same?, and_no, and_yes}
use Rattle.history.proofs.Tally.{tally_same, tally_one, tally_none}
use Rattle.history.proofs.Order.{above_is, above_true, Chain, done, more, chain, log_once, log_sorted}
use Rattle.history.proofs.Places.{no_earlier}
use Rattle.history.proofs.PlainSet.{absent, present, times_without, length_without}
use Rattle.history.proofs.Facts.{insert_of, delete_of, any_insert, any_delete, earlier, before, earlier_same, earlier_not, earlier_is}
use Rattle.history.proofs.Facts.{Account, inserts, deletes, insert_fails, delete_fails, finds, misses, sizes, Facts}

-- an update that changed the set agrees, finished or not
succeeded : (returned : Bool) (answer : ℕ) → (returned ≡ true → answer ≡ 1) → agrees returned answer 1
succeeded true answer f = f refl
succeeded false answer f = refl

answered : (returned : Bool) (answer plain : ℕ) → returned ≡ true → answer ≡ plain → agrees returned answer plain
answered true answer plain r e = e
answered false answer plain r e = clash false r refl

module _ (n : ℕ) (course : ℕ → Course) where
  abbrev is : ℕ → Bool
  is o = listed (course o)

  abbrev at : ℕ → ℕ
  at o = order_of (course o)

  abbrev soon : (Ask → Bool) → ℕ → ℕ → Bool
  soon kind x o = earlier n course kind x o

  abbrev count : (Ask → Bool) → ℕ → ℕ
  count kind x = before n course kind x

  -- The set holds what the updates before place x left: for each key, and in all.
  record Holds (set : List ℕ) (x : ℕ) : Type 0 where
    keys : (k : ℕ) → times k set + count (delete_of k) x ≡ count (insert_of k) x
    card : length set + count any_delete x ≡ count any_insert x

  -- From the last entry, of place p, to the next one, o.
  module _ (p o : ℕ) (h : o < n) (e : is o ≡ true) (a : p < at o)
      (f : (q : ℕ) → q < n → q ≢ o → above n is at (at o) q ≡ above n is at p q) where
    beyond : (q : ℕ) → q < n → q ≢ o → is q ≡ true → p < at q → at o < at q
    beyond q l d t x = (above_true n is at (at o) q (f q l d ∙ above_is n is at p q t x)).1

    -- no update stands between the two
    up_to : (kind : Ask → Bool) → count kind (at o) ≡ count kind (suc p)
    up_to kind = tally_same _ _ n (λ q l. earlier_same n course kind (at o) (suc p) q (gap q l) (λ t x. omega arith))
      where
        gap : (q : ℕ) → q < n → is q ≡ true → at q < at o → at q < suc p
        gap q l t x =
            split (ltb p (at q))
            (λ b. absurd (omega (arith, beyond q l (λ i. omega (arith, ap at i)) t (ltb-true p (at q) b))))
            (λ b. omega (arith, ltb-false p (at q) b))

    -- past o there is at most o itself more
    past : (kind : Ask → Bool) → count kind (suc (at o)) ≡ bit (kind (course o).ask && (course o).changed) + count kind (at o)
    past kind =
        split (kind (course o).ask && (course o).changed)
        (λ t. rw t (tally_one (soon kind (at o)) (soon kind (suc (at o))) n o h not_yet (now ∙ t) others ∙ omega arith))
        (λ t. rw t (tally_same _ (soon kind (at o)) n (λ q l. same? q o (λ i. rw (i, now, t, not_yet)) (λ i. sym (others q l i))) ∙ omega arith))
      where
        not_yet : soon kind (at o) o ≡ false
        not_yet = earlier_not n course kind (at o) o (omega arith)

        now : soon kind (suc (at o)) o ≡ (kind (course o).ask && (course o).changed)
        now = earlier_is n course kind (suc (at o)) o (omega arith)

        others : (q : ℕ) → q < n → q ≢ o → soon kind (at o) q ≡ soon kind (suc (at o)) q
        others q l d =
            earlier_same n course kind (at o) (suc (at o)) q (λ t x. omega arith)
            (λ t x. same? (at q) (at o) (λ i. absurd (omega (arith, beyond q l d t (omega arith)))) (λ i. omega arith))

    -- o asks and changed as told here
    module _ {ask : Ask} {changed : Bool} (asks : (course o).ask ≡ ask) (changes : (course o).changed ≡ changed) where
      past_told : (kind : Ask → Bool) → count kind (suc (at o)) ≡ bit (kind ask && changed) + count kind (at o)
      past_told kind = rw (← asks, ← changes) (past kind)

      -- a set that changed as o says holds what the updates up to o left
      left : (set set' : List ℕ) → Holds set (at o)
          → ((k : ℕ) → times k set' + bit (delete_of k ask && changed) ≡ bit (insert_of k ask && changed) + times k set)
          → length set' + bit (any_delete ask && changed) ≡ bit (any_insert ask && changed) + length set
          → Holds set' (suc (at o))
      left set set' i g l = record {
        keys = λ k. omega (arith, i.keys k, g k, past_told (delete_of k), past_told (insert_of k));
        card = omega (arith, i.card, past_told any_delete, past_told any_insert);
      }

    -- o, asking so, agrees with the set that it finds, and leaves the set that the counts ask
    Plays : List ℕ → Ask → Type 0
    Plays set ask = Agrees (played (course o)) (answer_of ask set) × Holds (after_of ask set) (suc (at o))

    asking : {ask : Ask} (set : List ℕ) → (course o).ask ≡ ask → Plays set ask → Plays set (course o).ask
    asking set q = subst (Plays set) (sym q)

    plays : (set : List ℕ) → Holds set (at o) → Account n course o → Plays set (course o).ask
    unfolding Plays times
    plays set i (inserts {k} q s r c) =
        asking set q
        (rw (absent k set (omega (arith, i.keys k))) (
          succeeded (returned (course o)) (course o).answer r,
          left q s set _ i (λ j. rw (and_yes (eqb j k)) (omega arith)) (omega arith),
        ))
    plays set i (deletes {k} q s r c) =
        let w : times k set ≡ 1 = omega (arith, i.keys k) in
        asking set q
        (rw (present k set (omega arith)) (
          succeeded (returned (course o)) (course o).answer r,
          left q s set _ i (λ j. omega (arith, times_without j k true set w)) (omega (arith, length_without k set)),
        ))
    plays set i (insert_fails {k} q s r z c) =
        asking set q
        (rw (present k set (omega (arith, i.keys k))) (
          answered (returned (course o)) (course o).answer 0 r z,
          left q s set _ i (λ j. rw (and_no (eqb j k)) (omega arith)) (omega arith),
        ))
    plays set i (delete_fails {k} q s r z c) =
        let w : times k set ≡ 0 = omega (arith, i.keys k) in
        asking set q
        (rw (absent k set w) (
          answered (returned (course o)) (course o).answer 0 r z,
          left q s set _ i (λ j. omega (arith, times_without j k false set w)) (omega (arith, length_without k set)),
        ))
    plays set i (finds {k} q r z c) =
        asking set q
        (rw (present k set (omega (arith, i.keys k))) (
          answered (returned (course o)) (course o).answer 1 r z,
          left q refl set _ i (λ j. omega arith) (omega arith),
        ))
    plays set i (misses {k} q r z c) =
        asking set q
        (rw (absent k set (omega (arith, i.keys k))) (
          answered (returned (course o)) (course o).answer 0 r z,
          left q refl set _ i (λ j. omega arith) (omega arith),
        ))
    plays set i (sizes q r z) =
        asking set q (
          answered (returned (course o)) (course o).answer (length set) r (omega (arith, i.card)),
          left q refl set _ i (λ j. omega arith) (omega arith),
        )

  -- the whole log, from any entry on
  play : ((o : ℕ) → o < n → is o ≡ true → Account n course o) → {p : ℕ} {l : List ℕ} (set : List ℕ) → Holds set (suc p)
      → Chain n is at p l → Legal (λ o. played (course o)) set l
  unfolding Legal Plays
  play law set i (done f) = tt
  play law {p} set i (more {o = o} h e a f c) =
      let j : Holds set (at o) = record {
        keys = λ k. omega (arith, i.keys k, up_to p o h e a f (delete_of k), up_to p o h e a f (insert_of k));
        card = omega (arith, i.card, up_to p o h e a f any_delete, up_to p o h e a f any_insert);
      } in
      let r = plays p o h e a f set j (law o h e) in
      (r.0, play law (after_of (course o).ask set) r.1 c)

  -- ---- The demand, from the facts.

  module _ (facts : Facts n course) where
    replays : Legal (λ o. played (course o)) [] (ordered n course)
    unfolding times
    replays = play facts.account [] empty (chain n is at facts.placed)
      where
        nothing : (kind : Ask → Bool) → count kind 1 ≡ 0
        nothing kind =
            tally_none _ n
            (λ o h. earlier_same n course kind 1 0 o (λ t x. omega (arith, facts.placed.positive o h t)) (λ t x. omega arith)
            ∙ earlier_not n course kind 0 o (omega arith))

        empty : Holds [] 1
        empty = record {
          keys = λ k. omega (arith, nothing (delete_of k), nothing (insert_of k));
          card = omega (arith, nothing any_delete, nothing any_insert);
        }

    climb : {p : ℕ} {l : List ℕ} (s : ℕ) → Chain n is at p l → ((o : ℕ) → o < n → is o ≡ true → p < at o → s ≤ (course o).place.step)
        → NeverFalling s (entries (λ o. (course o).place.step) l)
    unfolding NeverFalling
    climb s (done f) g = tt
    climb s (more {o = o} h e a f c) g = (
      g o h e a,
      climb (course o).place.step c (λ q k t l. no_earlier (course o) (course q) (facts.ranked o h e) (facts.ranked q k t) l),
    )

    pub demanded : Demand n course
    demanded =
        record {
          changes = facts.changes;
          lists = log_once n is at facts.placed;
          sorts = log_sorted n is at facts.placed;
          climbs = climb 0 (chain n is at facts.placed) (λ o h e a. omega arith);
          spans = facts.spans;
          plays = replays;
        }
