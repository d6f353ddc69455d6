-- How often each key was inserted and deleted, up to each step: the past does not change, and an exchange adds one.
use Prim.Native.Nat.{ℕ, suc, ◌≤◌, ◌<◌}
use mathlib.Core.Path.{◌≡◌, refl, sym, ap, ◌∙◌}
use mathlib.Core.Logic.{◌≢◌}
use mathlib.Core.Bool.{true, false, ◌&&◌}
use native.Mathlib.Omega.{arith}
use lib.Dec.{eqb, ltb, leb}
use borrow.Author.Tests.{ltb-true, leb-true, eqb-true, lt-ltb, le-leb, eq-eqb}
use Rattle.history.specs.Tally.{tally}
use Rattle.history.proofs.Tally.{tally_same, tally_one}
use Rattle.history.proofs.Split.{same?, split, iff}
use Rattle.figures.specs.declared.Kind.{Kind}
use Rattle.figures.specs.declared.Kind.TheVariants.{Insertion, Deletion}
use Rattle.figures.specs.declared.Content.{Content}
use Rattle.figures.specs.declared.Content.TheVariants.{Empty, Live, Marked}
use Rattle.figures.specs.declared.Node.{Node}
use Rattle.figures.specs.declared.Deed.{Deed}
use Rattle.figures.specs.declared.Deed.TheVariants.{Rests, Finds, Links, Marks, Unlinks, Updates, Sizes}
use Rattle.figures.specs.declared.Next.{Next}
use Rattle.figures.proofs.Laws.{and_true, and_both, tests_differ}
use Rattle.figures.proofs.World.{World, key, call, kind_of, put_same, put_other, put_case, put_field, tick, act, onward, find, exchange, empty}
use Rattle.figures.proofs.Inv.{Core, Balances, Balance, made, is_kind, present, leaves}
use Rattle.figures.proofs.Grows.{Grows}
use Rattle.figures.proofs.Guar.{Acting, Guar, LinksNow, MarksNow, UnlinksNow}
use Rattle.figures.proofs.Stable.{key_grows, call_grows}
use Rattle.figures.proofs.FindersKept.{exchanged_before}
use Rattle.figures.proofs.Quiet.{Quiet, rests_quiet, tick_quiet, update_quiet, compute_quiet, onward_quiet}

-- ---- What the test says.

record Made (w : World) (k : Kind) (on y u : ℕ) : Type 0 where
  some : 0 < w.exch u
  past : w.exch u ≤ y
  does : is_kind k (call w u) ≡ true
  on_key : key w u ≡ on

module _ {w : World} {k : Kind} {on y u : ℕ} where
  made_is : made w k on y u ≡ true → Made w k on y u
  unfolding made
  made_is e =
      let c = and_true (ltb 0 (w.exch u) && leb (w.exch u) y && is_kind k (call w u)) (eqb (key w u) on) e in
      let b = and_true (ltb 0 (w.exch u) && leb (w.exch u) y) (is_kind k (call w u)) c.0 in
      let a = and_true (ltb 0 (w.exch u)) (leb (w.exch u) y) b.0 in
      record { some = ltb-true _ _ a.0; past = leb-true _ _ a.1; does = b.1; on_key = eqb-true _ _ c.1 }

  is_made : Made w k on y u → made w k on y u ≡ true
  unfolding made
  is_made m = and_both (and_both (and_both (lt-ltb _ _ m.some) (le-leb _ _ m.past)) m.does) (eq-eqb _ _ m.on_key)

balance_at : (n : ℕ) (w : World) (on : ℕ) {y y' b b' : ℕ} → y ≡ y' → b ≡ b' → Balance n w on y b → Balance n w on y' b'
balance_at n w on p q e = rw (← p, ← q) e

module _ (n : ℕ) {w w' : World} (k : Kind) (on y y' : ℕ) where
  -- the same are counted
  count_same : ((u : ℕ) → Made w k on y u → Made w' k on y' u) → ((u : ℕ) → Made w' k on y' u → Made w k on y u) → tally (made w' k on y') n ≡ tally (made w k on y) n
  count_same f g = tally_same _ _ n (λ u h. iff _ _ (λ e. is_made (g u (made_is e))) (λ e. is_made (f u (made_is e))))

  -- o is counted besides
  count_more : (o : ℕ) → o < n → w.exch o ≡ 0 → Made w' k on y' o → ((u : ℕ) → Made w k on y u → Made w' k on y' u) → ((u : ℕ) → u ≢ o → Made w' k on y' u → Made w k on y u) → tally (made w' k on y') n ≡ suc (tally (made w k on y) n)
  count_more o h z m f g =
      tally_one _ _ n o h (split (made w k on y o) (λ e. absurd (omega (arith, (made_is e).some))) (λ e. e)) (is_made m)
      (λ u l d. iff _ _ (λ e. is_made (f u (made_is e))) (λ e. is_made (g u d (made_is e))))

-- ---- What stays as it was.

module _ {T n x : ℕ} {w : World} (core : Core T n x w) where
  module _ {t a : ℕ} {w' : World} (g : Grows x t a w w') where
    -- up to a step that is past
    balance_past : (on y b : ℕ) → y ≤ x → Balance n w on y b → Balance n w' on y b
    balance_past on y b h e = rw (count Insertion, count Deletion) e
      where
        count : (k : Kind) → tally (made w' k on y) n ≡ tally (made w k on y) n
        count k =
            count_same n k on y y
            (λ u m. let e = ((g.swap u).kept m.some).0 in record { some = omega (arith, m.some); past = omega (arith, m.past); does = rw (call_grows core g u) m.does; on_key = rw (key_grows core g u) m.on_key })
            (λ u m. let e = exchanged_before g u m.some (omega (arith, m.past)) in record { some = e.0; past = omega (arith, m.past); does = rw (call_grows core g u) at m.does; on_key = rw (key_grows core g u) at m.on_key })

    -- up to now, of updates that this part of a step did not make
    made_later : (k : Kind) (on x' u : ℕ) → x ≤ x' → w'.exch u ≡ w.exch u → Made w k on x u → Made w' k on x' u
    made_later k on x' u h e m = record { some = omega (arith, m.some); past = omega (arith, m.past); does = rw (call_grows core g u) m.does; on_key = rw (key_grows core g u) m.on_key }

    made_before : (k : Kind) (on x' u : ℕ) → w'.exch u ≡ w.exch u → Made w' k on x' u → Made w k on x u
    made_before k on x' u e m =
        let p : 0 < w.exch u = omega (arith, m.some) in
        record { some = p; past = (core.records.exchanges u p).past; does = rw (call_grows core g u) at m.does; on_key = rw (key_grows core g u) at m.on_key }

    -- of a kind that nothing was made of, on this key
    count_now : (k : Kind) (on x' : ℕ) → x ≤ x' → ((u : ℕ) → is_kind k (call w u) ≡ true → key w u ≡ on → w'.exch u ≡ w.exch u) → tally (made w' k on x') n ≡ tally (made w k on x) n
    count_now k on x' h e =
        count_same n k on x x' (λ u m. made_later k on x' u h (e u m.does m.on_key) m)
        (λ u m. made_before k on x' u (e u (rw (call_grows core g u) at m.does) (rw (key_grows core g u) at m.on_key)) m)

    balance_now : (on x' : ℕ) → x ≤ x' → ((u : ℕ) → key w u ≡ on → w'.exch u ≡ w.exch u) → Balance n w' on x' (present (w.content on))
    balance_now on x' h e = rw (count_now Insertion on x' h (λ u i. e u), count_now Deletion on x' h (λ u i. e u)) (core.balances.now' on)

    update_past : (u : ℕ) → w'.exch u ≡ w.exch u → 0 < w'.exch u → Balance n w' (key w' u) (w'.exch u) (leaves (kind_of (call w' u)))
    update_past u e p =
        let q : 0 < w.exch u = omega arith in
        rw (key_grows core g u, call_grows core g u, e) (balance_past (key w u) (w.exch u) _ (core.records.exchanges u q).past (core.balances.updates u q))

    finder_past : (o : ℕ) → w'.read o ≡ w.read o → w'.found o ≡ w.found o → 0 < w'.read o → Balance n w' (key w' o) (w'.read o) (present (w'.found o))
    finder_past o r f p =
        let q : 0 < w.read o = omega arith in
        rw (key_grows core g o, r, f) (balance_past (key w o) (w.read o) _ (core.records.reads o q).past (core.balances.finders o q))

    pub balances_quiet : (x' : ℕ) → x ≤ x' → Quiet w w' → Balances n x' w'
    balances_quiet x' h q =
        let e : (u : ℕ) → w'.exch u ≡ w.exch u = λ u. ap (λ (f : ℕ → ℕ). f u) q.exch in
        record {
          now' = λ on. rw (ap (λ (f : ℕ → Content). f on) q.content) (balance_now on x' h (λ u k. e u));
          updates = λ u p. update_past u (e u) p;
          finders = λ o p. finder_past o (ap (λ (f : ℕ → ℕ). f o) q.read) (ap (λ (f : ℕ → Content). f o) q.found) p;
        }

  -- ---- The operation o exchanges: one more of its kind on its key.
  module _ {t o : ℕ} (acting : Acting T n x w t o) (fresh : w.exch o ≡ 0) (aim : ℕ) (c : Content) (g : Grows x t o w (exchange o aim c w)) where
    count_own : (k : Kind) → is_kind k (call w o) ≡ true → tally (made (exchange o aim c w) k (key w o) (suc x)) n ≡ suc (tally (made w k (key w o) x) n)
    count_own k i =
        count_more n k (key w o) x (suc x) o acting.inside fresh
        (record { some = rw put_same (omega (arith, acting.clock)); past = rw put_same (omega (arith, acting.clock)); does = i; on_key = refl })
        (λ u m. made_later g k (key w o) (suc x) u (omega arith) ((g.swap u).kept m.some).0 m)
        (λ u d m. made_before g k (key w o) (suc x) u (put_other w.exch o w.clock u d) m)

    count_other : (k : Kind) → is_kind k (call w o) ≡ false → tally (made (exchange o aim c w) k (key w o) (suc x)) n ≡ tally (made w k (key w o) x) n
    count_other k i =
        count_now g k (key w o) (suc x) (omega arith)
        (λ u j e. put_other w.exch o w.clock u (λ d. tests_differ (rw d at j) i))

    -- its own balance is that of its key now
    balances_exchange : Balance n (exchange o aim c w) (key w o) (suc x) (present c) → present c ≡ leaves (kind_of (call w o)) → Balances n (suc x) (exchange o aim c w)
    balances_exchange b l =
        record {
          now' = λ on. put_case (λ i. Balance n (exchange o aim c w) on (suc x) (present i)) w.content (key w o) c on (λ e. rw e b)
              (λ d. balance_now g on (suc x) (omega arith) (λ u k. put_other w.exch o w.clock u (λ e. d (sym k ∙ ap (key w) e))));
          updates = λ u p. same? u o (λ e. rw e (balance_at n (exchange o aim c w) (key w o) (sym (put_same w.exch o w.clock ∙ acting.clock)) l b)) (λ d. update_past g u (put_other w.exch o w.clock u d) p);
          finders = λ i p. finder_past g i refl refl p;
        }

  module _ {t o : ℕ} (acting : Acting T n x w t o) where
    balances_links : (d : Node) → LinksNow w t o d → Grows x t o w (act (Links d) t o w) → Balances n (suc x) (act (Links d) t o w)
    balances_links d h g =
        let was : Balance n w (key w o) x 0 = rw h.empty at (core.balances.now' (key w o)) in
        let one = count_own acting h.fresh _ (Live d) g Insertion (rw h.does) in
        let none = count_other acting h.fresh _ (Live d) g Deletion (rw h.does) in
        balances_exchange acting h.fresh _ (Live d) g (omega arith) (rw h.does)

    balances_marks : (m d : Node) → MarksNow x w t o m d → Grows x t o w (act (Marks m d) t o w) → Balances n (suc x) (act (Marks m d) t o w)
    balances_marks m d h g =
        let was : Balance n w (key w o) x 1 = rw h.live at (core.balances.now' (key w o)) in
        let one = count_own acting h.fresh _ (Marked m d) g Deletion (rw h.does) in
        let none = count_other acting h.fresh _ (Marked m d) g Insertion (rw h.does) in
        balances_exchange acting h.fresh _ (Marked m d) g (omega arith) (rw h.does)

    balances_unlinks : UnlinksNow x w o → Grows x t o w (empty (key w o) w) → Balances n (suc x) (empty (key w o) w)
    balances_unlinks h g =
        record {
          now' = λ on. balance_at n (empty (key w o) w) on refl (sym (put_field present w.content (key w o) Empty on (rw h.marked))) (balance_now g on (suc x) (omega arith) (λ u k. refl));
          updates = λ u p. update_past g u refl p;
          finders = λ i p. finder_past g i refl refl p;
        }

    balances_find : (c : Content) → c ≡ w.content (key w o) → Grows x t o w (find o c w) → Balances n (suc x) (find o c w)
    balances_find c e g =
        let now : (on : ℕ) → Balance n (find o c w) on (suc x) (present (w.content on)) = λ on. balance_now g on (suc x) (omega arith) (λ u k. refl) in
        record {
          now' = now;
          updates = λ u p. update_past g u refl p;
          finders = λ i p. same? i o
              (λ j. rw j (balance_at n (find o c w) (key w o) (sym (put_same w.read o w.clock ∙ acting.clock)) (ap present (sym (put_same w.found o c ∙ e))) (now (key w o))))
              (λ j. finder_past g i (put_other w.read o w.clock i j) (put_other w.found o c i j) p);
        }

    pub balances_act : (d : Deed) → Guar T x w t o d → Grows x t o w (act d t o w) → Balances n (suc x) (act d t o w)
    balances_act Rests h g = balances_quiet g (suc x) (omega arith) (rests_quiet w)
    balances_act (Finds c) h g = balances_find c h g
    balances_act (Links d) h g = balances_links d h g
    balances_act (Marks m d) h g = balances_marks m d h g
    balances_act Unlinks h g = balances_unlinks h g
    balances_act (Updates e u) h g = balances_quiet g (suc x) (omega arith) (update_quiet e u w)
    balances_act (Sizes e) h g = balances_quiet g (suc x) (omega arith) (compute_quiet e t o w)

  pub balances_tick : {t o : ℕ} → Grows x t o w (tick o w) → Balances n x (tick o w)
  balances_tick {o} g = balances_quiet g x (omega arith) (tick_quiet o w)

  pub balances_onward : {t o : ℕ} (nx : Next) → Grows x t o w (onward nx t o w) → Balances n x (onward nx t o w)
  balances_onward {t} {o} nx g = balances_quiet g x (omega arith) (onward_quiet nx t o w)
