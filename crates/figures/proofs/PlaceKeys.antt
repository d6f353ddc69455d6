-- What `history` asks of a key's updates, and of those that found a key, for the accounts of inserts, deletes and contains.
use Prim.Native.Nat.{ℕ, ◌<◌}
use mathlib.Core.Path.{◌≡◌, refl, sym, ap, subst, ◌∙◌}
use mathlib.Core.Bool.{Bool, true, false, ◌&&◌}
use mathlib.Core.List.{List}
use native.Mathlib.Omega.{arith}
use lib.Dec.{eqb, ltb, leb}
use borrow.Author.Tests.{ltb-true, lt-ltb, le-ltb, eqb-true, eq-eqb}
use Rattle.history.specs.PlainSet.{Ask, bit}
use Rattle.history.specs.Demand.{is_update}
use Rattle.history.proofs.Split.{same?, iff}
use Rattle.history.proofs.Tally.{tally_same}
use Rattle.history.proofs.Places.{by_step, by_read}
use Rattle.history.proofs.Facts.{insert_of, delete_of, any_insert, Account}
use Rattle.history.proofs.Keyed.{key_of, exchanged_by, After, Keyed, Finds, account_finds}
use Rattle.history.proofs.Keyed as Keyed
use Rattle.figures.specs.declared.Kind.{Kind}
use Rattle.figures.specs.declared.Kind.TheVariants.{Insertion, Deletion}
use Rattle.figures.specs.declared.Content.{Content}
use Rattle.figures.specs.declared.Content.TheVariants.{Empty, Live, Marked}
use Rattle.figures.specs.declared.Call.{Call}
use Rattle.figures.specs.declared.Call.TheVariants.{Insert, Delete, Contains, Size}
use Rattle.figures.specs.declared.Machine.{Machine}
use Rattle.figures.specs.Places.{ask_of, course_of, order_of}
use Rattle.figures.proofs.World.{World, key, call, kind_of, call_for}
use Rattle.figures.proofs.Inv.{Fits, made, is_kind, present, leaves, Balance, exchanges, reads}
use Rattle.figures.proofs.Mirror.{world_of}
use Rattle.figures.proofs.PlaceUpdates.{Ended, standing, exchanged_standing, pair}
use Rattle.figures.proofs.PlaceStands.{Unchanged, Reads, Follows, update_at_lem}

-- ---- What is asked.

abbrev of_key : Kind → ℕ → Ask → Bool
of_key Insertion k = insert_of k
of_key Deletion k = delete_of k

eqb_swap : (a b : ℕ) → eqb a b ≡ eqb b a
eqb_swap a b = iff (eqb a b) (eqb b a) (λ e. eq-eqb b a (sym (eqb-true a b e))) (λ e. eq-eqb a b (sym (eqb-true b a e)))

key_test : (k : Kind) (c : Call) (j on : ℕ) → of_key k on (ask_of c j) ≡ (is_kind k c && eqb j on)
key_test Insertion Insert j on = eqb_swap on j
key_test Insertion Delete j on = refl
key_test Insertion Contains j on = refl
key_test Insertion Size j on = refl
key_test Deletion Insert j on = refl
key_test Deletion Delete j on = eqb_swap on j
key_test Deletion Contains j on = refl
key_test Deletion Size j on = refl

-- a call that makes an update
record Updating (c : Call) (k : ℕ) : Type 0 where
  is : is_update (ask_of c k) ≡ true
  on_key : key_of (ask_of c k) ≡ k
  left : leaves (kind_of c) ≡ bit (any_insert (ask_of c k))

updating : (c : Call) (k : ℕ) → c ≡ call_for (kind_of c) → Updating c k
updating Insert k e = record { is = refl; on_key = refl; left = refl }
updating Delete k e = record { is = refl; on_key = refl; left = refl }
updating Contains k e = let z : ◌≡◌ {A = ℕ} 0 1 = cc in absurd (omega arith)
updating Size k e = let z : ◌≡◌ {A = ℕ} 0 1 = cc in absurd (omega arith)

-- what was found and answered by one that changed nothing
record Fitting (c : Call) (k : ℕ) (x : Content) (a : ℕ) : Type 0 where
  on_key : key_of (ask_of c k) ≡ k
  there : Bool
  held : present x ≡ bit there
  fits : Keyed.Fits (ask_of c k) there a

fitting : (c : Call) (k : ℕ) (x : Content) (a : ℕ) → Fits c x a → Fitting c k x a
fitting Insert k Empty a z = absurd z
fitting Insert k (Live d) a z = record { on_key = refl; there = true; held = refl; fits = (refl, z) }
fitting Insert k (Marked n d) a z = absurd z
fitting Delete k Empty a z = record { on_key = refl; there = false; held = refl; fits = (refl, z) }
fitting Delete k (Live d) a z = absurd z
fitting Delete k (Marked n d) a z = record { on_key = refl; there = false; held = refl; fits = (refl, z) }
fitting Contains k Empty a z = record { on_key = refl; there = false; held = refl; fits = z }
fitting Contains k (Live d) a z = record { on_key = refl; there = true; held = refl; fits = z }
fitting Contains k (Marked n d) a z = record { on_key = refl; there = false; held = refl; fits = z }
fitting Size k x a z = absurd z

and_last : (a b c : Bool) → (a && b && c) ≡ (a && (b && c))
and_last true b c = refl
and_last false b c = refl

module _ {T n : ℕ} {m : Machine} {g : ℕ → ℕ → ℕ} {counts : List ℕ} (i : Ended T n m g counts) where
  abbrev w : World
  w = world_of m g

  -- ---- A key's balance is told of what was asked.

  same_made : (k : Kind) (on y u : ℕ) → made w k on y u ≡ exchanged_by n (course_of m) w.exch (of_key k on) y u
  unfolding made exchanged_by
  same_made k on y u =
      and_last (ltb 0 (w.exch u) && leb (w.exch u) y) (is_kind k (call w u)) (eqb (key w u) on)
      ∙ ap (λ b. ltb 0 (w.exch u) && leb (w.exch u) y && b) (sym (key_test k (call w u) (key w u) on))

  after : (on y b : ℕ) (there : Bool) → Balance n w on y b → b ≡ bit there → After n (course_of m) w.exch on y there
  after on y b there e h =
      omega (
        arith,
        tally_same (made w Insertion on y) (exchanged_by n (course_of m) w.exch (insert_of on) y) n (λ u l. same_made Insertion on y u),
        tally_same (made w Deletion on y) (exchanged_by n (course_of m) w.exch (delete_of on) y) n (λ u l. same_made Deletion on y u),
      )

  -- ---- Updates.

  raised_of_lem : (u : ℕ) → (course_of m u).changed ≡ true → 0 < w.raised u
  raised_of_lem u c = ltb-true 0 (w.raised u) c

  exchanged_of_lem : (u : ℕ) → (course_of m u).changed ≡ true → 0 < w.exch u
  exchanged_of_lem u c = (i.core.records.raises u (raised_of_lem u c)).exchanged

  updating_of : (u : ℕ) → 0 < w.exch u → Updating (call w u) (key w u)
  updating_of u h = updating (call w u) (key w u) (i.core.records.exchanges u h).does

  stands_before : (u v : ℕ) → 0 < w.exch u → 0 < w.raised v → key w u ≡ key w v → w.exch u < w.exch v
      → (0 < w.raised u) × (order_of m u < order_of m v)
  stands_before u v h r e l =
      let z = pair i u v h (i.core.records.raises v r).exchanged e l in
      (z.0, by_step (update_at_lem i u z.0) (update_at_lem i v r) (omega (arith, z.1, exchanged_standing i v r)))

  pub keyed : Keyed n (course_of m) w.exch
  keyed =
      record {
        changes = λ u c. (updating_of u (exchanged_of_lem u c)).is;
        exchanged = exchanged_of_lem;
        answered = λ u c t. (i.core.returned.changed u (ltb-true 0 (w.last u) t) (exchanged_of_lem u c)).answered;
        apart = λ u v h e. let z = i.core.stamps (exchanges u) (exchanges v) h e in cc;
        pairs = λ u v h c e l.
            let z = stands_before u v h (raised_of_lem v c) (sym (updating_of u h).on_key ∙ e ∙ (updating_of v (exchanged_of_lem v c)).on_key) l in
            (lt-ltb 0 (w.raised u) z.0, z.1);
        balanced = λ v c.
            let x = updating_of v (exchanged_of_lem v c) in
            let there = any_insert (course_of m v).ask in
            subst (λ on. After n (course_of m) w.exch on (w.exch v) there) (sym x.on_key)
            (after (key w v) (w.exch v) (leaves (kind_of (call w v))) there (i.core.balances.updates v (exchanged_of_lem v c)) x.left);
      }

  -- ---- Those that changed nothing.

  module _ (o : ℕ) (un : Unchanged w o)
      (past : (u : ℕ) → 0 < w.exch u → key w u ≡ key w o → w.exch u < w.read o → (0 < w.raised u) × (order_of m u < order_of m o))
      (later : (u : ℕ) → 0 < w.raised u → key w u ≡ key w o → w.read o < w.exch u → order_of m o < order_of m u) where
    fit : Fitting (call w o) (key w o) (w.found o) (w.answer o)
    fit = fitting (call w o) (key w o) (w.found o) (w.answer o) un.finder.fits

    on_key_lem : (u : ℕ) → 0 < w.exch u → key_of (course_of m u).ask ≡ key_of (course_of m o).ask → key w u ≡ key w o
    on_key_lem u h e = sym (updating_of u h).on_key ∙ e ∙ fit.on_key

    finding : Finds n (course_of m) w.exch o (w.read o) fit.there
    finding =
        record {
          returns = lt-ltb 0 (w.last o) un.returned;
          unchanged = le-ltb 0 (w.raised o) (omega (arith, un.unraised));
          fits = fit.fits;
          apart = λ u h e. let z = i.core.stamps (exchanges u) (reads o) h e in let y : ◌≡◌ {A = ℕ} 0 1 = cc in omega arith;
          past = λ u h e l. let z = past u h (on_key_lem u h e) l in (lt-ltb 0 (w.raised u) z.0, z.1);
          later = λ u c e l. later u (raised_of_lem u c) (on_key_lem u (exchanged_of_lem u c) e) l;
          balanced =
              subst (λ on. After n (course_of m) w.exch on (w.read o) fit.there) (sym fit.on_key)
              (after (key w o) (w.read o) (present (w.found o)) fit.there
              (i.core.balances.finders o un.finder.looked) fit.held);
        }

    account_unchanged : Account n (course_of m) o
    account_unchanged = account_finds n (course_of m) w.exch keyed finding

  pub account_looks : (o : ℕ) → Reads m w o → Account n (course_of m) o
  account_looks o f =
      account_unchanged o f.unchanged
      (λ u h e l. let z = f.earlier u h e l in (z.0, by_step (update_at_lem i u z.0) f.at z.1))
      (λ u r e l. by_step f.at (update_at_lem i u r) (omega (arith, exchanged_standing i u r)))

  pub account_follows : (o v : ℕ) → Follows m w o v → Account n (course_of m) o
  account_follows o v f =
      account_unchanged o f.unchanged past
      (λ u r e l. by_step f.at (update_at_lem i u r) (omega (arith, stood u r e l, exchanged_standing i u r)))
    where
      x : 0 < w.exch v
      x = (i.core.records.raises v f.raised).exchanged

      past : (u : ℕ) → 0 < w.exch u → key w u ≡ key w o → w.exch u < w.read o → (0 < w.raised u) × (order_of m u < order_of m o)
      past u h e l =
          same? u v
          (λ j. rw j (f.raised, by_read (update_at_lem i v f.raised) f.at refl refl refl f.unchanged.finder.looked))
          (λ j. let z = pair i u v h x (e ∙ sym f.on_key) (f.latest u h e l j) in
          (z.0, by_step (update_at_lem i u z.0) f.at (omega (arith, z.1, exchanged_standing i v f.raised))))

      stood : (u : ℕ) → 0 < w.raised u → key w u ≡ key w o → w.read o < w.exch u → standing m v < w.exch u
      stood u r e l = (pair i v u x (i.core.records.raises u r).exchanged (f.on_key ∙ sym e) (omega (arith, f.before))).1
