-- What is told of the keys is kept by every part of a step: an exchange finds all earlier updates of its key settled, and what a slot
-- holds is of the last one.
use Prim.Native.Nat.{ℕ, suc, ◌≤◌, ◌<◌}
use mathlib.Core.Path.{◌≡◌, refl, sym, ap, ◌∙◌}
use native.Mathlib.Omega.{arith}
use Rattle.history.proofs.Split.{same?}
use Rattle.figures.specs.declared.Kind.{Kind}
use Rattle.figures.specs.declared.Kind.TheVariants.{Insertion, Deletion}
use Rattle.figures.specs.declared.Content.{Content}
use Rattle.figures.specs.declared.Content.TheVariants.{Empty, Live, Marked}
use Rattle.figures.specs.declared.Node.{Node}
use Rattle.figures.specs.declared.Deed.{Deed}
use Rattle.figures.specs.declared.Deed.TheVariants.{Rests, Finds, Links, Marks, Unlinks, Updates, Sizes}
use Rattle.figures.specs.declared.Next.{Next}
use Rattle.figures.proofs.World.{World, key, call, call_for, put, put_same, put_other, put_case, tick, act, onward, exchange, empty}
use Rattle.figures.proofs.Inv.{Core, Keys, Holds, HoldsLive, HoldsMarked, Noted, Latest, Settled}
use Rattle.figures.proofs.Grows.{Grows}
use Rattle.figures.proofs.Guar.{Acting, Guar, LinksNow, MarksNow, UnlinksNow}
use Rattle.figures.proofs.Stable.{settled_later, settled_grows, noted_grows}
use Rattle.figures.proofs.Quiet.{Quiet, rests_quiet, tick_quiet, update_quiet, compute_quiet, onward_quiet}

module _ {T n x : ℕ} {w : World} (core : Core T n x w) where
  -- once the last one of a key is settled, all of them are
  all_settled : (o : ℕ) → 0 < w.exch o → Settled w o (suc x) → Latest w (key w o) o → (u : ℕ) → 0 < w.exch u → key w u ≡ key w o → Settled w u (suc x)
  all_settled o p s latest u q k =
      same? u o (λ e. rw e s)
      (λ d. settled_later (omega (arith, (core.records.exchanges o p).past)) (core.keys.pairs u o q p k (latest u q k d)))

  module _ {t a : ℕ} {w' : World} (g : Grows x t a w w') where
    -- of a key that nothing was exchanged on
    latest_kept : (on o : ℕ) → ((u : ℕ) → key w u ≡ on → w'.exch u ≡ w.exch u) → key w o ≡ on → Latest w on o → Latest w' on o
    latest_kept on o e i f u p k d =
        let k' : key w u ≡ on = rw g.asked at k in
        rw (e u k', e o i) (f u (rw (e u k') at p) k' d)

    holds_kept : (x' on : ℕ) (c : Content) → x ≤ x' → ((u : ℕ) → key w u ≡ on → w'.exch u ≡ w.exch u) → Holds x w on c → Holds x' w' on c
    holds_kept x' on Empty h e f =
        λ u p k.
        let k' : key w u ≡ on = rw g.asked at k in
        settled_later (omega arith) (settled_grows core g (f u (rw (e u k') at p) k'))
    holds_kept x' on (Live d) h e f = record { noted = noted_grows core g f.noted; latest = latest_kept on _ e f.noted.on_key f.latest }
    holds_kept x' on (Marked m d) h e f =
        record { under = noted_grows core g f.under; noted = noted_grows core g f.noted; latest = latest_kept on _ e f.noted.on_key f.latest }

    pairs_kept : ((u : ℕ) → w'.exch u ≡ w.exch u) → (u v : ℕ) → 0 < w'.exch u → 0 < w'.exch v → key w' u ≡ key w' v → w'.exch u < w'.exch v → Settled w' u (w'.exch v)
    pairs_kept e u v p q k l =
        let a = e u in
        let b = e v in
        settled_later (omega arith) (settled_grows core g (core.keys.pairs u v (omega arith) (omega arith) (rw g.asked at k) (omega arith)))

    pub keys_quiet : (x' : ℕ) → x ≤ x' → Quiet w w' → Keys x' w'
    keys_quiet x' h q =
        let e : (u : ℕ) → w'.exch u ≡ w.exch u = λ u. ap (λ (f : ℕ → ℕ). f u) q.exch in
        record {
          pairs = pairs_kept e;
          holds = λ on. rw (ap (λ (f : ℕ → Content). f on) q.content) (holds_kept x' on (w.content on) h (λ u k. e u) (core.keys.holds on));
        }

  -- the operation o exchanges
  module _ {t o : ℕ} (acting : Acting T n x w t o) (aim : ℕ) (c : Content) where
    exchange_latest : Latest (exchange o aim c w) (key w o) o
    exchange_latest u p k d =
        let q : 0 < w.exch u = rw (put_other w.exch o w.clock u d) at p in
        rw (put_other w.exch o w.clock u d, put_same) (omega (arith, acting.clock, (core.records.exchanges u q).past))

    -- its new node, or mark
    exchange_noted : (d : Node) (k : Kind) → d.op.0 ≡ o → d.note.0.0 ≡ t → aim ≡ d.note.1.0 → call w o ≡ call_for k → Noted (exchange o aim c w) d k (key w o)
    exchange_noted d k e b a i =
        record { exchanged = rw (e, put_same) (omega (arith, acting.clock)); does = rw e i; on_key = rw e; by_thread = rw e (acting.thread ∙ sym b); aims = rw (e, put_same) a }

    -- when all earlier updates of its key are settled
    module _ (g : Grows x t o w (exchange o aim c w)) (all : (u : ℕ) → 0 < w.exch u → key w u ≡ key w o → Settled w u (suc x)) where
      exchange_pairs : (u v : ℕ) → 0 < put w.exch o w.clock u → 0 < put w.exch o w.clock v → key w u ≡ key w v → put w.exch o w.clock u < put w.exch o w.clock v → Settled (exchange o aim c w) u (put w.exch o w.clock v)
      exchange_pairs u v =
          put_case (λ e. 0 < put w.exch o w.clock u → 0 < e → key w u ≡ key w v → put w.exch o w.clock u < e → Settled (exchange o aim c w) u e) w.exch o w.clock v
          (λ i. put_case (λ e. 0 < e → 0 < w.clock → key w u ≡ key w v → e < w.clock → Settled (exchange o aim c w) u w.clock) w.exch o w.clock u
          (λ j p q k l. absurd (omega arith))
          (λ j p q k l. settled_later (omega (arith, acting.clock)) (settled_grows core g (all u p (rw i at k)))))
          (λ i. put_case (λ e. 0 < e → 0 < w.exch v → key w u ≡ key w v → e < w.exch v → Settled (exchange o aim c w) u (w.exch v)) w.exch o w.clock u
          (λ j p q k l. absurd (omega (arith, acting.clock, (core.records.exchanges v q).past)))
          (λ j p q k l. settled_grows core g (core.keys.pairs u v p q k l)))

      keys_exchange : Holds (suc x) (exchange o aim c w) (key w o) c → Keys (suc x) (exchange o aim c w)
      keys_exchange h =
          record {
            pairs = exchange_pairs;
            holds = λ on. put_case (Holds (suc x) (exchange o aim c w) on) w.content (key w o) c on (λ e. rw e h)
                (λ d. holds_kept g (suc x) on (w.content on) (omega arith) (λ u k. put_other w.exch o w.clock u (λ e. d (sym k ∙ ap (key w) e))) (core.keys.holds on));
          }

  module _ {t o : ℕ} (acting : Acting T n x w t o) where
    keys_links : (d : Node) → LinksNow w t o d → Grows x t o w (act (Links d) t o w) → Keys (suc x) (act (Links d) t o w)
    keys_links d h g =
        keys_exchange acting _ (Live d) g (rw h.empty at (core.keys.holds (key w o)))
        (record { noted = exchange_noted acting _ (Live d) d Insertion h.node.op h.node.by_thread refl h.does; latest = rw h.node.op (exchange_latest acting d.note.1.0 (Live d)) })

    keys_marks : (m d : Node) → MarksNow x w t o m d → Grows x t o w (act (Marks m d) t o w) → Keys (suc x) (act (Marks m d) t o w)
    keys_marks m d h g =
        let b : HoldsLive w (key w o) h.b = rw h.live at (core.keys.holds (key w o)) in
        keys_exchange acting _ (Marked m d) g
        (λ u p k. all_settled m.op.0 h.noted.exchanged h.settled (rw (h.noted.on_key, ← h.same) b.latest) u p (rw h.noted.on_key k))
        (record {
          under = noted_grows core g h.noted;
          noted = exchange_noted acting _ (Marked m d) d Deletion h.node.op h.node.by_thread refl h.does;
          latest = rw h.node.op (exchange_latest acting d.note.1.0 (Marked m d));
        })

    keys_unlinks : UnlinksNow x w o → Grows x t o w (empty (key w o) w) → Keys (suc x) (empty (key w o) w)
    keys_unlinks h g =
        let m : HoldsMarked w (key w o) h.n h.d = rw h.marked at (core.keys.holds (key w o)) in
        record {
          pairs = pairs_kept g (λ u. refl);
          holds = λ on. put_case (Holds (suc x) (empty (key w o) w) on) w.content (key w o) Empty on
              (λ e u p k. settled_later (omega arith) (settled_grows core g (all_settled h.d.op.0 m.noted.exchanged h.settled (rw m.noted.on_key m.latest) u p (rw m.noted.on_key (k ∙ e)))))
              (λ d. holds_kept g (suc x) on (w.content on) (omega arith) (λ u k. refl) (core.keys.holds on));
        }

    pub keys_act : (d : Deed) → Guar T x w t o d → Grows x t o w (act d t o w) → Keys (suc x) (act d t o w)
    keys_act Rests h g = keys_quiet g (suc x) (omega arith) (rests_quiet w)
    keys_act (Finds c) h g = record { pairs = pairs_kept g (λ u. refl); holds = λ on. holds_kept g (suc x) on (w.content on) (omega arith) (λ u k. refl) (core.keys.holds on) }
    keys_act (Links d) h g = keys_links d h g
    keys_act (Marks m d) h g = keys_marks m d h g
    keys_act Unlinks h g = keys_unlinks h g
    keys_act (Updates e u) h g = keys_quiet g (suc x) (omega arith) (update_quiet e u w)
    keys_act (Sizes e) h g = keys_quiet g (suc x) (omega arith) (compute_quiet e t o w)

  pub keys_tick : {t o : ℕ} → Grows x t o w (tick o w) → Keys x (tick o w)
  keys_tick {o} g = keys_quiet g x (omega arith) (tick_quiet o w)

  pub keys_onward : {t o : ℕ} (nx : Next) → Grows x t o w (onward nx t o w) → Keys x (onward nx t o w)
  keys_onward {t} {o} nx g = keys_quiet g x (omega arith) (onward_quiet nx t o w)
