-- Each thread takes its operations one after another, whatever its machine does in a step: those before its current one have returned,
-- it has not, and those after it have not begun.
use Prim.Native.Nat.{ℕ, suc, ◌≤◌, ◌<◌}
use mathlib.Core.Path.{◌≡◌, sym, ◌∙◌, subst}
use mathlib.Core.Logic.{◌≢◌}
use native.Mathlib.Omega.{arith}
use native.Mathlib.Decide.{ℕ_discrete, dec_lt}

-- What is read of a machine: the steps taken and those that were idle; of a thread its current operation, where its operations end, and
-- whether it stands inside an operation or between two; of an operation its thread, its first and last step (0: not yet) and its own
-- steps.
pub record Board : Type 1 where
  pub clock : ℕ
  pub idle : ℕ
  pub op : ℕ → ℕ
  pub end : ℕ → ℕ
  pub inside : ℕ → Type 0
  pub between : ℕ → Type 0
  pub clash : (t : ℕ) → inside t → between t → ⊥
  pub whose : ℕ → ℕ
  pub first : ℕ → ℕ
  pub last : ℕ → ℕ
  pub own : ℕ → ℕ

-- ---- Whose an operation is. Thread t's operations begin at `start t`, and end where the next thread's begin.

abbrev pub Growing : (ℕ → ℕ) → Type 0
Growing start = (t u : ℕ) → t ≤ u → start t ≤ start u

-- operation o is one of thread t's
pub record Owned (most : ℕ) (start : ℕ → ℕ) (t o : ℕ) : Type 0 where
  pub thread : t < most
  pub from : start t ≤ o
  pub below : o < start (suc t)

-- no operation has two threads
pub owned_apart : {most : ℕ} {start : ℕ → ℕ} {t u o o' : ℕ} → Growing start → Owned most start t o → Owned most start u o' → u ≢ t → o' ≢ o
owned_apart {most} {start} {t} {u} {o} {o'} grows p q n e = go (dec_lt u t)
  where
    go : Dec (u < t) → ⊥
    go (yes l) = omega (arith, grows (suc u) t l, p.from, q.below)
    go (no l) = omega (arith, grows (suc t) u (omega arith), p.below, q.from)

-- ---- The facts, of at most so many threads.

pub record Turns (most : ℕ) (start : ℕ → ℕ) (m : Board) : Type 0 where
  -- a thread's operations end where the next thread's begin, and its current one is among them, or there is none left
  pub ends : (t : ℕ) → t < most → m.end t ≡ start (suc t)
  pub from : (t : ℕ) → t < most → start t ≤ m.op t
  pub upto : (t : ℕ) → t < most → m.op t ≤ m.end t
  pub whose : (o : ℕ) → o < start most → Owned most start (m.whose o) o
  -- those before the current one have returned, it has not, and those after it have not begun
  pub returned : (t o : ℕ) → t < most → start t ≤ o → o < m.op t → 0 < m.last o
  pub going : (t : ℕ) → t < most → m.op t < m.end t → m.last (m.op t) ≡ 0
  pub unbegun : (t o : ℕ) → t < most → m.op t < o → o < m.end t → m.first o ≡ 0
  -- the current one has begun exactly when the thread is inside it
  pub resting : (t : ℕ) → t < most → m.op t < m.end t → m.between t → m.first (m.op t) ≡ 0
  pub begun : (t : ℕ) → t < most → m.inside t → (m.op t < m.end t) × (0 < m.first (m.op t))
  -- steps and numbers of steps
  pub first_past : (o : ℕ) → m.first o ≤ m.clock
  pub last_past : (o : ℕ) → m.last o ≤ m.clock
  pub order : (o : ℕ) → 0 < m.last o → (0 < m.first o) × (m.first o ≤ m.last o)
  pub fresh : (o : ℕ) → m.first o ≡ 0 → m.own o ≡ 0
  pub spent : (o : ℕ) → m.own o ≤ m.clock
  pub idles : m.idle ≤ m.clock
  -- of two operations of one thread the earlier has returned before the later begins
  pub sequel : (t o o' : ℕ) → Owned most start t o → Owned most start t o' → o < o' → 0 < m.first o'
      → (0 < m.last o) × (m.last o < m.first o')

-- ---- A step: of a thread in its operation, which goes on or returns, or of one that has none left.

pub data Ending (t o : ℕ) (m m' : Board) : Type 0 where
  goes : m'.inside t → m'.op t ≡ o → m'.last o ≡ m.last o → Ending t o m m'
  returns : m'.between t → m'.op t ≡ suc o → m'.last o ≡ suc m.clock → Ending t o m m'

pub record Turn (t o : ℕ) (m m' : Board) : Type 0 where
  pub clock : m'.clock ≡ suc m.clock
  pub idle : m'.idle ≡ m.idle
  pub whose : (a : ℕ) → m'.whose a ≡ m.whose a
  pub first_other : (a : ℕ) → a ≢ o → m'.first a ≡ m.first a
  pub last_other : (a : ℕ) → a ≢ o → m'.last a ≡ m.last a
  pub own_other : (a : ℕ) → a ≢ o → m'.own a ≡ m.own a
  pub began : m.first o ≡ 0 → m'.first o ≡ suc m.clock
  pub kept : 0 < m.first o → m'.first o ≡ m.first o
  pub own : m'.own o ≡ suc (m.own o)
  pub op : (u : ℕ) → u ≢ t → m'.op u ≡ m.op u
  pub inside : (u : ℕ) → u ≢ t → m'.inside u → m.inside u
  pub between : (u : ℕ) → u ≢ t → m'.between u → m.between u
  pub end : (u : ℕ) → m'.end u ≡ m.end u
  pub ending : Ending t o m m'

-- only the clock and the idle steps are new
abbrev pub rested : ℕ → ℕ → Board → Board
rested clock idle m =
    record {
      clock = clock;
      idle = idle;
      op = m.op;
      end = m.end;
      inside = m.inside;
      between = m.between;
      clash = m.clash;
      whose = m.whose;
      first = m.first;
      last = m.last;
      own = m.own;
    }

-- ---- A turn of thread t in its operation o.

module _ (most : ℕ) (start : ℕ → ℕ) (grows : Growing start) (m m' : Board) (t o : ℕ) (tl : t < most) (i : Turns most start m)
    (at-o : m.op t ≡ o) (left : o < m.end t) (w : Turn t o m m') where
  owned : Owned most start t o
  owned = record { thread = tl; from = omega (arith, i.from t tl); below = omega (arith, i.ends t tl) }

  -- the current one's numbers
  pub now_begun : (0 < m'.first o) × (m'.first o ≤ suc m.clock) × (m.first o ≤ m'.first o)
  now_begun = go (ℕ_discrete (m.first o) 0)
    where
      go : Dec (m.first o ≡ 0) → (0 < m'.first o) × (m'.first o ≤ suc m.clock) × (m.first o ≤ m'.first o)
      go (yes e) = let q = w.began e in (omega arith, omega arith, omega arith)
      go (no n) = let q = w.kept (omega arith) in let r = i.first_past o in (omega arith, omega arith, omega arith)

  owned_of : (u a : ℕ) → u < most → start u ≤ a → a < m.end u → Owned most start u a
  owned_of u a ul f l = record { thread = ul; from = f; below = omega (arith, i.ends u ul) }

  -- a number of threads or operations is this one's or another's
  module _ (u : ℕ) (ul : u < most) (n : u ≢ t) where
    apart : (a : ℕ) → start u ≤ a → a < m.end u → a ≢ o
    apart a f l = owned_apart grows owned (owned_of u a ul f l) n

    apart_op : m.op u < m.end u → m.op u ≢ o
    apart_op l = apart (m.op u) (i.from u ul) l

  from' : (u : ℕ) → u < most → start u ≤ m'.op u
  from' u ul = go (ℕ_discrete u t) w.ending
    where
      go : Dec (u ≡ t) → Ending t o m m' → start u ≤ m'.op u
      go (yes e) (goes p q r) = let f = i.from t tl in rw e (omega arith)
      go (yes e) (returns p q r) = let f = i.from t tl in rw e (omega arith)
      go (no n) d = let q = w.op u n in let f = i.from u ul in omega arith

  upto' : (u : ℕ) → u < most → m'.op u ≤ m'.end u
  upto' u ul = go (ℕ_discrete u t) w.ending
    where
      go : Dec (u ≡ t) → Ending t o m m' → m'.op u ≤ m'.end u
      go (yes e) (goes p q r) = let z = w.end t in rw e (omega arith)
      go (yes e) (returns p q r) = let z = w.end t in rw e (omega arith)
      go (no n) d = let q = w.op u n in let z = w.end u in let f = i.upto u ul in omega arith

  returned' : (u a : ℕ) → u < most → start u ≤ a → a < m'.op u → 0 < m'.last a
  returned' u a ul f l = go (ℕ_discrete u t) (ℕ_discrete a o) w.ending
    where
      go : Dec (u ≡ t) → Dec (a ≡ o) → Ending t o m m' → 0 < m'.last a
      go (yes e) (yes z) (goes p q r) = let k : m'.op u ≡ m'.op t = rw e in absurd (omega arith)
      go (yes e) (yes z) (returns p q r) = rw z (omega arith)
      go (yes e) (no z) (goes p q r) =
          let k : m'.op u ≡ m'.op t = rw e in
          let b : start t ≤ a = rw e at f in
          let x = i.returned t a tl b (omega arith) in
          omega (arith, w.last_other a z)
      go (yes e) (no z) (returns p q r) =
          let k : m'.op u ≡ m'.op t = rw e in
          let b : start t ≤ a = rw e at f in
          let x = i.returned t a tl b (omega arith) in
          omega (arith, w.last_other a z)
      go (no n) c d =
          let k = w.op u n in
          let x = i.returned u a ul f (omega arith) in
          let y = i.upto u ul in
          omega (arith, w.last_other a (apart u ul n a f (omega arith)))

  -- what has not begun has not returned
  unreturned : (a : ℕ) → m.first a ≡ 0 → m.last a ≡ 0
  unreturned a e = go (dec_lt 0 (m.last a))
    where
      go : Dec (0 < m.last a) → m.last a ≡ 0
      go (yes l) = let x = i.order a l in omega arith
      go (no n) = omega arith

  unbegun' : (u a : ℕ) → u < most → m'.op u < a → a < m'.end u → m'.first a ≡ 0
  unbegun' u a ul l h = go (ℕ_discrete u t) w.ending
    where
      here : u ≡ t → o < a → m'.first a ≡ 0
      here e k =
          let z : m'.end u ≡ m.end t = w.end u ∙ (rw e) in
          let x = i.unbegun t a tl (omega arith) (omega arith) in
          omega (arith, w.first_other a (omega arith))

      go : Dec (u ≡ t) → Ending t o m m' → m'.first a ≡ 0
      go (yes e) (goes p q r) = let k : m'.op u ≡ m'.op t = rw e in here e (omega arith)
      go (yes e) (returns p q r) = let k : m'.op u ≡ m'.op t = rw e in here e (omega arith)
      go (no n) d =
          let k = w.op u n in
          let z = w.end u in
          let f = i.from u ul in
          let x = i.unbegun u a ul (omega arith) (omega arith) in
          omega (arith, w.first_other a (apart u ul n a (omega arith) (omega arith)))

  going' : (u : ℕ) → u < most → m'.op u < m'.end u → m'.last (m'.op u) ≡ 0
  going' u ul l = go (ℕ_discrete u t) w.ending
    where
      go : Dec (u ≡ t) → Ending t o m m' → m'.last (m'.op u) ≡ 0
      go (yes e) (goes p q r) = let k : m'.op u ≡ o = (rw e) ∙ q in let x = i.going t tl (omega arith) in rw k (r ∙ rw (← at-o) x)
      go (yes e) (returns p q r) =
          let k : m'.op u ≡ suc o = (rw e) ∙ q in
          let z : m'.end u ≡ m.end t = w.end u ∙ (rw e) in
          rw k (w.last_other (suc o) (omega arith) ∙ unreturned (suc o) (i.unbegun t (suc o) tl (omega arith) (omega arith)))
      go (no n) d =
          let k = w.op u n in
          let z = w.end u in
          rw k (w.last_other (m.op u) (apart_op u ul n (omega arith)) ∙ i.going u ul (omega arith))

  resting' : (u : ℕ) → u < most → m'.op u < m'.end u → m'.between u → m'.first (m'.op u) ≡ 0
  resting' u ul l s = go (ℕ_discrete u t) w.ending
    where
      go : Dec (u ≡ t) → Ending t o m m' → m'.first (m'.op u) ≡ 0
      go (yes e) (goes p q r) = let b : m'.between t = rw e at s in absurd (m'.clash t p b)
      go (yes e) (returns p q r) =
          let k : m'.op u ≡ suc o = (rw e) ∙ q in
          let z : m'.end u ≡ m.end t = w.end u ∙ (rw e) in
          rw k (w.first_other (suc o) (omega arith) ∙ i.unbegun t (suc o) tl (omega arith) (omega arith))
      go (no n) d =
          let k = w.op u n in
          let z = w.end u in
          rw k (w.first_other (m.op u) (apart_op u ul n (omega arith)) ∙ i.resting u ul (omega arith) (w.between u n s))

  begun' : (u : ℕ) → u < most → m'.inside u → (m'.op u < m'.end u) × (0 < m'.first (m'.op u))
  begun' u ul s = go (ℕ_discrete u t) w.ending
    where
      go : Dec (u ≡ t) → Ending t o m m' → (m'.op u < m'.end u) × (0 < m'.first (m'.op u))
      go (yes e) (goes p q r) =
          let k : m'.op u ≡ o = (rw e) ∙ q in
          let z : m'.end u ≡ m.end t = w.end u ∙ (rw e) in
          let b = now_begun in
          (omega arith, rw k b.0)
      go (yes e) (returns p q r) = let b : m'.inside t = rw e at s in absurd (m'.clash t b p)
      go (no n) d =
          let k = w.op u n in
          let z = w.end u in
          let x = i.begun u ul (w.inside u n s) in
          let y = w.first_other (m.op u) (apart_op u ul n x.0) in
          (omega arith, rw k (omega arith))

  -- of one operation
  module _ (a : ℕ) where
    first_past' : m'.first a ≤ m'.clock
    first_past' = go (ℕ_discrete a o)
      where
        go : Dec (a ≡ o) → m'.first a ≤ m'.clock
        go (yes e) = rw e (let b = now_begun in let c = w.clock in omega arith)
        go (no n) = omega (arith, w.first_other a n, i.first_past a, w.clock)

    last_past' : m'.last a ≤ m'.clock
    last_past' = go (ℕ_discrete a o) w.ending
      where
        go : Dec (a ≡ o) → Ending t o m m' → m'.last a ≤ m'.clock
        go (yes e) (goes p q r) = rw e (omega (arith, i.last_past o, w.clock))
        go (yes e) (returns p q r) = rw e (omega (arith, w.clock))
        go (no n) d = omega (arith, w.last_other a n, i.last_past a, w.clock)

    order' : 0 < m'.last a → (0 < m'.first a) × (m'.first a ≤ m'.last a)
    order' h = go (ℕ_discrete a o) w.ending
      where
        go : Dec (a ≡ o) → Ending t o m m' → (0 < m'.first a) × (m'.first a ≤ m'.last a)
        go (yes e) (goes p q r) =
            let x : m.last o ≡ 0 = rw at-o at (i.going t tl (omega arith)) in
            let y : m'.last a ≡ m'.last o = rw e in
            absurd (omega arith)
        go (yes e) (returns p q r) = rw e (let b = now_begun in (omega arith, omega arith))
        go (no n) d =
            let x = w.last_other a n in
            let y = w.first_other a n in
            let z = i.order a (omega arith) in
            (omega arith, omega arith)

    fresh' : m'.first a ≡ 0 → m'.own a ≡ 0
    fresh' h = go (ℕ_discrete a o)
      where
        go : Dec (a ≡ o) → m'.own a ≡ 0
        go (yes e) = let x : m'.first a ≡ m'.first o = rw e in let b = now_begun in absurd (omega arith)
        go (no n) = w.own_other a n ∙ i.fresh a (sym (w.first_other a n) ∙ h)

    spent' : m'.own a ≤ m'.clock
    spent' = go (ℕ_discrete a o)
      where
        go : Dec (a ≡ o) → m'.own a ≤ m'.clock
        go (yes e) = rw e (omega (arith, w.own, i.spent o, w.clock))
        go (no n) = omega (arith, w.own_other a n, i.spent a, w.clock)

  sequel' : (u a b : ℕ) → Owned most start u a → Owned most start u b → a < b → 0 < m'.first b
      → (0 < m'.last a) × (m'.last a < m'.first b)
  sequel' u a b oa ob l h = go (ℕ_discrete a o) (ℕ_discrete b o) (ℕ_discrete u t)
    where
      begins_now : u ≡ t → a ≢ o → b ≡ o → Dec (m.first o ≡ 0) → (0 < m'.last a) × (m'.last a < m'.first b)
      begins_now e n z (yes f) =
          let x = w.last_other a n in
          let g : start t ≤ a = rw e at oa.from in
          let y = i.returned t a tl g (omega arith) in
          let v = w.began f in
          let q : m'.first b ≡ m'.first o = rw z in
          let c = i.last_past a in
          (omega arith, omega arith)
      begins_now e n z (no f) =
          let x = w.last_other a n in
          let k : m.first b ≡ m.first o = rw z in
          let y = i.sequel u a b oa ob l (omega arith) in
          let v = w.kept (omega arith) in
          let q : m'.first b ≡ m'.first o = rw z in
          (omega arith, omega arith)

      go : Dec (a ≡ o) → Dec (b ≡ o) → Dec (u ≡ t) → (0 < m'.last a) × (m'.last a < m'.first b)
      go (yes x) (yes y) d = absurd (omega arith)
      go (yes x) (no y) (yes e) =
          let k : b < start (suc t) = rw e at ob.below in
          let f = i.unbegun t b tl (omega arith) (omega (arith, i.ends t tl)) in
          let g = w.first_other b y in
          absurd (omega arith)
      go (yes x) (no y) (no n) = absurd (owned_apart grows owned oa n x)
      go (no x) (yes y) (yes e) = begins_now e x y (ℕ_discrete (m.first o) 0)
      go (no x) (yes y) (no n) = absurd (owned_apart grows owned ob n y)
      go (no x) (no y) d =
          let p = w.last_other a x in
          let q = w.first_other b y in
          let r = i.sequel u a b oa ob l (omega arith) in
          (omega arith, omega arith)

  pub turns_taken : Turns most start m'
  turns_taken =
      record {
        ends = λ u ul. w.end u ∙ i.ends u ul;
        from = from';
        upto = upto';
        whose = λ a l. subst (λ (x : ℕ). Owned most start x a) (sym (w.whose a)) (i.whose a l);
        returned = returned';
        going = going';
        unbegun = unbegun';
        resting = resting';
        begun = begun';
        first_past = first_past';
        last_past = last_past';
        order = order';
        fresh = fresh';
        spent = spent';
        idles = omega (arith, i.idles, w.idle, w.clock);
        sequel = sequel';
      }

-- ---- An idle step, and the start.

module _ (most : ℕ) (start : ℕ → ℕ) (m : Board) where
  pub turns_rested : (clock idle : ℕ) → m.clock ≤ clock → idle ≤ clock → Turns most start m → Turns most start (rested clock idle m)
  turns_rested clock idle h l i =
      record {
        ends = i.ends;
        from = i.from;
        upto = i.upto;
        whose = i.whose;
        returned = i.returned;
        going = i.going;
        unbegun = i.unbegun;
        resting = i.resting;
        begun = i.begun;
        first_past = λ o. omega (arith, i.first_past o);
        last_past = λ o. omega (arith, i.last_past o);
        order = i.order;
        fresh = i.fresh;
        spent = λ o. omega (arith, i.spent o);
        idles = l;
        sequel = i.sequel;
      }

  -- nothing has begun
  pub record Unbegun : Type 0 where
    pub idle : m.idle ≡ 0
    pub op : (t : ℕ) → t < most → m.op t ≡ start t
    pub end : (t : ℕ) → t < most → m.end t ≡ start (suc t)
    pub outside : (t : ℕ) → m.inside t → ⊥
    pub whose : (o : ℕ) → o < start most → Owned most start (m.whose o) o
    pub first : (o : ℕ) → m.first o ≡ 0
    pub last : (o : ℕ) → m.last o ≡ 0
    pub own : (o : ℕ) → m.own o ≡ 0

  pub turns_start : Growing start → Unbegun → Turns most start m
  turns_start grows u =
      record {
        ends = u.end;
        from = λ t l. omega (arith, u.op t l);
        upto = λ t l. omega (arith, u.op t l, u.end t l, grows t (suc t) (omega arith));
        whose = u.whose;
        returned = λ t o tl f l. absurd (omega (arith, u.op t tl));
        going = λ t tl l. u.last _;
        unbegun = λ t o tl f l. u.first o;
        resting = λ t tl l e. u.first _;
        begun = λ t tl s. absurd (u.outside t s);
        first_past = λ o. omega (arith, u.first o);
        last_past = λ o. omega (arith, u.last o);
        order = λ o l. absurd (omega (arith, u.last o));
        fresh = λ o e. u.own o;
        spent = λ o. omega (arith, u.own o);
        idles = omega (arith, u.idle);
        sequel = λ t a b oa ob l h. absurd (omega (arith, u.first b));
      }
