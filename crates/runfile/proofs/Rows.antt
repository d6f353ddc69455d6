-- A table of rows either lets the input pass or stops at one row; what is decided follows, and is the first row that holds.
use Prim.Native.Nat.{ℕ, ◌≤◌}
use mathlib.Core.Path.{◌≡◌, refl, sym, ap, subst, ◌∙◌}
use mathlib.Core.Bool.{Bool, true, false, cond}
use mathlib.Core.List.{List, [], ◌∷◌, ◌++◌}
use mathlib.Core.Logic.{◌⊎◌, inl, inr}
use native.Mathlib.Omega.{arith}
use lib.Dec.{eqb}
use Rattle.runfile.proofs.Laws.{true_false}
use Rattle.runfile.specs.declared.Refusal.{Refusal}
use Rattle.runfile.specs.declared.Refusal.TheVariants.{NoHead, Threads, Keys, TableCutShort, Offset, TooManyOperations, TooManySteps, Length, KeyTooLarge, Step, TooSmall, Lists, KeyNotBelowK, SizeWithKey}
use Rattle.runfile.specs.Refusals.{number_of}
use Rattle.runfile.specs.Rows.{Row, row, decide, names, Passes, Stops, here, later}
use Rattle.runfile.specs.Table.{FirstOf, NoneOf, Decides}

-- ---- numbers: 0 is none's, and each is one row's

pub numbered : (r : Refusal) → 1 ≤ number_of r
numbered NoHead = omega arith
numbered Threads = omega arith
numbered Keys = omega arith
numbered TableCutShort = omega arith
numbered Offset = omega arith
numbered TooManyOperations = omega arith
numbered TooManySteps = omega arith
numbered Length = omega arith
numbered KeyTooLarge = omega arith
numbered Step = omega arith
numbered TooSmall = omega arith
numbered Lists = omega arith
numbered KeyNotBelowK = omega arith
numbered SizeWithKey = omega arith

-- the row of a number, to tell rows apart
abbrev named : ℕ → Refusal
named n =
    cond (eqb n 1) NoHead (cond (eqb n 2) Threads (cond (eqb n 3) Keys (cond (eqb n 4) TableCutShort (cond (eqb n 5) Offset
    (cond (eqb n 6) TooManyOperations (cond (eqb n 7) TooManySteps (cond (eqb n 8) Length (cond (eqb n 9) KeyTooLarge
    (cond (eqb n 10) Step (cond (eqb n 11) TooSmall (cond (eqb n 12) Lists (cond (eqb n 13) KeyNotBelowK SizeWithKey))))))))))))

named_back : (r : Refusal) → named (number_of r) ≡ r
named_back NoHead = refl
named_back Threads = refl
named_back Keys = refl
named_back TableCutShort = refl
named_back Offset = refl
named_back TooManyOperations = refl
named_back TooManySteps = refl
named_back Length = refl
named_back KeyTooLarge = refl
named_back Step = refl
named_back TooSmall = refl
named_back Lists = refl
named_back KeyNotBelowK = refl
named_back SizeWithKey = refl

pub one_row : (r s : Refusal) → number_of r ≡ number_of s → r ≡ s
one_row r s e = sym (named_back r) ∙ ap named e ∙ named_back s

-- ---- what is decided, by whether the rows let pass

pub outcome : (rs : List Row) → Passes rs ⊎ ((r : Refusal) × (p : ℕ) × Stops rs r p)
outcome [] = inl tt
outcome (x ∷ rs) = go x.applies refl (outcome rs)
  where
    go : (b : Bool) → x.applies ≡ b → Passes rs ⊎ ((r : Refusal) × (p : ℕ) × Stops rs r p)
        → Passes (x ∷ rs) ⊎ ((r : Refusal) × (p : ℕ) × Stops (x ∷ rs) r p)
    go true e o = inr (x.name, x.place, here e)
    go false e (inl ps) = inl (e, ps)
    go false e (inr s) = inr (s.0, s.1, later e s.2)

module _ {A : Type 0} (refuse : ℕ → ℕ → A) (accept : A) where
  pub passed : (rs : List Row) → Passes rs → decide refuse accept rs ≡ accept
  passed [] ps = refl
  passed (x ∷ rs) ps = simp ps.0 (passed rs ps.1)

  pub stopped : {rs : List Row} {r : Refusal} {p : ℕ} → Stops rs r p → decide refuse accept rs ≡ refuse (number_of r) p
  stopped (here e) = simp e
  stopped (later e s) = simp e (stopped s)

-- rows and then others: all let pass, or the first that applies is among the former, or among the others
pub passes_append : (rs ts : List Row) → Passes rs → Passes ts → Passes (rs ++ ts)
passes_append [] ts ps qs = qs
passes_append (x ∷ rs) ts ps qs = (ps.0, passes_append rs ts ps.1 qs)

pub stops_append : (rs ts : List Row) {r : Refusal} {p : ℕ} → Stops rs r p → Stops (rs ++ ts) r p
stops_append [] ts s = elim s [ ]
stops_append (x ∷ rs) ts (here e) = here e
stops_append (x ∷ rs) ts (later e s) = later e (stops_append rs ts s)

pub stops_after : (rs : List Row) {ts : List Row} {r : Refusal} {p : ℕ} → Passes rs → Stops ts r p → Stops (rs ++ ts) r p
stops_after [] ps s = s
stops_after (x ∷ rs) ps s = later ps.0 (stops_after rs ps.1 s)

-- whether a row is in an order
abbrev pub listed : List Refusal → Refusal → Bool
listed [] r = false
listed (x ∷ xs) r = cond (eqb (number_of x) (number_of r)) true (listed xs r)

-- rows and then others: the others decide where the first let pass
pub decide_append : {A : Type 0} (refuse : ℕ → ℕ → A) (accept : A) (rs ts : List Row)
    → decide refuse accept (rs ++ ts) ≡ decide refuse (decide refuse accept ts) rs
decide_append refuse accept [] ts = refl
decide_append refuse accept (x ∷ rs) ts = ap (cond x.applies (refuse (number_of x.name) x.place)) (decide_append refuse accept rs ts)

-- the row of a name among others; one that never applies where there is none
abbrev pub row_named : List Row → Refusal → Row
row_named [] r = row r false 0
row_named (x ∷ rs) r = cond (eqb (number_of x.name) (number_of r)) x (row_named rs r)

-- rows that let pass: so does the row of each name
pub past : (rs : List Row) → Passes rs → (r : Refusal) → (row_named rs r).applies ≡ false
past [] ps r = refl
past (x ∷ rs) ps r = go (eqb (number_of x.name) (number_of r)) (past rs ps.1 r)
  where
    go : (b : Bool) → (row_named rs r).applies ≡ false → (cond b x (row_named rs r)).applies ≡ false
    go true h = ps.0
    go false h = h

-- An answer that has the refusal's number: 0 says that every row let the input pass.
module _ {A : Type 0} (refuse : ℕ → ℕ → A) (accept : A) (number : A → ℕ) (told : (n p : ℕ) → number (refuse n p) ≡ n)
    (rs : List Row) where
  pub number_passes : number (decide refuse accept rs) ≡ 0 → Passes rs
  number_passes e = go (outcome rs)
    where
      go : Passes rs ⊎ ((r : Refusal) × (p : ℕ) × Stops rs r p) → Passes rs
      go (inl ps) = ps
      go (inr s) =
          absurd (omega (arith, numbered s.0, sym (told (number_of s.0) s.1) ∙ sym (ap number (stopped refuse accept s.2)) ∙ e))

-- ---- rows that tell what they mean: the first that applies is the first that holds

-- the row applies exactly where it holds, and tells the place
abbrev pub Tells : (Refusal → ℕ → Type 0) → Row → Type 0
Tells Holds x =
    (x.applies ≡ true → Holds x.name x.place) × ((p : ℕ) → Holds x.name p → (x.applies ≡ true) × (x.place ≡ p))

infixr 3 ◌also◌
pub data AllTell (Holds : Refusal → ℕ → Type 0) : List Row → Type 0 where
  done : AllTell Holds []
  ◌also◌ : {x : Row} {rs : List Row} → Tells Holds x → AllTell Holds rs → AllTell Holds (x ∷ rs)

module _ (Holds : Refusal → ℕ → Type 0) where
  none_at : (x : Row) → Tells Holds x → x.applies ≡ false → (q : ℕ) → Holds x.name q → ⊥
  none_at x t e q h = true_false (sym (t.1 q h).0 ∙ e)

  stops_first : (rs : List Row) {r : Refusal} {p : ℕ} → AllTell Holds rs → Stops rs r p → FirstOf Holds (names rs) r p
  stops_first [] {r = r} {p = p} _ x3 = elim x3 [ ]
  stops_first (x ∷ rs) (t also ts) (here e) = inl (refl, t.0 e)
  stops_first (x ∷ rs) (t also ts) (later e s) = inr (none_at x t e, stops_first rs ts s)

  passes_none : (rs : List Row) → AllTell Holds rs → Passes rs → NoneOf Holds (names rs)
  passes_none [] done ps = tt
  passes_none (x ∷ rs) (t also ts) ps = (none_at x t ps.0, passes_none rs ts ps.1)

  off : (x : Row) → Tells Holds x → ((q : ℕ) → Holds x.name q → ⊥) → x.applies ≡ false
  off x t none = go x.applies refl
    where
      go : (b : Bool) → x.applies ≡ b → x.applies ≡ false
      go true e = absurd (none x.place (t.0 e))
      go false e = e

  none_passes : (rs : List Row) → AllTell Holds rs → NoneOf Holds (names rs) → Passes rs
  none_passes [] done n = tt
  none_passes (x ∷ rs) (t also ts) n = (off x t n.0, none_passes rs ts n.1)

  -- the first row that holds stops
  first_stops : (rs : List Row) (r : Refusal) (p : ℕ) → AllTell Holds rs → FirstOf Holds (names rs) r p → Stops rs r p
  first_stops [] r p done h = absurd h
  first_stops (x ∷ rs) r p (t also ts) (inl h) =
      let on = t.1 p (subst (λ (y : Refusal). Holds y p) (sym h.0) h.1) in
      subst (λ (y : Refusal). Stops (x ∷ rs) y p) h.0 (subst (Stops (x ∷ rs) x.name) on.1 (here on.0))
  first_stops (x ∷ rs) r p (t also ts) (inr h) = later (off x t h.0) (first_stops rs r p ts h.1)

  -- an order of rows none of which holds
  pub none_of : ((r : Refusal) (p : ℕ) → Holds r p → ⊥) → (order : List Refusal) → NoneOf Holds order
  none_of none [] = tt
  none_of none (x ∷ xs) = (none x, none_of none xs)

  -- an answer that tells number and place
  module _ {A : Type 0} (refuse : ℕ → ℕ → A) (accept : A) (number place : A → ℕ) (zero-told : number accept ≡ 0)
      (number_told : (n p : ℕ) → number (refuse n p) ≡ n) (place_told : (n p : ℕ) → place (refuse n p) ≡ p)
      (rs : List Row) (t : AllTell Holds rs) where
    refused_by : {r : Refusal} {p : ℕ} → Stops rs r p
        → (number (decide refuse accept rs) ≡ number_of r) × (place (decide refuse accept rs) ≡ p)
    refused_by {r} {p} s =
        (ap number (stopped refuse accept s) ∙ number_told (number_of r) p, ap place (stopped refuse accept s) ∙ place_told (number_of r) p)

    pub decides : Decides Holds (names rs) (number (decide refuse accept rs)) (place (decide refuse accept rs))
    decides =
        record {
          refuses = λ r p. (λ e. go r p (outcome rs) e.0 e.1, λ h. refused_by (first_stops rs r p t h));
          accepts = (
            λ e. passes_none rs t (number_passes refuse accept number number_told rs e),
            λ n. ap number (passed refuse accept rs (none_passes rs t n)) ∙ zero-told,
          );
          either = found (outcome rs);
        }
      where
        go : (r : Refusal) (p : ℕ) → Passes rs ⊎ ((s : Refusal) × (q : ℕ) × Stops rs s q)
            → number (decide refuse accept rs) ≡ number_of r → place (decide refuse accept rs) ≡ p
            → FirstOf Holds (names rs) r p
        go r p (inl ps) e e' = absurd (omega (arith, numbered r, sym e ∙ ap number (passed refuse accept rs ps) ∙ zero-told))
        go r p (inr s) e e' =
            let told = refused_by s.2 in
            subst (λ (y : Refusal). FirstOf Holds (names rs) y p) (one_row s.0 r (sym told.0 ∙ e))
            (subst (FirstOf Holds (names rs) s.0) (sym told.1 ∙ e') (stops_first rs t s.2))

        found : Passes rs ⊎ ((s : Refusal) × (q : ℕ) × Stops rs s q)
            → NoneOf Holds (names rs) ⊎ ((r : Refusal) × (p : ℕ) × FirstOf Holds (names rs) r p)
        found (inl ps) = inl (passes_none rs t ps)
        found (inr s) = inr (s.0, s.1, stops_first rs t s.2)
