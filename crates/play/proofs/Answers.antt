-- What the form in numbers says of an answer: two answers of one form are equal. And what an answer may be told of.
use Rattle.std.proofs.Common.{◌≡◌, ℕ, ap, ◌∙◌, arith, Result, Ok, Err, OnOk}
use Rattle.runfile.specs.declared.Refusal.{Refusal}
use Rattle.runfile.specs.declared.Refused.{Refused}
use Rattle.play.specs.declared.Played.{Played}
use Rattle.play.specs.declared.Told.{Told}
use Rattle.play.specs.Answers.{told_by}
use Rattle.runfile.proofs.Rows.{numbered, one_row}

pub told_once : (r s : Result Played Refused) → told_by r ≡ told_by s → r ≡ s
told_once (Ok p) (Ok q) e = ap (λ (t : Told). Ok (record { entries = t.entries; idle = t.idle; snapshots = t.snapshots })) e
told_once (Ok p) (Err b) e = absurd (omega (arith, numbered b.why, ap (λ (t : Told). t.number) e))
told_once (Err a) (Ok q) e = absurd (omega (arith, numbered a.why, ap (λ (t : Told). t.number) e))
told_once (Err a) (Err b) e =
    ap (λ (w : Refusal). refusal w a.place) (one_row a.why b.why (ap (λ (t : Told). t.number) e)) ∙ ap (refusal b.why) (ap (λ (t : Told). t.place) e)
  where
    refusal : Refusal → ℕ → Result Played Refused
    refusal w p = Err (record { why = w; place = p })

-- what holds anyway holds where there is a value
pub on_ok : {T E P : Type 0} (r : Result T E) → P → OnOk r P
on_ok (Ok x) p = p
on_ok (Err e) p = tt
