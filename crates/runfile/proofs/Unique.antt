-- Two answers that meet the promise are equal, of `number`, `at`, `read` and `write` and of the forms in numbers; and so is the output
-- that `write` leaves (`κs`: how long what is lent is lent).
use contract.Lifetimes.{Lfts}
use mathlib.Core.Path.{sym, ◌∙◌}
use Rattle.terms.proofs.Once.{Once, Ends, once}
use Rattle.runfile.proofs.Answers.{reading_once, writing_once}
use Rattle.runfile.proofs.Refusal.number.Reads as number
use Rattle.runfile.proofs.Refusal.at.Reads as at
use Rattle.runfile.proofs.ReadingFromResultLayoutRefused.from.Reads as reading
use Rattle.runfile.proofs.WritingFromResultUsizeRefused.from.Reads as writing
use Rattle.runfile.proofs.read.Reads as read
use Rattle.runfile.proofs.write.Reads as write

pub number_once : Once (number.Post tt)
number_once a r s e d p q = once p q

pub at_once : Once (at.Post tt)
at_once a r s e d p q = once p q

pub reading_form_once : Once (reading.Post tt)
reading_form_once a r s e d p q = once p q

pub writing_form_once : Once (writing.Post tt)
writing_form_once a r s e d p q = once p q

pub read_once : (κs : Lfts 1) → Once (read.Post κs)
read_once κs a r s e d p q = reading_once r s (p ∙ sym q)

pub write_once : (κs : Lfts 2) → Once (write.Post κs)
write_once κs a r s e d p q = writing_once r s (p.0 ∙ sym q.0)

pub write_ends : (κs : Lfts 2) → Ends (λ e. e.1.0.now) (write.Post κs)
write_ends κs a r s e d p q = once p.1 q.1
