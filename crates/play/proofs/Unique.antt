-- Two answers that meet a function's own promise are equal, and so is what they leave in the lent buffers (`κs`: how long those are
-- lent): of `run`, of `hand_back`, of `lacks_room`, and of the form of an answer in which C is handed it.
use contract.Lifetimes.{Lfts}
use Rattle.terms.proofs.Once.{Once, Ends, once}
use Rattle.play.proofs.Answers.{told_once}
use Rattle.play.proofs.run.Reads as run
use Rattle.play.proofs.hand_back.Reads as hand-back
use Rattle.play.proofs.lacks_room.Reads as lacks-room
use Rattle.play.proofs.ToldFromResultPlayedRefused.from.Reads as told-form

pub told_form_once : Once (told-form.Post tt)
told_form_once a r s e d p q = once p q

pub lacks_room_once : Once (lacks-room.Post tt)
lacks_room_once a r s e d p q = once p q

module _ (κs : Lfts 3) where
  pub hand_back_once : Once (hand-back.Post κs)
  hand_back_once a r s e d p q = told_once r s (once p.0 q.0)

  pub hand_back_results : Ends (λ e. e.1.1.0.now) (hand-back.Post κs)
  hand_back_results a r s e d p q = once p.1.0 q.1.0

  pub hand_back_log : Ends (λ e. e.1.1.1.0.now) (hand-back.Post κs)
  hand_back_log a r s e d p q = once p.1.1 q.1.1

module _ (κs : Lfts 3) where
  pub run_once : Once (run.Post κs)
  run_once a r s e d p q = told_once r s (once p.0 q.0)

  pub run_results : Ends (λ e. e.1.0.now) (run.Post κs)
  run_results a r s e d p q = once p.1.0 q.1.0

  pub run_log : Ends (λ e. e.1.1.0.now) (run.Post κs)
  run_log a r s e d p q = once p.1.1.0 q.1.1.0
