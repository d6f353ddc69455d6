-- Two answers that meet a function's own promise are equal, for each public function; of `write_log`, also what they leave in the lent
-- buffer (`κs`: how long things are lent).
use contract.Lifetimes.{Lfts}
use Rattle.terms.proofs.Once.{Once, Ends, once}
use Rattle.places.proofs.rules.Window.of.Reads as window-of
use Rattle.places.proofs.rules.was_raised.Reads as was_raised_lem
use Rattle.places.proofs.rules.is_listed.Reads as is-listed
use Rattle.places.proofs.rules.decider.Reads as decider
use Rattle.places.proofs.rules.size_stands.Reads as size_stands_lem
use Rattle.places.proofs.rules.own_cell.Reads as own-cell
use Rattle.places.proofs.rules.missed.Reads as missed
use Rattle.places.proofs.rules.update_stands.Reads as update-stands
use Rattle.places.proofs.rules.after_stands.Reads as after-stands
use Rattle.places.proofs.rules.finder_stands.Reads as finder-stands
use Rattle.places.proofs.rules.stands.Reads as stands
use Rattle.places.proofs.rules.number_of.Reads as number_of
use Rattle.places.proofs.writing.held.Reads as held
use Rattle.places.proofs.writing.History.write_log.Reads as write-log

pub after_stands_once : Once (after-stands.Post tt)
after_stands_once a r s e d p q = once p q

pub finder_stands_once : Once (finder-stands.Post tt)
finder_stands_once a r s e d p q = once p q

pub number_of_once : Once (number_of.Post tt)
number_of_once a r s e d p q = once p q

pub held_once : Once (held.Post tt)
held_once a r s e d p q = once p q

module _ (κs : Lfts 1) where
  pub window_of_once : Once (window-of.Post κs)
  window_of_once a r s e d p q = once p q

  pub was_raised_once : Once (was_raised_lem.Post κs)
  was_raised_once a r s e d p q = once p q

  pub is_listed_once : Once (is-listed.Post κs)
  is_listed_once a r s e d p q = once p q

  pub decider_once : Once (decider.Post κs)
  decider_once a r s e d p q = once p q

  pub size_stands_once : Once (size_stands_lem.Post κs)
  size_stands_once a r s e d p q = once p q

  pub own_cell_once : Once (own-cell.Post κs)
  own_cell_once a r s e d p q = once p q

  pub missed_once : Once (missed.Post κs)
  missed_once a r s e d p q = once p q

  pub update_stands_once : Once (update-stands.Post κs)
  update_stands_once a r s e d p q = once p q

  pub stands_once : Once (stands.Post κs)
  stands_once a r s e d p q = once p q

module _ (κs : Lfts 2) where
  pub write_log_once : Once (write-log.Post κs)
  write_log_once a r s e d p q = once p.0 q.0

  pub write_log_ends : Ends (λ e. e.1.1.0.now) (write-log.Post κs)
  write_log_ends a r s e d p q = once p.1 q.1
