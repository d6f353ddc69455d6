-- Of each public function: two answers that meet its promise are equal (`κs`: how long what is lent is lent).
use contract.Lifetimes.{Lfts}
use Rattle.terms.proofs.Once.{Once, once}
use Rattle.accesses.proofs.cell_of.Reads as cell_of
use Rattle.accesses.proofs.stands_at.Reads as stands_at
use Rattle.accesses.proofs.access.Reads as access
use Rattle.accesses.proofs.request.Reads as request

pub cell_of_once : Once (cell_of.Post tt)
cell_of_once a r s e d p q = once p q

pub stands_at_once : Once (stands_at.Post tt)
stands_at_once a r s e d p q = once p q

pub access_once : (κs : Lfts 1) → Once (access.Post κs)
access_once κs a r s e d p q = once p q

pub request_once : (κs : Lfts 1) → Once (request.Post κs)
request_once κs a r s e d p q = once p q
