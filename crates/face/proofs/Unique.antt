-- Two answers that meet the promise are equal, of each function that other languages call; and so are the outputs that it leaves
-- (`κs`: how long what is lent is lent).
use contract.Lifetimes.{Lfts}
use Rattle.terms.proofs.Once.{Once, Ends, once}
use Rattle.face.proofs.pszenorad_read.Reads as read
use Rattle.face.proofs.pszenorad_write.Reads as write
use Rattle.face.proofs.pszenorad_run.Reads as run

pub read_once : (κs : Lfts 1) → Once (read.Post κs)
read_once κs a r s e d p q = once p q

pub write_once : (κs : Lfts 4) → Once (write.Post κs)
write_once κs a r s e d p q = once p.0 q.0

pub write_ends : (κs : Lfts 4) → Ends (λ e. e.1.1.1.1.1.0.now) (write.Post κs)
write_ends κs a r s e d p q = once p.1 q.1

pub run_once : (κs : Lfts 3) → Once (run.Post κs)
run_once κs a r s e d p q = once p.0 q.0

-- the results, and the log
pub run_results : (κs : Lfts 3) → Ends (λ e. e.1.0.now) (run.Post κs)
run_results κs a r s e d p q = once p.1.0 q.1.0

pub run_log : (κs : Lfts 3) → Ends (λ e. e.1.1.0.now) (run.Post κs)
run_log κs a r s e d p q = once p.1.1 q.1.1
