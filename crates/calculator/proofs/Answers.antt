-- Of each public function: two answers that meet its promise are equal, and so is what it leaves in what it was lent (`κs`: how long that
-- is lent).
use contract.Lifetimes.{Lfts}
use Rattle.terms.proofs.Once.{Once, Ends, once}
use Rattle.calculator.proofs.figure4.count_of.Reads as count_of
use Rattle.calculator.proofs.figure4.with_count.Reads as with_count
use Rattle.calculator.proofs.figure4.count_at.Reads as count_at
use Rattle.calculator.proofs.figure4.set_count.Reads as set_count
use Rattle.calculator.proofs.figure4.block_of.Reads as block_of
use Rattle.calculator.proofs.figure4.sight_by.Reads as sight_by
use Rattle.calculator.proofs.figure4.window_of.Reads as window_of
use Rattle.calculator.proofs.figure4.new_id.Reads as new_id
use Rattle.calculator.proofs.figure5.read_count.Reads as read_count
use Rattle.calculator.proofs.figure5.raise_count.Reads as raise_count
use Rattle.calculator.proofs.figure5.read_current.Reads as read_current
use Rattle.calculator.proofs.figure5.read_flag.Reads as read_flag
use Rattle.calculator.proofs.figure5.read_again.Reads as read_again
use Rattle.calculator.proofs.figure5.update.Reads as update
use Rattle.calculator.proofs.figure5.find_current.Reads as find_current
use Rattle.calculator.proofs.figure5.find_flag.Reads as find_flag
use Rattle.calculator.proofs.figure5.announce.Reads as announce
use Rattle.calculator.proofs.figure5.collect_count.Reads as collect_count
use Rattle.calculator.proofs.figure5.lower_flag.Reads as lower_flag
use Rattle.calculator.proofs.figure5.size.Reads as size
use Rattle.calculator.proofs.figure6.on_to.Reads as on_to
use Rattle.calculator.proofs.figure6.done.Reads as done
use Rattle.calculator.proofs.figure6.read_cell.Reads as read_cell
use Rattle.calculator.proofs.figure6.forward.Reads as forward
use Rattle.calculator.proofs.figure6.first_cell.Reads as first_cell
use Rattle.calculator.proofs.figure6.goes.Reads as goes
use Rattle.calculator.proofs.figure6.go_to.Reads as go_to
use Rattle.calculator.proofs.figure6.collect_cell.Reads as collect_cell
use Rattle.calculator.proofs.figure6.collect_set.Reads as collect_set
use Rattle.calculator.proofs.figure6.sum_cell.Reads as sum_cell
use Rattle.calculator.proofs.figure6.total.Reads as total
use Rattle.calculator.proofs.figure6.fix_size.Reads as fix_size
use Rattle.calculator.proofs.exchange.before.Reads as before
use Rattle.calculator.proofs.exchange.raised_pair.Reads as raised_pair
use Rattle.calculator.proofs.exchange.Exchange.witnessed.Reads as witnessed
use Rattle.calculator.proofs.exchange.Exchange.exchange.Reads as exchange
use Rattle.calculator.proofs.exchange.Exchange.traced.Reads as traced
use Rattle.calculator.proofs.exchange.Exchange.current_after.Reads as current_after
use Rattle.calculator.proofs.request.update_request.Reads as update_request
use Rattle.calculator.proofs.request.size_request.Reads as size_request
use Rattle.calculator.proofs.request.Request.record_of.Reads as record_of
use Rattle.calculator.proofs.request.Request.trace_by.Reads as trace_by
use Rattle.calculator.proofs.request.Request.current_by.Reads as current_by

pub count_of_once : Once (count_of.Post tt)
count_of_once a r s e d p q = once p q

pub with_count_once : Once (with_count.Post tt)
with_count_once a r s e d p q = once p q

pub count_at_once : (κs : Lfts 1) → Once (count_at.Post κs)
count_at_once κs a r s e d p q = once p q

pub set_count_ends : (κs : Lfts 1) → Ends (λ e. e.0.now) (set_count.Post κs)
set_count_ends κs a r s e d p q = once p q

pub block_of_once : Once (block_of.Post tt)
block_of_once a r s e d p q = once p q

pub sight_by_once : Once (sight_by.Post tt)
sight_by_once a r s e d p q = once p q

pub window_of_once : Once (window_of.Post tt)
window_of_once a r s e d p q = once p q

pub new_id_once : Once (new_id.Post tt)
new_id_once a r s e d p q = once p q

pub read_count_once : Once (read_count.Post tt)
read_count_once a r s e d p q = once p q

pub raise_count_once : Once (raise_count.Post tt)
raise_count_once a r s e d p q = once p q

pub read_current_once : Once (read_current.Post tt)
read_current_once a r s e d p q = once p q

pub read_flag_once : Once (read_flag.Post tt)
read_flag_once a r s e d p q = once p q

pub read_again_once : Once (read_again.Post tt)
read_again_once a r s e d p q = once p q

pub update_once : Once (update.Post tt)
update_once a r s e d p q = once p q

pub find_current_once : Once (find_current.Post tt)
find_current_once a r s e d p q = once p q

pub find_flag_once : Once (find_flag.Post tt)
find_flag_once a r s e d p q = once p q

pub announce_once : Once (announce.Post tt)
announce_once a r s e d p q = once p q

pub collect_count_once : Once (collect_count.Post tt)
collect_count_once a r s e d p q = once p q

pub lower_flag_once : Once (lower_flag.Post tt)
lower_flag_once a r s e d p q = once p q

pub size_once : (κs : Lfts 1) → Once (size.Post κs)
size_once κs a r s e d p q = once p q

pub on_to_once : Once (on_to.Post tt)
on_to_once a r s e d p q = once p q

pub done_once : Once (done.Post tt)
done_once a r s e d p q = once p q

pub read_cell_once : Once (read_cell.Post tt)
read_cell_once a r s e d p q = once p q

pub forward_once : Once (forward.Post tt)
forward_once a r s e d p q = once p q

pub first_cell_once : Once (first_cell.Post tt)
first_cell_once a r s e d p q = once p q

pub goes_once : Once (goes.Post tt)
goes_once a r s e d p q = once p q

pub go_to_once : Once (go_to.Post tt)
go_to_once a r s e d p q = once p q

pub collect_cell_once : Once (collect_cell.Post tt)
collect_cell_once a r s e d p q = once p q

pub collect_set_once : Once (collect_set.Post tt)
collect_set_once a r s e d p q = once p q

pub sum_cell_once : Once (sum_cell.Post tt)
sum_cell_once a r s e d p q = once p q

pub total_once : (κs : Lfts 1) → Once (total.Post κs)
total_once κs a r s e d p q = once p q

pub fix_size_once : (κs : Lfts 1) → Once (fix_size.Post κs)
fix_size_once κs a r s e d p q = once p q

pub before_once : Once (before.Post tt)
before_once a r s e d p q = once p q

pub raised_pair_once : Once (raised_pair.Post tt)
raised_pair_once a r s e d p q = once p q

pub witnessed_once : (κs : Lfts 1) → Once (witnessed.Post κs)
witnessed_once κs a r s e d p q = once p q

pub exchange_once : (κs : Lfts 1) → Once (exchange.Post κs)
exchange_once κs a r s e d p q = once p.0 q.0

pub exchange_ends : (κs : Lfts 1) → Ends (λ e. e.1.0.now) (exchange.Post κs)
exchange_ends κs a r s e d p q = once p.1 q.1

pub traced_ends : (κs : Lfts 2) → Ends (λ e. e.1.1.1.1.0.now) (traced.Post κs)
traced_ends κs a r s e d p q = once p q

pub current_after_once : Once (current_after.Post tt)
current_after_once a r s e d p q = once p q

pub update_request_once : Once (update_request.Post tt)
update_request_once a r s e d p q = once p q

pub size_request_once : (κs : Lfts 1) → Once (size_request.Post κs)
size_request_once κs a r s e d p q = once p q

pub record_of_once : Once (record_of.Post tt)
record_of_once a r s e d p q = once p q

pub trace_by_ends : (κs : Lfts 2) → Ends (λ e. e.1.1.1.1.0.now) (trace_by.Post κs)
trace_by_ends κs a r s e d p q = once p q

pub current_by_once : Once (current_by.Post tt)
current_by_once a r s e d p q = once p q
