-- Two answers that meet a function's own promise are equal.
use Rattle.terms.proofs.Once.{Once, once}
use Rattle.figures.proofs.CallFromU8.from.Reads as call-of
use Rattle.figures.proofs.Call.is_size.Reads as is_size
use Rattle.figures.proofs.key_of.Reads as key_of
use Rattle.figures.proofs.no_record.Reads as no_record

pub call_once : Once (call-of.Post tt)
call_once a r s e d p q = once p q

pub size_once : Once (is_size.Post tt)
size_once a r s e d p q = once p q

pub key_once : Once (key_of.Post tt)
key_once a r s e d p q = once p q

pub no_record_once : Once (no_record.Post tt)
no_record_once a r s e d p q = once p q
