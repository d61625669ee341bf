-- Each value is one.
use Rattle.lc_io.proofs.NearLemmas.{one_exchange, one_next, one_read}
use Rattle.lc_io.proofs.laws.one_step.Goals as goal

pub returns-clause-read : goal.returns-clause-read
returns-clause-read c = one_read

pub returns-clause-next : goal.returns-clause-next
returns-clause-next c = one_next

pub returns-clause-exchange : goal.returns-clause-exchange
returns-clause-exchange c = one_exchange
