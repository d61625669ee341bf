use Rattle.page_relay.proofs.HonestLemmas.{not_asked}
use Rattle.page_relay.proofs.relay.recorded_exchange.Goals as goal

pub returns-in_err-sent-clause-honest : goal.returns-in_err-sent-clause-honest
returns-in_err-sent-clause-honest g c = λ base side get is. not_asked _ _ _ base side _ _ c.from_residual.result c.from_residual.ensures.0 is

pub returns-clause-honest : goal.returns-clause-honest
returns-clause-honest g c = rw c.in_ok-sent.ensures at c.exchange-result.ensures.honest
