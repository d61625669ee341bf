use Rattle.page_relay.proofs.HonestLemmas.{new_is}
use Rattle.page_relay.proofs.laws.new_relays_are_honest.Goals as goal

pub returns-clause-honest : goal.returns-clause-honest
returns-clause-honest g c = λ inner base under side entries is. new_is under _ _ side is

pub returns-clause-quiet : goal.returns-clause-quiet
returns-clause-quiet g c = λ inner base under side entries is. record { as_honest = new_is under _ _ side is.as_honest; quiet = is.quiet }
