use Rattle.page_relay.proofs.ExchangeLemmas as lemmas
use Rattle.page_relay.proofs.laws.one_memory.Goals as goal

pub returns : goal.returns
returns c = lemmas.one_memory
