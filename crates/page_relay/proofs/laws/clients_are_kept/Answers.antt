use Rattle.page_relay.proofs.KeepableLemmas as lemmas
use Rattle.page_relay.proofs.laws.clients_are_kept.Goals as goal

pub returns : goal.returns
returns c = lemmas.clients_are_kept
