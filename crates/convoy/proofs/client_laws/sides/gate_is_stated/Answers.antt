use Rattle.convoy.proofs.ClientLawsLemmas.GateLemmas as lemmas
use Rattle.convoy.proofs.client_laws.sides.gate_is_stated.Goals as goal

pub returns : goal.returns
returns c = lemmas.gate_is_stated
