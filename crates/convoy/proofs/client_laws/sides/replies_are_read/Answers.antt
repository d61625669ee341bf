use Rattle.convoy.proofs.ClientLawsLemmas.ReadLemmas as lemmas
use Rattle.convoy.proofs.client_laws.sides.replies_are_read.Goals as goal

pub returns-clause-gate : goal.returns-clause-gate
returns-clause-gate c = lemmas.gate_is_read

pub returns-clause-stops : goal.returns-clause-stops
returns-clause-stops c = lemmas.stops_are_read

pub returns-clause-page : goal.returns-clause-page
returns-clause-page c = lemmas.page_is_read
