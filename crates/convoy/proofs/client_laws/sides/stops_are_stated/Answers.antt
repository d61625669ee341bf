use Rattle.convoy.proofs.ClientLawsLemmas.StopsLemmas as lemmas
use Rattle.convoy.proofs.client_laws.sides.stops_are_stated.Goals as goal

pub returns : goal.returns
returns c = lemmas.stops_are_stated
