use Rattle.wire_session.proofs.StandLemmas as lemmas
use Rattle.wire_session.proofs.laws.stands_means.Goals as goal

pub returns : goal.returns
returns c = lemmas.stands_means
