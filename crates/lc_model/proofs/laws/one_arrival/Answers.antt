use Rattle.lc_model.proofs.OneValueLemmas as law
use Rattle.lc_model.proofs.laws.one_arrival.Goals as goal

pub returns : goal.returns
returns c = record { answers = law.one_arrival; chains = law.one_least_arrival }
