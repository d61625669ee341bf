use Rattle.change_rounds.proofs.AlikeLemmas as law
use Rattle.change_rounds.proofs.laws.one_fewest.Goals as goal

pub returns : goal.returns
returns c = record { chains = law.chains_are_alike; journeys = law.journeys_are_alike }
