use Rattle.convoy.proofs.PageLawsLemmas.LeastLemmas as lemmas
use Rattle.convoy.proofs.page_laws.journeys.some_least_arrival.Goals as goal

pub returns : goal.returns
returns c = lemmas.some_least_arrival
