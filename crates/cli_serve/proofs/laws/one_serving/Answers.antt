use Rattle.cli_serve.proofs.LawLemmas as lemmas
use Rattle.cli_serve.proofs.laws.one_serving.Goals as goal

pub returns-clause-visits : goal.returns-clause-visits
returns-clause-visits c = lemmas.one_visiting c.one_output.ensures.one

pub returns-clause-serving : goal.returns-clause-serving
returns-clause-serving c = lemmas.one_serving c.one_output.ensures.one

pub returns-clause-visit : goal.returns-clause-visit
returns-clause-visit c = lemmas.one_visit c.one_output.ensures.one
