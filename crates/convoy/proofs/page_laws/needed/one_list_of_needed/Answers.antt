use Rattle.convoy.proofs.PageLawsLemmas.NeededLemmas as law
use Rattle.convoy.proofs.page_laws.needed.one_list_of_needed.Goals as goal

pub returns : goal.returns
returns c = law.one_list_of_needed
