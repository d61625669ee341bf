use Rattle.convoy.proofs.ClientLawsLemmas.PageLemmas as lemmas
use Rattle.convoy.proofs.client_laws.sides.pages_are_stated.Goals as goal

pub returns : goal.returns
returns c = lemmas.page_is_stated
