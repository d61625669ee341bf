use Rattle.convoy.proofs.ClientLawsLemmas.OwnPageLemmas.{links_lead_along}
use Rattle.convoy.proofs.ClientLawsLemmas.PublishedLemmas as lemmas
use Rattle.convoy.proofs.client_laws.laws.one_published.Goals as goal

pub returns : goal.returns
returns c = record { published = lemmas.one_published; lawful = lemmas.is_lawful; pages = lemmas.pages_are_among; links = links_lead_along }
