use Rattle.convoy.proofs.PageLawsLemmas.AlongLemmas as law
use Rattle.convoy.proofs.page_laws.rides.early_may_go.Goals as goal

pub returns : goal.returns
returns c = record { chains_stay = law.early_may_go; least_stays = law.least_without_early }
