use Rattle.connection_uri.proofs.JoinLemmas as lemmas
use Rattle.connection_uri.proofs.pages.page_urls_join.Goals as goal

pub returns : goal.returns
returns c = lemmas.page_urls_join
