use Rattle.connection_uri.proofs.PageLemmas as lemmas
use Rattle.connection_uri.proofs.pages.page_urls_differ.Goals as goal

pub returns : goal.returns
returns c = lemmas.page_urls_differ
