use Rattle.convoy.proofs.RepliesLemmas.CachedLawsLemmas as lemmas
use Rattle.convoy.proofs.replies.laws.cached_pages.Goals as goal

pub returns-clause-one : goal.returns-clause-one
returns-clause-one c = lemmas.cache_is_one

pub returns-clause-bound : goal.returns-clause-bound
returns-clause-bound c = lemmas.capacity_is_bound

pub returns-clause-wrong : goal.returns-clause-wrong
returns-clause-wrong c = lemmas.wrong_page_is_not_put
