use Rattle.version_store.proofs.IndexLawsLemmas.TouchedLemmas.{same_news}
use Rattle.version_store.proofs.index_laws.touched.same_news_same_run.Goals as goal

pub returns : goal.returns
returns c = same_news
