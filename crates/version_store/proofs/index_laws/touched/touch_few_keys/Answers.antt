use Rattle.version_store.proofs.IndexLawsLemmas.TouchedLemmas.{touch_few}
use Rattle.version_store.proofs.index_laws.touched.touch_few_keys.Goals as goal

pub returns : goal.returns
returns c = touch_few
