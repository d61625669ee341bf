use Rattle.version_store.proofs.IndexLawsLemmas.TouchedLemmas as touched
use Rattle.version_store.proofs.index_laws.touched.update_holds.Goals as goal

pub returns : goal.returns
returns c = touched.update_holds
