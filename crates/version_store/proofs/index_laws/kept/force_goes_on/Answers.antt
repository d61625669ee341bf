use Rattle.version_store.proofs.IndexLawsLemmas.KeptLemmas as kept
use Rattle.version_store.proofs.index_laws.kept.force_goes_on.Goals as goal

pub returns : goal.returns
returns c = record { goes_on = kept.goes_on; of_number = kept.of_number; newest = kept.newest; older = kept.older }
