use Rattle.version_store.proofs.IndexLawsLemmas.TouchedLemmas as touched
use Rattle.version_store.proofs.index_laws.touched.others_stay.Goals as goal

pub returns : goal.returns
returns c = record { stay = touched.others_stay; live = touched.live_after_live }
