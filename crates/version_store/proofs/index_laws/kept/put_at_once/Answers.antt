use Rattle.version_store.proofs.IndexLawsLemmas.PutLemmas.{put_at_once}
use Rattle.version_store.proofs.index_laws.kept.put_at_once.Goals as goal

pub returns : goal.returns
returns c = put_at_once
