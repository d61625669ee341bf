use Rattle.version_store.proofs.IndexLawsLemmas.WalkLemmas.{walked_are}
use Rattle.version_store.proofs.index_laws.walk.walked_are_connections.Goals as goal

pub returns : goal.returns
returns c = walked_are
