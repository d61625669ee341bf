use Rattle.connection_uri.proofs.BaseLemmas as lemmas
use Rattle.connection_uri.proofs.base.bases_are_read.Goals as goal

pub returns : goal.returns
returns c = lemmas.bases_are_read
