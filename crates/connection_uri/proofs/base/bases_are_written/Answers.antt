use Rattle.connection_uri.proofs.BaseLemmas as lemmas
use Rattle.connection_uri.proofs.base.bases_are_written.Goals as goal

pub returns : goal.returns
returns c = lemmas.written
