use Rattle.connection_uri.proofs.BaseLemmas as lemmas
use Rattle.connection_uri.proofs.base.one_base.Goals as goal

pub returns : goal.returns
returns c = lemmas.one_base
