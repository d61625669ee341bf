use Rattle.connection_uri.proofs.NameLemmas as lemmas
use Rattle.connection_uri.proofs.names.names_differ.Goals as goal

pub returns : goal.returns
returns c = lemmas.names_differ
