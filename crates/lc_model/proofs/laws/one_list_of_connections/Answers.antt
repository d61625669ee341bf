use Rattle.lc_model.proofs.OneValueLemmas as law
use Rattle.lc_model.proofs.laws.one_list_of_connections.Goals as goal

pub returns : goal.returns
returns c = law.one_list_of_connections
