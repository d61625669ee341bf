use Rattle.version_store.proofs.OutcomeLemmas.{one_list}
use Rattle.version_store.proofs.laws.one_list_of_rows.Goals as goal

pub returns : goal.returns
returns c = one_list
