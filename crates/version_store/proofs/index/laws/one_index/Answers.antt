use Rattle.version_store.proofs.IndexLemmas.LawLemmas.{one_list_of_rows}
use Rattle.version_store.proofs.index.laws.one_index.Goals as goal

pub returns : goal.returns
returns c = one_list_of_rows
