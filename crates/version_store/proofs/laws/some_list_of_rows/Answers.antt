use Rattle.version_store.proofs.SomeRowsLemmas.{some_rows}
use Rattle.version_store.proofs.laws.some_list_of_rows.Goals as goal

pub returns : goal.returns
returns c = some_rows
