use Rattle.version_store.proofs.IndexLawsLemmas.RowLemmas as rows
use Rattle.version_store.proofs.index_laws.rows.sorted_are_rows.Goals as goal

pub returns : goal.returns
returns c = record { rows = rows.sorted_rows; departures = rows.ordered_departures }
