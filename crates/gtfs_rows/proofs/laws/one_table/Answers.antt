use Rattle.gtfs_rows.proofs.FaultLemmas.{faults_are_one, table_breaks_none}
use Rattle.gtfs_rows.proofs.SheetLemmas.{sheets_are_one}
use Rattle.gtfs_rows.proofs.laws.one_table.Goals as goal

pub returns : goal.returns
returns c = record { sheet = sheets_are_one; fault = faults_are_one; never_both = table_breaks_none }
