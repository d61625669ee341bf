use Rattle.gtfs_tables.proofs.CalendarsLemmas.ReadLaws.{transfers_faults_are_one, transfers_are_one, transfers_have_no_fault}
use Rattle.gtfs_tables.proofs.calendars.laws.one_transfers.Goals as goal

pub returns : goal.returns
returns c = record { transfers = transfers_are_one; fault = transfers_faults_are_one; never_both = transfers_have_no_fault }
