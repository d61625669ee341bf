use Rattle.gtfs_tables.proofs.CalendarsLemmas.ReadLaws.{frequencies_faults_are_one, frequencies_are_one, frequencies_have_no_fault}
use Rattle.gtfs_tables.proofs.calendars.laws.one_frequencies.Goals as goal

pub returns : goal.returns
returns c = record { frequencies = frequencies_are_one; fault = frequencies_faults_are_one; never_both = frequencies_have_no_fault }
