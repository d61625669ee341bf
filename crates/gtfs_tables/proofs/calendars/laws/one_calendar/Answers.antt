use Rattle.gtfs_tables.proofs.CalendarsLemmas.ReadLaws.{calendar_faults_are_one, weekly_are_one, weekly_have_no_fault}
use Rattle.gtfs_tables.proofs.calendars.laws.one_calendar.Goals as goal

pub returns : goal.returns
returns c = record { weekly = weekly_are_one; fault = calendar_faults_are_one; never_both = weekly_have_no_fault }
