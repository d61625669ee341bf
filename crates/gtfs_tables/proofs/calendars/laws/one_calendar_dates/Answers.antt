use Rattle.gtfs_tables.proofs.CalendarsLemmas.ReadLaws.{calendar_dates_faults_are_one, dates_are_one, dates_have_no_fault}
use Rattle.gtfs_tables.proofs.calendars.laws.one_calendar_dates.Goals as goal

pub returns : goal.returns
returns c = record { dates = dates_are_one; fault = calendar_dates_faults_are_one; never_both = dates_have_no_fault }
