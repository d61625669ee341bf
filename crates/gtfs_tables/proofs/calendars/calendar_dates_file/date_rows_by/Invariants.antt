use Rattle.gtfs_tables.proofs.FieldsLemmas.SaidFacts.{AreRead}
use Rattle.gtfs_tables.specs.Calendars.CalendarDates.{calendar_dates_rule, date_row_said}
use Rattle.gtfs_tables.proofs.calendars.calendar_dates_file.date_rows_by.Given as goal

abbrev pub invariant-rows : goal.invariant-rows
invariant-rows l = AreRead (calendar_dates_rule l.rows) (date_row_said l.rows) l.rows.rows l.place l.list.items
