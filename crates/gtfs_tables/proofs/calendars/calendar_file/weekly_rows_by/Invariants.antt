use Rattle.gtfs_tables.proofs.FieldsLemmas.SaidFacts.{AreRead}
use Rattle.gtfs_tables.specs.Calendars.Calendar.{calendar_rule, weekly_said}
use Rattle.gtfs_tables.proofs.calendars.calendar_file.weekly_rows_by.Given as goal

abbrev pub invariant-rows : goal.invariant-rows
invariant-rows l = AreRead (calendar_rule l.rows) (weekly_said l.rows) l.rows.rows l.place l.list.items
