use Rattle.gtfs_tables.proofs.FieldsLemmas.SaidFacts.{AreRead}
use Rattle.gtfs_tables.specs.Calendars.Frequencies.{frequencies_rule, frequency_said}
use Rattle.gtfs_tables.proofs.calendars.frequencies_file.frequency_rows.Given as goal

abbrev pub invariant-rows : goal.invariant-rows
invariant-rows l = AreRead (frequencies_rule l.trips l.rows) (frequency_said l.rows) l.rows.rows l.place l.list.items
