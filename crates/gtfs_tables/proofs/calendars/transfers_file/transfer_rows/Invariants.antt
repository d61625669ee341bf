use Rattle.gtfs_tables.specs.Calendars.Transfers.{transfer_said, transfers_rule}
use Rattle.gtfs_tables.proofs.CalendarsLemmas.TransferFacts.{AreKept}
use Rattle.gtfs_tables.proofs.calendars.transfers_file.transfer_rows.Given as goal

abbrev pub invariant-rows : goal.invariant-rows
invariant-rows l = AreKept (transfers_rule l.stops l.rows) (transfer_said l.rows) l.rows.rows l.place l.list.items
