-- No row before this one breaks a rule.
use Rattle.gtfs_tables.specs.Fields.Rules.{IsUnbroken}
use Rattle.gtfs_tables.specs.Trips.StopTimeRows.{stop_time_rule_at}
use Rattle.gtfs_tables.proofs.trips.stop_time_rows.check_rows.Given as goal

abbrev pub invariant-rows : goal.invariant-rows
invariant-rows l = IsUnbroken (stop_time_rule_at l.stops l.trips l.rows) l.place
