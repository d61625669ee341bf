-- No row before this one breaks a rule.
use Rattle.gtfs_tables.specs.Fields.Rules.{IsUnbroken}
use Rattle.gtfs_tables.specs.Trips.Stops.{stop_rule_at}
use Rattle.gtfs_tables.proofs.trips.stops.check_rows.Given as goal

abbrev pub invariant-rows : goal.invariant-rows
invariant-rows l = IsUnbroken (stop_rule_at l.rows) l.place
