-- No row before this one breaks a rule.
use Rattle.gtfs_tables.specs.Fields.Rules.{IsUnbroken}
use Rattle.gtfs_tables.specs.Trips.Trips.{trip_rule_at}
use Rattle.gtfs_tables.proofs.trips.trips.check_rows.Given as goal

abbrev pub invariant-rows : goal.invariant-rows
invariant-rows l = IsUnbroken (trip_rule_at l.rows) l.place
