-- No trip before this one has rows that break a rule together.
use Rattle.gtfs_tables.specs.Fields.Rules.{IsUnbroken}
use Rattle.gtfs_tables.specs.Trips.Timing.{trip_fault_at}
use Rattle.gtfs_tables.proofs.trips.timed_trips.check_trips.Given as goal

abbrev pub invariant-trips : goal.invariant-trips
invariant-trips l = IsUnbroken (trip_fault_at l.visits l.trips) l.place
