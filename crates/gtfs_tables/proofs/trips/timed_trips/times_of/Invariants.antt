use Rattle.std.proofs.Common.{◌≡◌}
use Rattle.std.specs.List.{filter_map}
use Rattle.gtfs_tables.specs.Trips.LeftOut.{time_unless}
use Rattle.gtfs_tables.proofs.trips.timed_trips.times_of.Given as goal

abbrev pub invariant-visits : goal.invariant-visits
invariant-visits l = l.times.items ≡ filter_map (time_unless l.left) l.yielded
