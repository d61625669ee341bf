use Rattle.std.proofs.Common.{◌≡◌, map, take}
use Rattle.gtfs_tables.specs.Trips.Stops.{stop_of}
use Rattle.gtfs_tables.proofs.trips.stops.listed_stops.Given as goal

abbrev pub invariant-rows : goal.invariant-rows
invariant-rows l = l.stops.items ≡ map (stop_of l.rows) (take l.place l.rows.rows)
