use Rattle.std.proofs.Common.{◌≡◌, map, take}
use Rattle.gtfs_tables.specs.Trips.Trips.{trip_of}
use Rattle.gtfs_tables.proofs.trips.trips.listed_trips.Given as goal

abbrev pub invariant-rows : goal.invariant-rows
invariant-rows l = l.trips.items ≡ map (trip_of l.rows) (take l.place l.rows.rows)
