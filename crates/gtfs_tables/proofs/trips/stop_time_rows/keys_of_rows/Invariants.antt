use Rattle.std.proofs.Common.{◌≡◌, map, take}
use Rattle.gtfs_tables.specs.Trips.KeyPlaces.{lent_key}
use Rattle.gtfs_tables.specs.Trips.StopTimeRows.{key_of}
use Rattle.gtfs_tables.proofs.trips.stop_time_rows.keys_of_rows.Given as goal

abbrev pub invariant-rows : goal.invariant-rows
invariant-rows l = map lent_key l.keys.items ≡ map (key_of l.rows) (take l.place l.rows.rows)
