use Rattle.gtfs_tables.proofs.TripsLemmas.KeyFacts.{places_of_keys}
use Rattle.gtfs_tables.proofs.trips.stop_time_rows.key_places.Goals as goal

pub returns : goal.returns
returns c = places_of_keys c.args.keys.now c.first_places.result c.first_places.ensures
