use Rattle.gtfs_tables.proofs.TripsLemmas.TripPlaceLemmas.{stand}
use Rattle.gtfs_tables.proofs.trips.trip_places.places_of_trip.Goals as goal

pub returns-clause-are : goal.returns-clause-are
returns-clause-are c = stand c.args.visits.now c.args.trip.now c.requires _ _ c.first_of-first.ensures c.end_of-end.ensures
