use Rattle.gtfs_tables.proofs.TripsLemmas.TripLaws.{trips_are_one, trips_faults_are_one, trips_have_no_fault}
use Rattle.gtfs_tables.proofs.trips.laws.one_trips.Goals as goal

pub returns : goal.returns
returns c = record { trips = trips_are_one; fault = trips_faults_are_one; never_both = trips_have_no_fault }
