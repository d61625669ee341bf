use Rattle.gtfs_tables.proofs.TripsLemmas.StopLaws.{stops_are_one, stops_faults_are_one, stops_have_no_fault}
use Rattle.gtfs_tables.proofs.trips.laws.one_stops.Goals as goal

pub returns : goal.returns
returns c = record { stops = stops_are_one; fault = stops_faults_are_one; never_both = stops_have_no_fault }
