use Rattle.gtfs_tables.proofs.TripsLemmas.StopTimeLaws.{stop_times_are_one, stop_times_faults_are_one, stop_times_have_no_fault}
use Rattle.gtfs_tables.proofs.trips.laws.one_stop_times.Goals as goal

pub returns : goal.returns
returns c = record { times = stop_times_are_one; fault = stop_times_faults_are_one; never_both = stop_times_have_no_fault }
