use Rattle.gtfs_tables.proofs.TripsLemmas.TimedFacts.{faults_whole, row_fault_whole, says_lent, times_whole}
use Rattle.gtfs_tables.proofs.TripsLemmas.TimelyLemmas.{of_trips}
use Rattle.gtfs_tables.proofs.trips.timed_trips.read_stop_times.Goals as goal

pub timed-requires : goal.timed-requires
timed-requires c = record {
  in_order = c.in-Ok.ensures.visits.are.in_order;
  of_trips = of_trips c.args.stops.now c.args.trips c.args.bytes.now c.in-Ok.visits.items
      (says_lent c.as_slice.result.now c.args.stops.now c.as_slice-2.result.now c.args.trips c.args.bytes.now c.in-Ok.visits.items c.as_slice.ensures.value c.as_slice-2.ensures.value c.in-Ok.ensures.visits);
}

pub returns-in-Ok-clause-times : goal.returns-in-Ok-clause-times
returns-in-Ok-clause-times c =
    times_whole c.args.stops.now c.args.trips c.args.bytes.now c.in-Ok.visits.items c.timed.result
    (says_lent c.as_slice.result.now c.args.stops.now c.as_slice-2.result.now c.args.trips c.args.bytes.now c.in-Ok.visits.items c.as_slice.ensures.value c.as_slice-2.ensures.value c.in-Ok.ensures.visits)
    c.timed.ensures.times

pub returns-in-Ok-clause-fault : goal.returns-in-Ok-clause-fault
returns-in-Ok-clause-fault c =
    faults_whole c.args.stops.now c.args.trips c.args.bytes.now c.in-Ok.visits.items c.timed.result
    (says_lent c.as_slice.result.now c.args.stops.now c.as_slice-2.result.now c.args.trips c.args.bytes.now c.in-Ok.visits.items c.as_slice.ensures.value c.as_slice-2.ensures.value c.in-Ok.ensures.visits)
    c.timed.ensures.fault

pub returns-in-Err-clause-fault : goal.returns-in-Err-clause-fault
returns-in-Err-clause-fault c =
    row_fault_whole c.as_slice.result.now c.args.stops.now c.as_slice-2.result.now c.args.trips c.args.bytes.now c.in-Err.fault c.as_slice.ensures.value c.as_slice-2.ensures.value c.in-Err.ensures.fault
