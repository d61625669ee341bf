use Rattle.std.proofs.lemmas.Result.{err_from_is_err_and}
use Rattle.gtfs_tables.proofs.FeedWalkLemmas.{of_stops_file, of_times_file, of_trips_file}
use Rattle.gtfs_tables.proofs.WalkLemmas.{begun, next, part_stop}
use Rattle.gtfs_tables.proofs.parts.feed_rides.Goals as goal

pub returns-in_err-stops : goal.returns-in_err-stops
returns-in_err-stops g c =
    let p = err_from_is_err_and c.from_residual.result c.from_residual.ensures.1 in
    part_stop of_stops_file begun c.in_err-stops.was c.feed_stops.ensures (let one = p.1 in let two = p.2 in cc)

pub returns-in_err-all_trips : goal.returns-in_err-all_trips
returns-in_err-all_trips g c =
    let after_1 = next of_stops_file begun c.in_ok-stops.was c.feed_stops.ensures in
    let p = err_from_is_err_and c.from_residual-in_err-all_trips.result c.from_residual-in_err-all_trips.ensures.1 in
    part_stop (of_trips_file _) after_1 c.in_err-all_trips.was c.feed_trips.ensures (let one = p.1 in let two = p.2 in cc)

pub returns-in_err-timed : goal.returns-in_err-timed
returns-in_err-timed g c =
    let after_1 = next of_stops_file begun c.in_ok-stops.was c.feed_stops.ensures in
    let after_2 = next (of_trips_file _) after_1 c.in_ok-all_trips.was c.feed_trips.ensures in
    let p = err_from_is_err_and c.from_residual-in_err-timed.result c.from_residual-in_err-timed.ensures.1 in
    part_stop (of_times_file _ _) after_2 c.in_err-timed.was c.feed_stop_times.ensures (let one = p.1 in let two = p.2 in cc)

pub returns : goal.returns
returns g c =
    let after_1 = next of_stops_file begun c.in_ok-stops.was c.feed_stops.ensures in
    let after_2 = next (of_trips_file _) after_1 c.in_ok-all_trips.was c.feed_trips.ensures in
    record { ends = next (of_times_file _ _) after_2 c.in_ok-timed.was c.feed_stop_times.ensures }
