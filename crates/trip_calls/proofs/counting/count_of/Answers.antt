use Rattle.std.proofs.Common.{◌++◌, [], List, refl, subst}
use Rattle.std.proofs.lemmas.List.{take_all}
use Rattle.gtfs_tables.specs.declared.fields.trip_rows.TripRow.{TripRow}
use Rattle.trip_calls.specs.Counting.{HaveConnections}
use Rattle.trip_calls.proofs.RunLemmas.{of_more, of_none}
use Rattle.trip_calls.proofs.TotalLemmas.{connections_more}
use Rattle.trip_calls.proofs.counting.count_of.Goals as goal

pub trips-init : goal.trips-init
trips-init c = λ zone. record { runs = []; are = of_none [] c.args.times.now c.args.spans.now c.args.days.now zone; counted = refl }

pub trips-preserved : goal.trips-preserved
trips-preserved c = λ zone.
    let so_far = c.trips.invariant zone in
    let more = c.in_ok-more.ensures zone in
    record {
      runs = so_far.runs ++ more.runs;
      are = of_more c.args.trips.now c.trips.trip-index c.trip-item.result c.args.times.now c.args.spans.now c.args.days.now zone so_far.runs more.runs c.requires.one_row_a_trip c.trips-test.true c.trip-item.is so_far.are more.are;
      counted = connections_more so_far.runs more.runs c.trips.connections c.in_ok-more.more.connections c.in_ok-connections.connections so_far.counted more.counted c.in_ok-connections.ensures;
    }

pub returns : goal.returns
returns c = λ zone.
    subst (λ (l : List TripRow). HaveConnections l c.args.times.now c.args.spans.now c.args.days.now zone c.trips.connections) (take_all c.trips.trip-index c.args.trips.now c.trips-test.false) (c.trips.invariant zone)
