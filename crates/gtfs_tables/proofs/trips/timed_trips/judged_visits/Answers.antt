use Rattle.gtfs_tables.proofs.TripsLemmas.VisitFacts.{is_named, timed_row, visits_strict}
use Rattle.gtfs_tables.proofs.trips.timed_trips.judged_visits.Goals as goal

pub sorted_visits-requires-clause-named : goal.sorted_visits-requires-clause-named
sorted_visits-requires-clause-named c = λ place inside.
    is_named c.args.rows.now place (timed_row c.args.stops.now c.args.trips.now c.args.rows.now place (c.in_ok-check_rows.ensures.sound place inside))

pub returns-clause-visits : goal.returns-clause-visits
returns-clause-visits c =
    let sheet = c.args.rows.now in
    record {
      unbroken = c.in_ok-check_rows.ensures.sound;
      are = record {
        are = c.in_ok-visits.ensures.moved;
        in_order = visits_strict sheet (λ place inside. timed_row c.args.stops.now c.args.trips.now sheet place (c.in_ok-check_rows.ensures.sound place inside)) c.in_ok-visits.visits.items c.in_ok-visits.ensures.moved c.in_ok-visits.ensures.sorted;
      };
    }
