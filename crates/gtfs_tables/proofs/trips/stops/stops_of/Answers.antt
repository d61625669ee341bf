use Rattle.std.proofs.Common.{◌≢◌, List, map, subst, sym}
use Rattle.std.specs.List.{AllPairs}
use Rattle.std.specs.List.Sorted.{IsPermutation}
use Rattle.lc_model.specs.declared.stop.Stop.{Stop}
use Rattle.gtfs_tables.specs.Trips.Stops.{stop_of}
use Rattle.gtfs_tables.proofs.TripsLemmas.StopFacts.{parents_known, parents_moved, stops_differ}
use Rattle.gtfs_tables.proofs.trips.stops.stops_of.Goals as goal

pub sorted_stops-requires : goal.sorted_stops-requires
sorted_stops-requires c =
    let Differ : List Stop → Type 0 = λ stops. AllPairs (λ (x y : Stop). x.id ≢ y.id) stops in
    subst Differ (sym c.in_ok-stops.ensures) (stops_differ c.args.rows.now c.in_ok-check_rows.ensures.sound)

pub returns-clause-parents : goal.returns-clause-parents
returns-clause-parents c =
    let sheet = c.args.rows.now in
    let moved : IsPermutation (map (stop_of sheet) sheet.rows) c.in_ok-sorted_stops.field-0 =
    subst (λ (stops : List Stop). IsPermutation stops c.in_ok-sorted_stops.field-0) c.in_ok-stops.ensures c.in_ok-sorted_stops.ensures in
    parents_moved (map (stop_of sheet) sheet.rows) c.in_ok-sorted_stops.field-0 moved (parents_known sheet c.in_ok-check_rows.ensures.sound)
