use Rattle.std.proofs.Common.{[], List, subst, sym, take, ◌+◌}
use Rattle.std.proofs.lemmas.List.{take_all}
use Rattle.gtfs_tables.specs.declared.fields.trip_rows.TripRow.{TripRow}
use Rattle.lc_model.specs.declared.run.Run.{Run}
use Rattle.trip_calls.specs.TripRuns.{AreAllRuns}
use Rattle.trip_calls.proofs.RunLemmas.{of_more, of_none}
use Rattle.trip_calls.proofs.all_runs.listed_runs.Goals as goal

pub trips-init : goal.trips-init
trips-init c =
    subst (λ (l : List Run). AreAllRuns [] c.args.times.now c.args.spans.now c.args.days.now c.args.zone.now l) (sym c.new-runs.ensures.items) (of_none [] c.args.times.now c.args.spans.now c.args.days.now c.args.zone.now)

pub trips-preserved : goal.trips-preserved
trips-preserved c =
    let adds = c.in_ok-push_trip.ensures in
    let times = c.args.times.now in
    let zone = c.args.zone.now in
    subst (λ (l : List Run). AreAllRuns (take (c.trips.trip-index + 1) c.args.trips.now) times c.args.spans.now c.args.days.now zone l) (sym adds.added)
    (of_more c.args.trips.now c.trips.trip-index c.trip-item.result times c.args.spans.now c.args.days.now zone c.trips.runs.items adds.runs c.requires.one_row_a_trip c.trips-test.true c.trip-item.is c.trips.invariant adds.are)

pub returns : goal.returns
returns c =
    subst (λ (l : List TripRow). AreAllRuns l c.args.times.now c.args.spans.now c.args.days.now c.args.zone.now c.trips.runs.items) (take_all c.trips.trip-index c.args.trips.now c.trips-test.false) c.trips.invariant
