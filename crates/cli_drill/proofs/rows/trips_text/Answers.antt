use Rattle.std.proofs.Common.{◌++◌, ◌∙◌, ℕ, List, ap, codes}
use Rattle.cli_drill.specs.Rows.{trip_row}
use Rattle.cli_drill.proofs.RowsLemmas.{first_rows, more_rows}
use Rattle.cli_drill.proofs.rows.trips_text.Goals as goal

pub trips-init : goal.trips-init
trips-init c =
    let header : List ℕ = codes "route_id,service_id,trip_id\n" in
    first_rows trip_row header _ (c.in_ok-extend_from_slice.ensures.items ∙ ap (λ (text : List ℕ). text ++ header) c.in_ok-text.ensures.items)

pub trips-preserved : goal.trips-preserved
trips-preserved c = more_rows trip_row (codes "route_id,service_id,trip_id\n") c.trips.text.items c.push_trip.new.text.items c.trips.trip c.trips.invariant c.in_ok-push_trip.ensures
