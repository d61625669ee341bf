use Rattle.std.proofs.Common.{◌++◌, ◌∙◌, ℕ, List, ap, codes}
use Rattle.cli_drill.specs.Rows.{time_rows}
use Rattle.cli_drill.proofs.RowsLemmas.{first_rows, more_rows}
use Rattle.cli_drill.proofs.rows.times_text.Goals as goal

pub trips-init : goal.trips-init
trips-init c =
    let header : List ℕ = codes "trip_id,arrival_time,departure_time,stop_id,stop_sequence\n" in
    first_rows (time_rows c.args.side) header _ (c.in_ok-extend_from_slice.ensures.items ∙ ap (λ (text : List ℕ). text ++ header) c.in_ok-text.ensures.items)

pub trips-preserved : goal.trips-preserved
trips-preserved c = more_rows (time_rows c.args.side) (codes "trip_id,arrival_time,departure_time,stop_id,stop_sequence\n") c.trips.text.items c.push_times.new.text.items c.trips.trip c.trips.invariant c.in_ok-push_times.ensures
