use Rattle.std.specs.Prelude.{◌≡◌, ◌++◌, codes}
use Rattle.cli_drill.specs.Rows.{rows_of, trip_row}
use Rattle.cli_drill.proofs.rows.trips_text.Given as goal

abbrev pub invariant-trips : goal.invariant-trips
invariant-trips l = l.text.items ≡ codes "route_id,service_id,trip_id\n" ++ rows_of trip_row l.trip
