use Rattle.std.specs.Prelude.{◌≡◌, ◌++◌, codes}
use Rattle.cli_drill.specs.Rows.{rows_of, time_rows}
use Rattle.cli_drill.proofs.rows.times_text.Given as goal

abbrev pub invariant-trips : goal.invariant-trips
invariant-trips l = l.text.items ≡ codes "trip_id,arrival_time,departure_time,stop_id,stop_sequence\n" ++ rows_of (time_rows l.fn.side) l.trip
