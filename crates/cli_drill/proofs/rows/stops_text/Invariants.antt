use Rattle.std.specs.Prelude.{◌≡◌, ◌++◌, codes}
use Rattle.cli_drill.specs.Rows.{rows_of, stop_row}
use Rattle.cli_drill.proofs.rows.stops_text.Given as goal

abbrev pub invariant-stops : goal.invariant-stops
invariant-stops l = l.text.items ≡ codes "stop_id,stop_name\n" ++ rows_of stop_row l.stop
