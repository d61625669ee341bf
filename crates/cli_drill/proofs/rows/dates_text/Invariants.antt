use Rattle.std.specs.Prelude.{◌≡◌, ◌++◌, codes}
use Rattle.cli_drill.specs.Rows.{date_row, rows_of}
use Rattle.cli_drill.proofs.rows.dates_text.Given as goal

abbrev pub invariant-days : goal.invariant-days
invariant-days l = l.text.items ≡ codes "service_id,date,exception_type\n" ++ rows_of date_row l.day
