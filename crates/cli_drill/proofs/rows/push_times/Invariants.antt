use Rattle.std.specs.Prelude.{◌≡◌, ◌++◌}
use Rattle.cli_drill.specs.Rows.{rows_of, time_row}
use Rattle.cli_drill.proofs.rows.push_times.Given as goal

abbrev pub invariant-places : goal.invariant-places
invariant-places l = l.text.items ≡ l.initial.text.items ++ rows_of (time_row l.fn.side l.fn.trip) l.place
