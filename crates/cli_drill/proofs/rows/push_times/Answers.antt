use Rattle.std.proofs.Common.{arith, refl}
use Rattle.cli_drill.specs.Rows.{time_row}
use Rattle.cli_drill.proofs.RowsLemmas.{all_rows, first_rows, more_rows}
use Rattle.cli_drill.proofs.rows.push_times.Goals as goal

pub places-init : goal.places-init
places-init c = first_rows (time_row c.args.side c.args.trip) c.args.text.now.items c.args.text.now.items refl

pub places-preserved : goal.places-preserved
places-preserved c =
    more_rows (time_row c.args.side c.args.trip) c.args.text.now.items c.places.text.items c.push_time.new.text.items c.places.place c.places.invariant c.in_ok-push_time.ensures

pub returns : goal.returns
returns c = all_rows (time_row c.args.side c.args.trip) c.args.text.now.items c.places.text.items c.places.place c.args.side c.places.invariant (omega arith)
