use Rattle.std.proofs.Common.{◌++◌, ◌∙◌, ℕ, List, ap, codes}
use Rattle.cli_drill.specs.Rows.{stop_row}
use Rattle.cli_drill.proofs.RowsLemmas.{first_rows, more_rows}
use Rattle.cli_drill.proofs.rows.stops_text.Goals as goal

pub stops-init : goal.stops-init
stops-init c =
    let header : List ℕ = codes "stop_id,stop_name\n" in
    first_rows stop_row header _ (c.in_ok-extend_from_slice.ensures.items ∙ ap (λ (text : List ℕ). text ++ header) c.in_ok-text.ensures.items)

pub stops-preserved : goal.stops-preserved
stops-preserved c = more_rows stop_row (codes "stop_id,stop_name\n") c.stops.text.items c.push_stop.new.text.items c.stops.stop c.stops.invariant c.in_ok-push_stop.ensures
