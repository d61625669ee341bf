use Rattle.std.proofs.Common.{◌++◌, ◌∙◌, ℕ, List, ap, codes}
use Rattle.cli_drill.specs.Rows.{date_row}
use Rattle.cli_drill.proofs.RowsLemmas.{first_rows, more_rows}
use Rattle.cli_drill.proofs.rows.dates_text.Goals as goal

pub days-init : goal.days-init
days-init c =
    let header : List ℕ = codes "service_id,date,exception_type\n" in
    first_rows date_row header _ (c.in_ok-extend_from_slice.ensures.items ∙ ap (λ (text : List ℕ). text ++ header) c.in_ok-text.ensures.items)

pub days-preserved : goal.days-preserved
days-preserved c = more_rows date_row (codes "service_id,date,exception_type\n") c.days.text.items c.push_date.new.text.items c.days.day c.days.invariant c.in_ok-push_date.ensures
