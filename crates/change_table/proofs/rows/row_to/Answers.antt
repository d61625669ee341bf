-- The first of the rows to the stop.
use Rattle.std.proofs.Common.{Some, None}
use Rattle.change_table.proofs.RowLemmas.{first_to}
use Rattle.change_table.proofs.rows.row_to.Goals as goal

pub returns-in-Some : goal.returns-in-Some
returns-in-Some c = first_to c.args.rows.now c.rows_to.result.now c.args.to.now (Some c.in-Some.row.now) c.rows_to.ensures c.in-Some.ensures.value

pub returns-in-None : goal.returns-in-None
returns-in-None c = first_to c.args.rows.now c.rows_to.result.now c.args.to.now None c.rows_to.ensures c.in-None.ensures.value
