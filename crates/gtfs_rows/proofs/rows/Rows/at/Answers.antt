use Rattle.std.proofs.Common.{◌+◌}
use Rattle.gtfs_rows.proofs.rows.Rows.at.Goals as goal

pub returns-clause-text : goal.returns-clause-text
returns-clause-text c = rw c.field.ensures (c.self.invariant.texts (c.args.place + 1) c.args.column)
