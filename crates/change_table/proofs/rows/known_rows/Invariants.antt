-- The rows so far are those of known kinds among the rows of the file so far.
use Rattle.std.proofs.Common.{◌≡◌, take}
use Rattle.std.specs.Prelude.{filter}
use Rattle.change_table.specs.ChangeRule.{has_known_kind}
use Rattle.change_table.specs.Rows.{recorded}
use Rattle.change_table.proofs.rows.known_rows.Given as goal

abbrev pub invariant-transfers : goal.invariant-transfers
invariant-transfers l = recorded l.rows.items ≡ filter has_known_kind (take l.transfer-index l.transfers)
