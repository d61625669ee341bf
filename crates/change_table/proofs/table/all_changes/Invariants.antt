-- The changes from the stops so far are made.
use Rattle.std.proofs.Common.{◌≡◌, ◌≤◌, take, vec_len}
use Rattle.change_table.specs.ChangeRule.{given_seconds}
use Rattle.change_table.specs.Pairs.{changes_among}
use Rattle.change_table.specs.declared.fault.TheConstants.{MOST_CHANGES}
use Rattle.change_table.proofs.table.all_changes.Given as goal

abbrev pub invariant-stops : goal.invariant-stops
invariant-stops l = record {
  all : l.changes.items ≡ changes_among (given_seconds l.fn.transfers l.default) (take l.stop-index l.stops) l.stops;
  room : vec_len l.changes ≤ MOST_CHANGES;
}
