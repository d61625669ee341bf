-- The changes to the places so far are added.
use Rattle.std.proofs.Common.{◌≡◌, ◌≤◌, ◌++◌, take, vec_len}
use Rattle.change_table.specs.Pairs.{changes_to}
use Rattle.change_table.specs.Partners.{stops_at}
use Rattle.change_table.specs.Rows.{seconds_by}
use Rattle.change_table.specs.declared.fault.TheConstants.{MOST_CHANGES}
use Rattle.change_table.proofs.table.push_changes.Given as goal

abbrev pub invariant-places : goal.invariant-places
invariant-places l = record {
  added : l.changes.items ≡ l.initial.changes.items ++ changes_to (seconds_by l.origin.own.now l.origin.of_parent.now l.default l.origin.stop.now) l.origin.stop.now (stops_at l.stops l.origin.stop.now (take l.place-index l.places));
  room : vec_len l.initial.changes ≤ MOST_CHANGES → vec_len l.changes ≤ MOST_CHANGES;
}
