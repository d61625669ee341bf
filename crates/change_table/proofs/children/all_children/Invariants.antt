-- The children so far, and those of the stops that are left, are those of all stops.
use Rattle.std.proofs.Common.{◌≡◌, ◌++◌, drop}
use Rattle.change_table.specs.Partners.{all_shown, shown}
use Rattle.change_table.proofs.children.all_children.Given as goal

abbrev pub invariant-loop-place : goal.invariant-loop-place
invariant-loop-place l = shown l.children.items ++ all_shown l.place (drop l.place l.stops) ≡ all_shown 0 l.stops
