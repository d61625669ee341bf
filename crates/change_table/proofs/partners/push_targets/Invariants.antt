-- What the rows so far name is gained.
use Rattle.std.proofs.Common.{map, take}
use Rattle.change_table.specs.Partners.{Gains}
use Rattle.change_table.specs.Rows.{target}
use Rattle.change_table.proofs.partners.push_targets.Given as goal

abbrev pub invariant-loop-row : goal.invariant-loop-row
invariant-loop-row l = Gains l.stops (map target (take l.row-index l.rows)) l.initial.places.items l.places.items
