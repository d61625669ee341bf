-- The ends of the changes are stops.
use Rattle.std.proofs.Math.Logic.{∥∥₁_map}
use Rattle.timetable.proofs.MadeLemmas.{changes_named}
use Rattle.timetable.proofs.made.changes_of.Goals as goal

pub returns-in-Ok-clause-known : goal.returns-in-Ok-clause-known
returns-in-Ok-clause-known c =
    let tables = c.args.tables.now in
    ∥∥₁_map tables.parents_known (λ parents. changes_named tables.stops tables.transfers c.args.scope.now.change c.in-Ok.changes parents c.in-Ok.ensures.are)
