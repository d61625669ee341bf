-- What is left of the visits has the same first early row as all of them.
use Rattle.std.proofs.Common.{◌≡◌, drop}
use Rattle.gtfs_tables.specs.Trips.Timing.{early_row}
use Rattle.gtfs_tables.proofs.trips.timing.early_row.Given as goal

abbrev pub invariant-visits : goal.invariant-visits
invariant-visits l = early_row 0 l.visits ≡ early_row l.before (drop l.visit-index l.visits)
