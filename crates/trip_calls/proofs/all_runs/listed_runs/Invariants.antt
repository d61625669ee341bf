use Rattle.std.proofs.Common.{take}
use Rattle.trip_calls.specs.TripRuns.{AreAllRuns}
use Rattle.trip_calls.proofs.all_runs.listed_runs.Given as goal

abbrev pub invariant-trips : goal.invariant-trips
invariant-trips l = AreAllRuns (take l.trip-index l.trips) l.times l.spans l.days l.zone l.runs.items
