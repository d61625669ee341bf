-- The connections of the runs that were passed are counted.
use Rattle.std.proofs.Common.{◌≡◌, length, take}
use Rattle.lc_model.specs.Connection.{connections_of}
use Rattle.timetable.proofs.made.count_connections.Given as goal

abbrev pub invariant-loop-run : goal.invariant-loop-run
invariant-loop-run l = l.count ≡ length (connections_of (take l.run-index l.runs))
