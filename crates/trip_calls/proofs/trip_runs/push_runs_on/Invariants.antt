use Rattle.std.proofs.Common.{◌≡◌, ◌++◌, map, take}
use Rattle.trip_calls.specs.TripRuns.{run_from}
use Rattle.trip_calls.proofs.trip_runs.push_runs_on.Given as goal

abbrev pub invariant-starts : goal.invariant-starts
invariant-starts l = l.runs.items ≡ l.initial.runs.items ++ map (run_from l.rows l.trip l.day.date l.anchor) (take l.start-index l.starts)
