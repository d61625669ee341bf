use Rattle.std.proofs.Common.{◌≡◌, ◌++◌, take}
use Rattle.trip_calls.specs.TripRuns.{runs_of_trip}
use Rattle.trip_calls.proofs.trip_runs.push_runs.Given as goal

abbrev pub invariant-dates : goal.invariant-dates
invariant-dates l = l.runs.items ≡ l.initial.runs.items ++ runs_of_trip l.zone l.rows l.trip l.starts (take l.day-index l.dates)
