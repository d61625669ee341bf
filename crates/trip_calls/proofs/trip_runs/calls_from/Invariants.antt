use Rattle.std.proofs.Common.{◌≡◌, take}
use Rattle.trip_calls.specs.Runs.{calls_from}
use Rattle.trip_calls.proofs.trip_runs.calls_from.Given as goal

abbrev pub invariant-rows : goal.invariant-rows
invariant-rows l = l.calls.items ≡ take l.place (calls_from l.origin l.first l.rows)
