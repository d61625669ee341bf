use Rattle.std.proofs.Common.{◌≡◌, ◌-◌, ◌++◌, drop}
use Rattle.lc_model.specs.Connection.{connections_of_calls}
use Rattle.trip_calls.proofs.run_connections.push_connections.Given as goal

abbrev pub invariant-loop-i : goal.invariant-loop-i
invariant-loop-i l = l.connections.items ++ connections_of_calls l.key (drop (l.i - 1) l.calls) ≡ l.initial.connections.items ++ connections_of_calls l.key l.calls
