use Rattle.std.proofs.Common.{◌≡◌, ◌-◌, ◌++◌, drop}
use Rattle.lc_model.specs.Connection.{connections_of_calls}
use Rattle.live_calls.proofs.run_connections.connections_of_calls.Given as goal

abbrev pub invariant-loop-i : goal.invariant-loop-i
invariant-loop-i l = l.connections.items ++ connections_of_calls l.key (drop (l.i - 1) l.calls) ≡ connections_of_calls l.key l.calls
