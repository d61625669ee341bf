use Rattle.std.proofs.Common.{◌≡◌, take}
use Rattle.std.specs.List.{All}
use Rattle.lc_model.specs.Call.{InSequence}
use Rattle.lc_model.specs.Connection.{connections_of}
use Rattle.lc_model.specs.declared.run.Run.{Run}
use Rattle.trip_calls.proofs.run_connections.all_connections.Given as goal

abbrev pub invariant-loop-run : goal.invariant-loop-run
invariant-loop-run l = record {
  are : l.connections.items ≡ connections_of (take l.run-index l.runs);
  in_sequence : All (λ (r : Run). InSequence r.calls) (take l.run-index l.runs);
}
