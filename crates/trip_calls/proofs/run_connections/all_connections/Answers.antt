use Rattle.trip_calls.proofs.ConnectionLemmas.{connections_more, in_sequence_more}
use Rattle.trip_calls.proofs.run_connections.all_connections.Goals as goal

pub loop-run-preserved : goal.loop-run-preserved
loop-run-preserved c =
    let now = c.loop-run.invariant in
    let item = c.run-item in
    let calls = c.as_slice-calls in
    record {
      are = connections_more c.args.runs.now c.loop-run.run-index item.result calls.result.now _ _ c.loop-run-test.true item.is calls.ensures.value now.are c.in_ok-push_connections.ensures;
      in_sequence = in_sequence_more c.args.runs.now c.loop-run.run-index item.result calls.result.now c.loop-run-test.true item.is calls.ensures.value calls.ensures.in_order now.in_sequence;
    }
