use Rattle.std.proofs.Common.{arith}
use Rattle.cli_replay.proofs.SummaryLemmas.{more_exchanges}
use Rattle.cli_replay.proofs.summary.total_exchanges.Goals as goal

pub ends-preserved : goal.ends-preserved
ends-preserved c =
    let more = more_exchanges c.args.ends.now c.ends.end-index c.end-item.result c.ends-test.true c.end-item.is in
    let so_far = c.ends.invariant in
    let added = c.in_ok-total.ensures in
    omega (arith, more, so_far, added)
