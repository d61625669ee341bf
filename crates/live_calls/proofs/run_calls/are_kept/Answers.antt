use Rattle.live_calls.proofs.OnTimeLemmas.{kept_more}
use Rattle.live_calls.proofs.run_calls.are_kept.Goals as goal

pub calls-preserved : goal.calls-preserved
calls-preserved c = λ rest.
    c.calls.invariant (kept_more c.args.calls.now c.calls.call-index c.calls.before c.call-item.result c.calls-test.true c.call-item.is (c.is_kept.ensures c.if-not-is_kept.false) rest)
