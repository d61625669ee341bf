use Rattle.std.proofs.Common.{◌<◌, ◌≤◌, arith}
use Rattle.trip_calls.proofs.StartLemmas.{growing_all, growing_more, growing_none}
use Rattle.trip_calls.proofs.starts.push_starts.Goals as goal

pub starts-init : goal.starts-init
starts-init c = growing_none c.args.span.now c.args.starts.now.items c.from-start.result c.from-start.ensures

pub starts-preserved : goal.starts-preserved
starts-preserved c =
    let before : c.starts.start < c.args.span.now.to = omega (arith, c.starts-test.true, c.from-end.ensures) in
    growing_more c.args.span.now c.args.starts.now.items c.starts.starts.items c.push.new.self.items c.starts.start c.from-start-in-starts.result c.starts.invariant c.in_ok-push.ensures.items before c.from-start-in-starts.ensures

pub returns : goal.returns
returns c =
    let past : c.args.span.now.to ≤ c.starts.start = omega (arith, c.starts-test.false, c.from-end.ensures) in
    growing_all c.args.span.now c.args.starts.now.items c.starts.starts.items c.starts.start c.starts.invariant past
