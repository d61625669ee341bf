use Rattle.std.proofs.Common.{◌-◌, ◌+◌, ◌≤◌, ◌++◌, length, ap, sym, ◌∙◌, arith}
use Rattle.std.proofs.lemmas.List.{append-nil}
use Rattle.lc_model.specs.Connection.{connections_of_calls}
use Rattle.trip_calls.proofs.ConnectionLemmas.{no_more, one_behind}
use Rattle.trip_calls.proofs.run_connections.push_connections.Goals as goal

pub returns : goal.returns
returns c =
    let at_end : length c.args.calls.now ≤ c.loop-i.i - 1 + 1 = omega arith in
    sym (append-nil _) ∙ ap (λ v. c.loop-i.connections.items ++ v) (sym (no_more c.args.key.now c.args.calls.now (c.loop-i.i - 1) at_end)) ∙ c.loop-i.invariant

pub loop-i-preserved : goal.loop-i-preserved
loop-i-preserved c =
    let key = c.args.key.now in
    one_behind key c.args.calls.now c.loop-i.i c.index-calls-i.result c.index-calls-i-in-loop-i.result c.loop-i.connections.items c.push.new.self.items (c.args.connections.now.items ++ connections_of_calls key c.args.calls.now)
    c.in_ok-between.field-0 c.loop-i.auto.i c.loop-i-test.true c.index-calls-i.is c.index-calls-i-in-loop-i.is c.in_ok-push.ensures.items c.in_ok-between.ensures c.loop-i.invariant
