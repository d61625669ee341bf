use Rattle.std.proofs.Common.{◌-◌, ◌+◌, ◌≤◌, ◌++◌, length, ap, sym, ◌∙◌, arith}
use Rattle.std.proofs.lemmas.List.{append-nil}
use Rattle.live_calls.proofs.ConnectionLemmas.{no_more}
use Rattle.live_calls.proofs.run_connections.connections_of_calls.Goals as goal

pub returns : goal.returns
returns c =
    let at_end : length c.args.calls.now ≤ c.loop-i.i - 1 + 1 = omega arith in
    sym (append-nil _) ∙ ap (λ v. c.loop-i.connections.items ++ v) (sym (no_more c.args.key.now c.args.calls.now (c.loop-i.i - 1) at_end)) ∙ c.loop-i.invariant
