use Rattle.std.proofs.Common.{subst}
use Rattle.std.proofs.lemmas.Result.{IfOk-weaker}
use Rattle.cli_replay.specs.Planning.RelayedBy.{IsLeftBelow, IsRelayedBy}
use Rattle.cli_replay.proofs.PlanningLemmas.RelayedLemmas.{is_left, is_relayed}
use Rattle.lc_world.proofs.GoneOnLemmas.{no_gets}
use Rattle.page_relay.specs.Relay.{RelayState}
use Rattle.cli_replay.proofs.planning.relaying.relay.Goals as goal

pub returns-in-Ok-new-clause-relayed : goal.returns-in-Ok-new-clause-relayed
returns-in-Ok-new-clause-relayed g c =
    let link = c.plan_over.result.1 in
    IfOk-weaker c.plan_over.result.0 _ _ (λ planned by.
    is_relayed g.L.Link.seen c.counts_are_since.ensures.since c.args.base c.in-Ok.own c.args.events.items c.args.cache c.args.entries c.args.link link planned.text.items planned.ends.items c.in-Ok.ensures
    (subst (λ (r : RelayState _). IsRelayedBy g.L.Link.seen c.args.base c.args.events.items c.args.cache r link planned.text.items planned.ends.items) c.in-Ok-new.ensures.new by)) c.plan_over.ensures.relayed

pub returns-in-Ok-new-clause-left : goal.returns-in-Ok-new-clause-left
returns-in-Ok-new-clause-left g c =
    let link = c.plan_over.result.1 in
    is_left g.L.Link.seen c.relays_leave_below.ensures c.in-Ok.own c.args.entries c.args.link link
    (subst (λ (r : RelayState _). IsLeftBelow g.L.Link.seen r link) c.in-Ok-new.ensures.new c.plan_over.ensures.left)

pub returns-in-Err-new-clause-left : goal.returns-in-Err-new-clause-left
returns-in-Err-new-clause-left g c = rw c.in-Err-new.ensures.back (no_gets _)

pub returns-in-Err-clause-left : goal.returns-in-Err-clause-left
returns-in-Err-clause-left g c = no_gets _
