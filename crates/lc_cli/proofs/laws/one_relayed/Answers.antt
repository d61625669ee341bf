use Rattle.lc_cli.proofs.OneRelayLemmas.{one_named_relay, one_quiet_relay}
use Rattle.lc_cli.proofs.laws.one_relayed.Goals as goal

pub returns-clause-quiet : goal.returns-clause-quiet
returns-clause-quiet g c =
    one_quiet_relay c.one_command.ensures c.one_script.ensures.script g.L.Link.seen g.M.Link.seen c.relays_plan_right.ensures c.relays_plan_right-2.ensures c.one_plan.ensures

pub returns-clause-named : goal.returns-clause-named
returns-clause-named g c =
    one_named_relay c.one_command.ensures c.one_script.ensures.script g.L.Link.seen g.M.Link.seen c.relays_plan_right.ensures c.relays_plan_right-2.ensures c.one_growing_plan.ensures
