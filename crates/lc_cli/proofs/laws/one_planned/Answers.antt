use Rattle.lc_cli.proofs.OnePlanLemmas.{one_named_plan, one_quiet_plan}
use Rattle.lc_cli.proofs.laws.one_planned.Goals as goal

pub returns-clause-quiet : goal.returns-clause-quiet
returns-clause-quiet g c = one_quiet_plan c.one_command.ensures c.one_script.ensures.script g.L.Link.seen g.M.Link.seen c.one_plan.ensures

pub returns-clause-named : goal.returns-clause-named
returns-clause-named g c = one_named_plan c.one_command.ensures c.one_script.ensures.script g.L.Link.seen g.M.Link.seen c.one_growing_plan.ensures
