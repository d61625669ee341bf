use Rattle.cli_replay.proofs.PlanningLemmas.RelayedLemmas.{plans_right}
use Rattle.cli_replay.proofs.planning.laws.relays_plan_right.Goals as goal

pub returns : goal.returns
returns g c = plans_right g.L.Link.seen c.new_relays_are_honest.ensures.honest
