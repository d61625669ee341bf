use Rattle.cli_replay.proofs.PlanLawsLemmas.OnePlanLemmas.{one_plan}
use Rattle.cli_replay.proofs.plan_laws.laws.one_plan.Goals as goal

pub returns : goal.returns
returns g c = one_plan g.L.Link.seen g.M.Link.seen c.one_answer.ensures.arrival c.one_answer.ensures.needed
