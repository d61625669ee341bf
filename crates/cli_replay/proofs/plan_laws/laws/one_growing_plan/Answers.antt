use Rattle.cli_replay.proofs.PlanLawsLemmas.OneGrowingLemmas.{one_growing_plan}
use Rattle.cli_replay.proofs.plan_laws.laws.one_growing_plan.Goals as goal

pub returns : goal.returns
returns g c =
    one_growing_plan g.L.Link.seen g.M.Link.seen c.one_answer.ensures.arrival c.one_answer.ensures.needed c.versions_stay.ensures.answers c.versions_stay.ensures.needed
