use Rattle.cli_replay.proofs.PlanLawsLemmas.RepliedLemmas.{plan_records_replies}
use Rattle.cli_replay.proofs.plan_laws.laws.plan_records_replies.Goals as goal

pub returns : goal.returns
returns g c = plan_records_replies g.L.Link.seen
