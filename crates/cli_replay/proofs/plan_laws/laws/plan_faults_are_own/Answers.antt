use Rattle.cli_replay.proofs.PlanLawsLemmas.FaultsLemmas.{plan_faults_are_own}
use Rattle.cli_replay.proofs.plan_laws.laws.plan_faults_are_own.Goals as goal

pub returns : goal.returns
returns g c = plan_faults_are_own g.L.Link.seen
