use Rattle.cli_replay.proofs.ReplayLawsLemmas.FaultLemmas.{faults_are_own}
use Rattle.cli_replay.proofs.replay_laws.laws.faults_are_own.Goals as goal

pub returns : goal.returns
returns c = faults_are_own
