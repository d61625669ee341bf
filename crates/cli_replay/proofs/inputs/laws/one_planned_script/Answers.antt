use Rattle.cli_replay.proofs.InputsLemmas.OnePlanLemmas.{one_plan}
use Rattle.cli_replay.proofs.inputs.laws.one_planned_script.Goals as goal

pub returns : goal.returns
returns c = one_plan c.one_script.ensures.script
