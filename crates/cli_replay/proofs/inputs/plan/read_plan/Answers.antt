use Rattle.cli_replay.proofs.InputsLemmas.PlanLemmas.{no_messages, turns_said}
use Rattle.cli_replay.proofs.inputs.plan.read_plan.Goals as goal

pub returns-in-Ok-clause-no_messages : goal.returns-in-Ok-clause-no_messages
returns-in-Ok-clause-no_messages g c = no_messages c.in-Ok.script c.in_ok-events_said-in-Ok.field-0.items c.in_ok-events_said-in-Ok.ensures

pub returns-in-Ok-clause-turns : goal.returns-in-Ok-clause-turns
returns-in-Ok-clause-turns g c =
    turns_said (g.F.Folder.seen c.args.folder.now) c.in-Ok.script c.in_ok-events_said-in-Ok.field-0.items c.in_ok-events_said-in-Ok.ensures c.in-Ok.ensures.turns
