use Rattle.std.proofs.Common.{◌≡◌, take}
use Rattle.cli_replay.specs.Inputs.Plan.{SayEvents}
use Rattle.cli_replay.proofs.inputs.plan.events_said.Given as goal

abbrev pub invariant-records : goal.invariant-records
invariant-records l = (l.records ≡ l.script) × SayEvents (take l.place l.script) l.events.items
