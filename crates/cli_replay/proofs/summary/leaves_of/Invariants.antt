use Rattle.std.proofs.Common.{◌≡◌, take}
use Rattle.cli_replay.specs.Summary.{leaves_in}
use Rattle.cli_replay.proofs.summary.leaves_of.Given as goal

abbrev pub invariant-events : goal.invariant-events
invariant-events l = l.leaves.items ≡ leaves_in (take l.event-index l.events)
