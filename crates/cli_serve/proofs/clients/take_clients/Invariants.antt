-- These visits were made so far, and are counted.
use Rattle.std.proofs.Common.{◌-◌}
use Rattle.fragmenter.specs.Cutting.{chosen_cuts}
use Rattle.publisher.specs.Held.{side_of}
use Rattle.cli_serve.specs.Clients.{HasServedSoFar}
use Rattle.cli_serve.proofs.clients.take_clients.Given as goal

abbrev pub invariant-clients : goal.invariant-clients
invariant-clients g l = HasServedSoFar (side_of chosen_cuts l.initial.publisher) (side_of chosen_cuts l.publisher) l.connections l.tally (g.D.Door.seen l.initial.door) (g.D.Door.seen l.door)

abbrev pub decreases-clients : goal.decreases-clients
decreases-clients g l = l.connections - l.tally.connections
