-- Each part of serving goes on from where the one before ended.
use Rattle.fragmenter.specs.Cutting.{chosen_cuts}
use Rattle.publisher.specs.Held.{side_of}
use Rattle.cli_serve.specs.Serve.{Asked, Outside}
use Rattle.cli_serve.proofs.EndLemmas.{closed_so, not_announced}
use Rattle.cli_serve.proofs.command.serve_all.Goals as goal

pub returns-in-Err-clause-stops : goal.returns-in-Err-clause-stops
returns-in-Err-clause-stops g c =
    let asked : Asked = record { first = side_of chosen_cuts c.args.publisher; opening = c.args.opening.items; port = c.args.port; connections = c.args.connections } in
    let before : Outside = record { door = g.D.Door.seen c.args.door.now; sink = g.S.Sink.seen c.args.out.now } in
    let after : Outside = record { door = g.D.Door.seen c.announce.new.door; sink = g.S.Sink.seen c.announce.new.out } in
    not_announced asked before after c.in-Err.stop (c.in-Err.ensures.announces asked.first asked.connections)

pub take_clients-left-requires-clause-listens : goal.take_clients-left-requires-clause-listens
take_clients-left-requires-clause-listens g c = (c.in_default.ensures.announces (side_of chosen_cuts c.args.publisher) c.args.connections).listens

pub returns-clause-stops : goal.returns-clause-stops
returns-clause-stops g c =
    let asked : Asked = record { first = side_of chosen_cuts c.args.publisher; opening = c.args.opening.items; port = c.args.port; connections = c.args.connections } in
    let before : Outside = record { door = g.D.Door.seen c.args.door.now; sink = g.S.Sink.seen c.args.out.now } in
    let middle : Outside = record { door = g.D.Door.seen c.announce.new.door; sink = g.S.Sink.seen c.announce.new.out } in
    let taken = c.take_clients-left in
    closed_so asked taken.result.1 before middle (g.D.Door.seen taken.new.door) (g.S.Sink.seen c.close.new.out) c.close.result
    (c.in_default.ensures.announces asked.first asked.connections) c.announce.ensures.broken c.announce.ensures.door_counts.faults c.announce.ensures.sink_counts.faults
    taken.ensures.taken taken.ensures.faults c.close.ensures.closes
