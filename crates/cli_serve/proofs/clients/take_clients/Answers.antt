-- What was taken so far goes on by what `next` answers.
use Rattle.std.proofs.Common.{Err, Ok, subst, sym}
use Rattle.fragmenter.specs.Cutting.{chosen_cuts}
use Rattle.lc_io.specs.declared.door.DoorFail.{DoorFail}
use Rattle.lc_io.specs.declared.door.Next.{Next}
use Rattle.publisher.specs.Held.{side_of}
use Rattle.cli_serve.specs.Clients.{HasTaken}
use Rattle.cli_serve.proofs.ClientLemmas.{NextSaid, all_came, fails_next, none_next, one_next}
use Rattle.cli_serve.proofs.clients.take_clients.Goals as goal

pub returns-in-Ok-Closed-clause-taken : goal.returns-in-Ok-Closed-clause-taken
returns-in-Ok-Closed-clause-taken g c =
    let middle = g.D.Door.seen c.clients.door in
    let after = g.D.Door.seen c.next.new.self in
    let asked : NextSaid (Ok c.in-Ok-Closed.field-0) middle after = record {
      connected = c.in-Ok-Closed.ensures.connected;
      recorded = c.in-Ok-Closed.ensures.recorded;
      faults = c.next.ensures.faults.not_fallen;
      listens = c.next.ensures.listens;
      broken = c.next.ensures.broken;
    } in
    none_next (side_of chosen_cuts c.args.publisher) (side_of chosen_cuts c.clients.publisher) c.args.connections c.clients.tally (g.D.Door.seen c.args.door.now) middle after
    c.clients.invariant c.clients-test.true (subst (λ (n : Next). NextSaid (Ok n) middle after) c.in-Ok-Closed.field-0-is asked)

pub returns-in-Err-clause-taken : goal.returns-in-Err-clause-taken
returns-in-Err-clause-taken g c =
    let first = side_of chosen_cuts c.args.publisher in
    let before = g.D.Door.seen c.args.door.now in
    let after = g.D.Door.seen c.next.new.self in
    let Goal : DoorFail → Type 0 = λ (fail : DoorFail). HasTaken first c.args.connections (Err fail) before after in
    subst Goal (sym c.ended_by.ensures)
    (fails_next first (side_of chosen_cuts c.clients.publisher) c.args.connections c.clients.tally c.in-Err.fail before (g.D.Door.seen c.clients.door) after c.clients.invariant
    c.clients-test.true (record {
      connected = c.in-Err.ensures.connected;
      recorded = c.in-Err.ensures.recorded;
      faults = c.next.ensures.faults.not_fallen;
      listens = c.next.ensures.listens;
      broken = c.next.ensures.broken;
    }))

pub clients-preserved : goal.clients-preserved
clients-preserved g c =
    let middle = g.D.Door.seen c.clients.door in
    let opened = g.D.Door.seen c.next.new.self in
    let asked : NextSaid (Ok c.in-Ok-Connection.field-0) middle opened = record {
      connected = c.in-Ok-Connection.ensures.connected;
      recorded = c.in-Ok-Connection.ensures.recorded;
      faults = c.next.ensures.faults.not_fallen;
      listens = c.next.ensures.listens;
      broken = c.next.ensures.broken;
    } in
    one_next c.visit-left.ensures.0 c.visit-left.result.1 (side_of chosen_cuts c.args.publisher) (side_of chosen_cuts c.clients.publisher) (side_of chosen_cuts c.visit-left.result.0)
    c.args.connections c.clients.tally c.count.new.self (g.D.Door.seen c.args.door.now) middle opened (g.D.Door.seen c.visit-left.new.door)
    c.clients.invariant c.clients-test.true (subst (λ (n : Next). NextSaid (Ok n) middle opened) c.in-Ok-Connection.field-0-is asked)
    c.visit-left.ensures.1 c.count.ensures.more c.count.ensures.one c.count.ensures.fits

pub returns-clause-taken : goal.returns-clause-taken
returns-clause-taken g c =
    all_came (side_of chosen_cuts c.args.publisher) (side_of chosen_cuts c.clients.publisher) c.args.connections c.clients.tally (g.D.Door.seen c.args.door.now)
    (g.D.Door.seen c.clients.door) c.clients.invariant c.clients-test.false c.requires.some
