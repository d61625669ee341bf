use Rattle.rounds_client.specs.Given.{was_given}
use Rattle.rounds_client.proofs.StopsLemmas.{takes_doc}
use Rattle.rounds_client.proofs.asking.take_stops.Goals as goal

pub returns-clause-takes : goal.returns-clause-takes
returns-clause-takes c =
    let took = c.in_ok-give_stops.ensures.ok in
    takes_doc c.args.client.now c.give_stops.new.self c.args.reply.items (was_given c.args.given.now) (was_given c.keep_doc.new.given) c.keep_doc.result took.0 took.1 took.2 c.keep_doc.ensures.doc c.keep_doc.ensures.same
