use Rattle.std.proofs.Common.{subst, sym}
use Rattle.cli_ask.specs.Block.{IsPrintable}
use Rattle.cli_ask.specs.declared.end.ClientEnd.{ClientEnd}
use Rattle.back_client.specs.Ends.Asked.{HasAskedLatest}
use Rattle.cli_ask.specs.LatestDeparture.Client.{EndsRightLatest}
use Rattle.cli_ask.proofs.LatestDepartureLemmas.QuietLemmas.{ends_right_latest, printable}
use Rattle.cli_ask.proofs.latest_departure.client.client_end.Goals as goal

pub returns-in-Ok-clause-asks : goal.returns-in-Ok-clause-asks
returns-in-Ok-clause-asks g c =
    subst (λ (d : ClientEnd). HasAskedLatest c.args.base.now c.args.query (g.L.Link.seen c.args.link.now) (g.L.Link.seen c.arrive.new.link) d.version d.exchanges d.outcome)
    (sym c.as_client.ensures)
    (c.latest_by_its_replies.ensures c.args.base.now c.args.query c.args.link.now c.arrive.new.link c.in-Ok.end c.in-Ok.ensures.arrives)

pub returns-in-Ok-clause-printable : goal.returns-in-Ok-clause-printable
returns-in-Ok-clause-printable g c =
    subst (λ (d : ClientEnd). IsPrintable d.outcome) (sym c.as_client.ensures)
    (printable c.args.base.now c.args.query (g.L.Link.seen c.args.link.now) (g.L.Link.seen c.arrive.new.link) c.in-Ok.end.version c.in-Ok.end.exchanges c.in-Ok.end.outcome
    (c.latest_by_its_replies.ensures c.args.base.now c.args.query c.args.link.now c.arrive.new.link c.in-Ok.end c.in-Ok.ensures.arrives))

pub returns-in-Ok-clause-right : goal.returns-in-Ok-clause-right
returns-in-Ok-clause-right g c = λ side quiet.
    let seen = g.L.Link.seen in
    subst (EndsRightLatest side c.args.base.now c.args.query (seen c.args.link.now).recorded (seen c.arrive.new.link).recorded (seen c.args.link.now).faults (seen c.arrive.new.link).faults)
    (sym c.as_client.ensures)
    (ends_right_latest seen c.args.base.now c.args.query side c.args.link.now c.arrive.new.link c.in-Ok.end quiet
    (c.latest_ends_right.ensures.right side c.args.base.now c.args.query c.args.link.now c.arrive.new.link c.in-Ok.end quiet.as_honest c.in-Ok.ensures.arrives)
    c.in-Ok.ensures.arrives)
