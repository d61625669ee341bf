use Rattle.std.proofs.Common.{subst, sym}
use Rattle.cli_ask.specs.Block.{IsPrintable}
use Rattle.cli_ask.specs.declared.end.ClientEnd.{ClientEnd}
use Rattle.rounds_client.specs.Ends.Asked.{HasAskedFewest}
use Rattle.cli_ask.specs.FewestRides.Client.{EndsRightFewest}
use Rattle.cli_ask.proofs.FewestRidesLemmas.QuietLemmas.{ends_fewest, printable}
use Rattle.cli_ask.proofs.fewest_rides.client.client_end.Goals as goal

pub returns-in-Ok-clause-asks : goal.returns-in-Ok-clause-asks
returns-in-Ok-clause-asks g c =
    subst (λ (d : ClientEnd). HasAskedFewest c.args.base.now c.args.query (g.L.Link.seen c.args.link.now) (g.L.Link.seen c.fewest.new.link) d.version d.exchanges d.outcome)
    (sym c.as_client.ensures)
    (c.fewest_by_its_replies.ensures c.args.base.now c.args.query c.args.link.now c.fewest.new.link c.in-Ok.end c.in-Ok.ensures.ends)

pub returns-in-Ok-clause-printable : goal.returns-in-Ok-clause-printable
returns-in-Ok-clause-printable g c = subst (λ (d : ClientEnd). IsPrintable d.outcome) (sym c.as_client.ensures) (printable c.in-Ok.end.outcome c.in-Ok.ensures.moment)

pub returns-in-Ok-clause-right : goal.returns-in-Ok-clause-right
returns-in-Ok-clause-right g c = λ side quiet.
    subst (EndsRightFewest side c.args.base.now c.args.query (g.L.Link.seen c.args.link.now).recorded (g.L.Link.seen c.fewest.new.link).recorded) (sym c.as_client.ensures)
    (ends_fewest c.steps_keep_agreement.ensures.begins c.fewest_at_version.ensures.needed g.L.Link.seen c.args.base.now side c.args.query c.args.link.now c.fewest.new.link c.in-Ok.end quiet
    c.in-Ok.ensures.ends
    (c.fewest_by_its_replies.ensures c.args.base.now c.args.query c.args.link.now c.fewest.new.link c.in-Ok.end c.in-Ok.ensures.ends))
