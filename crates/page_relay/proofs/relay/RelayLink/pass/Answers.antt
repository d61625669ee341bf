use Rattle.std.proofs.Common.{Ok, Err}
use Rattle.page_relay.proofs.TranscriptLemmas.{made_as, records_failed, tells_by}
use Rattle.page_relay.proofs.relay.RelayLink.pass.Goals as goal

pub returns-in-Ok-clause-recorded : goal.returns-in-Ok-clause-recorded
returns-in-Ok-clause-recorded g c =
    let rest = c.pass_on.ensures.rest in
    tells_by g.L.Link.seen c.args.self.now c.pass_on.new.self c.args.authority.now c.args.request.now c.pass_on.new.reply.items (Ok (tt {0}))
    (made_as _ _ _ _ _ _ _ _ rest)
    c.in-Ok.ensures.records

pub returns-in-Err-clause-recorded : goal.returns-in-Err-clause-recorded
returns-in-Err-clause-recorded g c =
    let rest = c.pass_on.ensures.rest in
    tells_by {T = Unit {0}} g.L.Link.seen c.args.self.now c.pass_on.new.self c.args.authority.now c.args.request.now c.clear.new.self.items (Err c.in-Err.fail)
    (made_as _ _ _ _ _ _ _ _ rest)
    (records_failed (Unit {0}) c.args.self.now.recorded c.pass_on.new.self.recorded c.args.authority.now c.args.request.now c.pass_on.new.reply.items c.clear.new.self.items c.in-Err.fail c.in-Err.ensures.records)
