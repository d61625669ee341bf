-- A client reads what the reply says, and nothing else.
use Rattle.std.proofs.Common.{Ok}
use Rattle.page_client.proofs.OneReplyLemmas.{one_gate_reply, one_page_reply, one_stops_reply}
use Rattle.convoy.specs.ClientLaws.Read.{GateIsRead, PageIsRead, StopsAreRead}
use Rattle.convoy.proofs.ClientLawsLemmas.GateLemmas as gate
use Rattle.convoy.proofs.ClientLawsLemmas.PageLemmas as page
use Rattle.convoy.proofs.ClientLawsLemmas.StopsLemmas as stops

pub gate_is_read : GateIsRead
gate_is_read side query reply read stands recorded is =
    let sent = gate.gate_is_stated side query reply stands recorded in
    (sent.name, sent.is_gate_page, one_gate_reply side.base query.leave reply read (Ok sent.name) is sent.said)

pub stops_are_read : StopsAreRead
stops_are_read side reply read stands recorded is = one_stops_reply reply read (Ok side.doc) is (stops.stops_are_stated side reply stands recorded)

pub page_is_read : PageIsRead
page_is_read side p reply read stands has sound is_page recorded is =
    one_page_reply side.base p.name reply read (Ok p) is (page.page_is_stated side p reply stands has sound is_page recorded).0
