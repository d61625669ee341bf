use Rattle.page_client.proofs.OneReplyLemmas.{one_gate_reply, one_page_reply, one_stops_reply}
use Rattle.page_client.proofs.laws.one_reply.Goals as goal

pub returns-clause-gate : goal.returns-clause-gate
returns-clause-gate c = one_gate_reply

pub returns-clause-stops : goal.returns-clause-stops
returns-clause-stops c = one_stops_reply

pub returns-clause-page : goal.returns-clause-page
returns-clause-page c = one_page_reply
