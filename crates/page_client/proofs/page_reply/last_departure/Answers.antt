use Rattle.std.proofs.Common.{sym}
use Rattle.page_client.proofs.LastLemmas.{last_is}
use Rattle.page_client.proofs.page_reply.last_departure.Goals as goal

pub returns : goal.returns
returns c = sym (last_is c.args.list.now c.in_ok-last.last.now (sym c.in_ok-last.ensures.value))
