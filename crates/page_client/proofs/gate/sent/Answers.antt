use Rattle.page_client.proofs.GateLemmas.{sent_nowhere}
use Rattle.page_client.proofs.gate.sent.Goals as goal

pub returns-in-Ok-None : goal.returns-in-Ok-None
returns-in-Ok-None c =
    let at_none = rw c.in-Ok-None.field-0-is at c.in-Ok-None.ensures in
    sent_nowhere c.args.base.now c.args.leave c.args.location c.in-Some.reference c.as_str.result.now c.in-Some.is c.as_str.ensures.value at_none.exact
