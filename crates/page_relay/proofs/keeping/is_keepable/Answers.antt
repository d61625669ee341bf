use Rattle.page_relay.proofs.KeepableLemmas.{keepable, said_so}
use Rattle.page_relay.proofs.keeping.is_keepable.Goals as goal

pub returns : goal.returns
returns c =
    let base = c.args.base.now in
    let bytes = c.args.request.now in
    let said = c.in_ok-said.said in (
      λ asks. keepable base bytes said c.in_ok-said.ensures.said (c.asks_for_lasting.ensures.0 asks),
      λ is. c.asks_for_lasting.ensures.1 (said_so base bytes said c.in_ok-said.ensures.said is),
    )
