use Rattle.std.proofs.Common.{eq-eqb, eqb-true}
use Rattle.page_relay.proofs.KeepableLemmas.{lasting, not_lasting, status_of}
use Rattle.page_relay.proofs.keeping.is_lasting.Goals as goal

pub returns-in-Ok : goal.returns-in-Ok
returns-in-Ok c =
    let bytes = c.args.reply.now in (
      λ ok. lasting bytes c.in-Ok.said c.if-reply-gt-MOST_BYTES.false c.in-Ok.ensures.said (eqb-true c.in-Ok.said.status 200 ok),
      λ is. eq-eqb c.in-Ok.said.status 200 (status_of bytes c.in-Ok.said c.in-Ok.ensures.said is),
    )

pub returns-in-Err : goal.returns-in-Err
returns-in-Err c = not_lasting c.args.reply.now c.in-Err.fault c.not_lasting.result c.not_lasting.ensures.not c.not_lasting.ensures.known c.in-Err.ensures.fault
