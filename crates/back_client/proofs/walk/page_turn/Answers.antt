use Rattle.std.proofs.Common.{List, ℕ, Some, None, sym, subst}
use Rattle.std.proofs.lemmas.Result.{IfOk-weaker}
use Rattle.connection_uri.specs.Page.{page_target_of}
use Rattle.lc_world.proofs.GoneOnLemmas.{no_gets}
use Rattle.page_client.specs.Request.{Asks}
use Rattle.back_client.proofs.walk.page_turn.Goals as goal

pub returns-in_err-request-clause-left : goal.returns-in_err-request-clause-left
returns-in_err-request-clause-left g c = no_gets _

pub returns-in-Ok-clause-turn : goal.returns-in-Ok-clause-turn
returns-in-Ok-clause-turn g c =
    let target = page_target_of c.args.base.now c.args.name.now in
    let A : List ℕ → Type 0 = λ text. Asks c.args.base.now (page_target_of c.args.base.now c.args.name.now) None text in
    let given = c.in_ok-reply.ensures.replied target None (subst A (sym c.as_slice.ensures.value) c.in_ok-request.ensures) in
    let exchange = rw c.in-Ok.is at given in
    IfOk-weaker c.take_reply.result _ _ (λ sequel takes. record { got = Some c.in-Ok.reply.items; exchange = exchange; leads = takes }) c.take_reply.ensures.takes
