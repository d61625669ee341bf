use Rattle.std.proofs.Common.{List, ℕ, Some, None, Ok, Err, refl, ap, sym, subst, ◌∙◌}
use Rattle.std.proofs.lemmas.Result.{IfOk-weaker}
use Rattle.connection_uri.specs.Page.{gate_target_of}
use Rattle.lc_world.proofs.GoneOnLemmas.{gets_then, no_gets}
use Rattle.page_client.specs.Request.{Asks}
use Rattle.page_client.specs.declared.outcome.Outcome.{Outcome}
use Rattle.back_client.specs.Arrives.{ended}
use Rattle.back_client.proofs.asking.with_gate.Goals as goal

pub returns-in_err-request-clause-left : goal.returns-in_err-request-clause-left
returns-in_err-request-clause-left g c = no_gets _

pub returns-in-Ok-2-clause-asks : goal.returns-in-Ok-2-clause-asks
returns-in-Ok-2-clause-asks g c =
    let target = gate_target_of c.args.base.now c.args.query.now.arrive in
    let known = c.args.query.now.known in
    let A : List ℕ → Type 0 = λ text. Asks c.args.base.now (gate_target_of c.args.base.now c.args.query.now.arrive) c.args.query.now.known text in
    let given = c.in_ok-reply.ensures.replied target known (subst A (sym c.as_slice.ensures.value) c.in_ok-request.ensures) in
    let exchange = rw c.in-Ok.is at given in
    let says = rw (c.as_slice-in-Ok.ensures.value, c.in-Ok-2.is) at c.in_ok-first-in-Ok.ensures in
    IfOk-weaker c.with_stops.result _ _ (λ end asks. record { after = c.exchanged.new.link; got = Some c.in-Ok.reply.items; exchange = exchange; leads = (Ok c.in-Ok-2.first, says, asks) })
    (rw c.from_list.ensures at c.with_stops.ensures.asks)

pub returns-in-Ok-clause-asks : goal.returns-in-Ok-clause-asks
returns-in-Ok-clause-asks g c =
    let target = gate_target_of c.args.base.now c.args.query.now.arrive in
    let known = c.args.query.now.known in
    let A : List ℕ → Type 0 = λ text. Asks c.args.base.now (gate_target_of c.args.base.now c.args.query.now.arrive) c.args.query.now.known text in
    let given = c.in_ok-reply.ensures.replied target known (subst A (sym c.as_slice.ensures.value) c.in_ok-request.ensures) in
    let exchange = rw c.in-Ok.is at given in
    let says = rw (c.as_slice-in-Ok.ensures.value, c.in-Err-2.is) at c.in_ok-first-in-Ok.ensures in
    record {
      after = c.exchanged.new.link;
      got = Some c.in-Ok.reply.items;
      exchange = exchange;
      leads = (Err c.in-Err-2.fault, says, record { same_link = refl; is = c.end.ensures ∙ ap (λ (outcome : Outcome). ended outcome None 1) c.wrong.ensures });
    }

pub returns-in-Ok-2-clause-left : goal.returns-in-Ok-2-clause-left
returns-in-Ok-2-clause-left g c =
    let A : List ℕ → Type 0 = λ text. Asks c.args.base.now (gate_target_of c.args.base.now c.args.query.now.arrive) c.args.query.now.known text in
    gets_then _ _ _ (c.exchanged.ensures.left (gate_target_of c.args.base.now c.args.query.now.arrive) c.args.query.now.known (subst A (sym c.as_slice.ensures.value) c.in_ok-request.ensures)) c.with_stops.ensures.left
