use Rattle.std.proofs.Common.{ℕ, List, Option, ap, ◌∙◌, refl}
use Rattle.connection_uri.specs.Base.{BaseParts}
use Rattle.lc_world.proofs.GoneOnLemmas.{no_gets, one_get}
use Rattle.lc_world.specs.Link.{IsGet}
use Rattle.page_client.specs.Client.{shown}
use Rattle.page_client.specs.Request.{Asks}
use Rattle.page_client.specs.Shown.{ended, Shown}
use Rattle.page_client.specs.declared.outcome.Outcome.TheVariants.{LinkFault}
use Rattle.convoy.proofs.exchange.exchanged.Goals as goal

pub returns-in-Ok-clause-replied : goal.returns-in-Ok-clause-replied
returns-in-Ok-clause-replied g c =
    let given = rw (c.as_slice.ensures.value, c.authority.ensures.value) at c.in-Ok.ensures in
    record {
      exchange = record {
        request = c.in_ok-request.request.items;
        asks = c.in_ok-request.ensures;
        honest = given.honest;
        clear = given.clear;
        still = given.still;
        side = given.side;
        recorded = given.recorded;
        faults = given.faults;
      };
      client = refl;
    }

pub returns-in-Err-Failed-clause-failed : goal.returns-in-Err-Failed-clause-failed
returns-in-Err-Failed-clause-failed g c =
    let failed = rw c.in-Err-Failed.field-0-is at c.in-Err-Failed.ensures in
    let given = rw (c.as_slice.ensures.value, c.authority.ensures.value, failed.empty) at failed in
    let F : ℕ → ℕ → Shown = λ before after. ended (LinkFault before after) (shown c.args.client.now) in
    record {
      exchange = record {
        request = c.in_ok-request.request.items;
        asks = c.in_ok-request.ensures;
        honest = given.honest;
        clear = given.clear;
        still = given.still;
        side = given.side;
        recorded = given.recorded;
        faults = given.faults;
      };
      client = c.give_link_fault.ensures ∙ ap (λ (n : ℕ). F n c.faults.result) c.faults-before.ensures ∙ ap (F _) c.faults.ensures;
    }

-- what a client asks is a GET
get : (base : BaseParts) (target : List ℕ) (known : Option ℕ) (request : List ℕ) → Asks base target known request → IsGet request
get base target known request asks = record { request = asks.request; whole = asks.is_whole; method_is = asks.says.method_is }

pub returns-in_err-request-clause-left : goal.returns-in_err-request-clause-left
returns-in_err-request-clause-left g c = no_gets _

pub returns-in-Ok-clause-left : goal.returns-in-Ok-clause-left
returns-in-Ok-clause-left g c =
    let given = rw (c.as_slice.ensures.value, c.authority.ensures.value) at c.exchange.ensures in
    one_get _ _ _ _ _ c.exchange.result (get c.args.base.now _ _ _ c.in_ok-request.ensures) given.honest given.clear given.still given.side given.recorded given.faults.not_fallen

pub returns-in-Err-Failed-clause-left : goal.returns-in-Err-Failed-clause-left
returns-in-Err-Failed-clause-left g c =
    let given = rw (c.as_slice.ensures.value, c.authority.ensures.value) at c.exchange.ensures in
    one_get _ _ _ _ _ c.exchange.result (get c.args.base.now _ _ _ c.in_ok-request.ensures) given.honest given.clear given.still given.side given.recorded given.faults.not_fallen

pub returns-clause-left : goal.returns-clause-left
returns-clause-left g c =
    let given = rw (c.as_slice.ensures.value, c.authority.ensures.value) at c.exchange.ensures in
    one_get _ _ _ _ _ c.exchange.result (get c.args.base.now _ _ _ c.in_ok-request.ensures) given.honest given.clear given.still given.side given.recorded given.faults.not_fallen
