use Rattle.std.proofs.Common.{ℕ, List, Option}
use Rattle.connection_uri.specs.Base.{BaseParts}
use Rattle.lc_world.proofs.GoneOnLemmas.{one_get}
use Rattle.lc_world.specs.Link.{IsGet}
use Rattle.page_client.specs.Request.{Asks}
use Rattle.back_client.proofs.exchange.exchanged.Goals as goal

pub returns-in-Ok-clause-replied : goal.returns-in-Ok-clause-replied
returns-in-Ok-clause-replied g c = λ target known asks.
    let given = rw c.authority.ensures.value at c.in-Ok.ensures in
    record {
      request = c.args.request.now;
      asks = asks;
      honest = given.honest;
      clear = given.clear;
      still = given.still;
      side = given.side;
      recorded = given.recorded;
      faults = given.faults;
    }

pub returns-in-Err-Failed-clause-failed : goal.returns-in-Err-Failed-clause-failed
returns-in-Err-Failed-clause-failed g c = λ target known asks.
    let failed = rw c.in-Err-Failed.field-0-is at c.in-Err-Failed.ensures in
    let given = rw (c.authority.ensures.value, failed.empty) at failed in
    record {
      request = c.args.request.now;
      asks = asks;
      honest = given.honest;
      clear = given.clear;
      still = given.still;
      side = given.side;
      recorded = given.recorded;
      faults = given.faults;
    }

-- what is asked so is a GET
get : (base : BaseParts) (target : List ℕ) (known : Option ℕ) (request : List ℕ) → Asks base target known request → IsGet request
get base target known request asks = record { request = asks.request; whole = asks.is_whole; method_is = asks.says.method_is }

pub returns-in-Ok-clause-left : goal.returns-in-Ok-clause-left
returns-in-Ok-clause-left g c = λ target known asks.
    let given = c.exchange.ensures in
    one_get _ _ _ _ _ c.exchange.result (get c.args.base.now target known c.args.request.now asks) given.honest given.clear given.still given.side given.recorded given.faults.not_fallen

pub returns-in-Err-Failed-clause-left : goal.returns-in-Err-Failed-clause-left
returns-in-Err-Failed-clause-left g c = λ target known asks.
    let given = c.exchange.ensures in
    one_get _ _ _ _ _ c.exchange.result (get c.args.base.now target known c.args.request.now asks) given.honest given.clear given.still given.side given.recorded given.faults.not_fallen

pub returns-clause-left : goal.returns-clause-left
returns-clause-left g c = λ target known asks.
    let given = c.exchange.ensures in
    one_get _ _ _ _ _ c.exchange.result (get c.args.base.now target known c.args.request.now asks) given.honest given.clear given.still given.side given.recorded given.faults.not_fallen
