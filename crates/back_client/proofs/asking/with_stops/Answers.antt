use Rattle.std.proofs.Common.{List, ℕ, None, sym, subst}
use Rattle.connection_uri.specs.Page.{stops_target_of}
use Rattle.lc_world.proofs.GoneOnLemmas.{gets_then, no_gets}
use Rattle.page_client.specs.Request.{Asks}
use Rattle.back_client.proofs.asking.with_stops.Goals as goal

pub returns-in_err-request-clause-left : goal.returns-in_err-request-clause-left
returns-in_err-request-clause-left g c = no_gets _

pub returns-in-Ok-2-clause-left : goal.returns-in-Ok-2-clause-left
returns-in-Ok-2-clause-left g c =
    let A : List ℕ → Type 0 = λ text. Asks c.args.base.now (stops_target_of c.args.base.now) None text in
    gets_then _ _ _ (c.exchanged.ensures.left (stops_target_of c.args.base.now) None (subst A (sym c.as_slice.ensures.value) c.in_ok-request.ensures)) c.with_doc.ensures.left
