-- One step after the other.
use Rattle.std.proofs.Common.{Ok, Err, refl}
use Rattle.page_json.specs.ObjectMembers.View.{view}
use Rattle.page_json.specs.StopsReading.{if_stop, stop_at}
use Rattle.page_json.proofs.ObjectMembersLemmas.ReadingsLemmas.{meets_err, meets_last}
use Rattle.page_json.proofs.change_reading.stop_at.Goals as goal

pub returns-clause-said : goal.returns-clause-said
unfolding stop_at
returns-clause-said c =
    meets_last (if_stop c.args.stops.now c.args.key.now c.in_ok-id.id) (stop_at c.args.stops.now c.args.key.now (view c.args.value.now)) c.if_stop.result
    (λ r last. (Ok c.in_ok-id.id, c.in_ok-id.ensures, last))
    c.if_stop.ensures.said

pub returns-in_err-id-clause-said : goal.returns-in_err-id-clause-said
unfolding stop_at
returns-in_err-id-clause-said c =
    let fault = c.in_err-id.field-0.0 in
    meets_err (stop_at c.args.stops.now c.args.key.now (view c.args.value.now)) c.from_residual.result fault c.from_residual.ensures.1
    (λ other. (Err fault, c.in_err-id.ensures other, refl))
