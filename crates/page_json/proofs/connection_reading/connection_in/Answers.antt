-- One member after the other.
use Rattle.std.proofs.Common.{Ok, Err, refl, sym}
use Rattle.page_json.specs.ObjectMembers.View.{view}
use Rattle.page_json.specs.PageReading.{connection_in, joined, unless_early}
use Rattle.page_json.specs.ObjectMembers.Reading.{exactly}
use Rattle.page_json.proofs.ObjectMembersLemmas.ReadingsLemmas.{meets_err, meets_last}
use Rattle.page_json.proofs.connection_reading.connection_in.Goals as goal

pub returns-clause-said : goal.returns-clause-said
unfolding connection_in
returns-clause-said c =
    let tree = view c.args.value.now in
    let object = c.in_ok-object_under.ensures.ok in
    meets_last (exactly (unless_early (joined tree c.in_ok-name.name c.in_ok-arrival.arrival c.in_ok-departure.departure))) (connection_in c.args.base.now tree) c.joined.result
    (λ r last. (Ok object.0, sym object.1, (Ok c.in_ok-name.name, c.in_ok-name.ensures, (Ok c.in_ok-arrival.arrival, c.in_ok-arrival.ensures, (Ok c.in_ok-departure.departure, c.in_ok-departure.ensures, last)))))
    c.joined.ensures.said

pub returns-in_err-object_under-clause-said : goal.returns-in_err-object_under-clause-said
unfolding connection_in
returns-in_err-object_under-clause-said c =
    let fault = c.in_err-object_under.field-0.0 in
    meets_err (connection_in c.args.base.now (view c.args.value.now)) c.from_residual.result fault c.from_residual.ensures.1
    (λ other. (Err fault, sym (c.in_err-object_under.ensures.err other), refl))

pub returns-in_err-name-clause-said : goal.returns-in_err-name-clause-said
unfolding connection_in
returns-in_err-name-clause-said c =
    let fault = c.in_err-name.field-0.0 in
    let object = c.in_ok-object_under.ensures.ok in
    meets_err (connection_in c.args.base.now (view c.args.value.now)) c.from_residual-in_err-name.result fault c.from_residual-in_err-name.ensures.1
    (λ other. (Ok object.0, sym object.1, (Err fault, c.in_err-name.ensures other, refl)))

pub returns-in_err-arrival-clause-said : goal.returns-in_err-arrival-clause-said
unfolding connection_in
returns-in_err-arrival-clause-said c =
    let fault = c.in_err-arrival.field-0.0 in
    let object = c.in_ok-object_under.ensures.ok in
    meets_err (connection_in c.args.base.now (view c.args.value.now)) c.from_residual-in_err-arrival.result fault c.from_residual-in_err-arrival.ensures.1
    (λ other. (Ok object.0, sym object.1, (Ok c.in_ok-name.name, c.in_ok-name.ensures, (Err fault, c.in_err-arrival.ensures other, refl))))

pub returns-in_err-departure-clause-said : goal.returns-in_err-departure-clause-said
unfolding connection_in
returns-in_err-departure-clause-said c =
    let fault = c.in_err-departure.field-0.0 in
    let object = c.in_ok-object_under.ensures.ok in
    meets_err (connection_in c.args.base.now (view c.args.value.now)) c.from_residual-in_err-departure.result fault c.from_residual-in_err-departure.ensures.1
    (λ other. (Ok object.0, sym object.1, (Ok c.in_ok-name.name, c.in_ok-name.ensures, (Ok c.in_ok-arrival.arrival, c.in_ok-arrival.ensures, (Err fault, c.in_err-departure.ensures other, refl)))))
