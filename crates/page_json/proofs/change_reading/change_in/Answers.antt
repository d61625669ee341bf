-- One step after the other.
use Rattle.std.proofs.Common.{Ok, Err, refl, sym}
use Rattle.page_json.specs.ObjectMembers.View.{view}
use Rattle.page_json.specs.StopsReading.{change_in}
use Rattle.page_json.proofs.ObjectMembersLemmas.ReadingsLemmas.{meets_err}
use Rattle.page_json.proofs.change_reading.change_in.Goals as goal

pub returns-clause-said : goal.returns-clause-said
unfolding change_in
returns-clause-said c =
    let object = c.in_ok-object_under.ensures.ok in
    (Ok object.0, sym object.1, (Ok c.in_ok-from.from, c.in_ok-from.ensures.said, (Ok c.in_ok-seconds.seconds, c.in_ok-seconds.ensures.said, (Ok c.in_ok-to.to, c.in_ok-to.ensures.said, (refl, refl, refl)))))

pub returns-in_err-object_under-clause-said : goal.returns-in_err-object_under-clause-said
unfolding change_in
returns-in_err-object_under-clause-said c =
    let fault = c.in_err-object_under.field-0.0 in
    meets_err (change_in c.args.stops.now (view c.args.value.now)) c.from_residual.result fault c.from_residual.ensures.1
    (λ other. (Err fault, sym (c.in_err-object_under.ensures.err other), refl))

pub returns-in_err-from-clause-said : goal.returns-in_err-from-clause-said
unfolding change_in
returns-in_err-from-clause-said c =
    let fault = c.in_err-from.field-0.0 in
    let object = c.in_ok-object_under.ensures.ok in
    meets_err (change_in c.args.stops.now (view c.args.value.now)) c.from_residual-in_err-from.result fault c.from_residual-in_err-from.ensures.1
    (λ other. (Ok object.0, sym object.1, (Err fault, c.in_err-from.ensures.said other, refl)))

pub returns-in_err-seconds-clause-said : goal.returns-in_err-seconds-clause-said
unfolding change_in
returns-in_err-seconds-clause-said c =
    let fault = c.in_err-seconds.field-0.0 in
    let object = c.in_ok-object_under.ensures.ok in
    meets_err (change_in c.args.stops.now (view c.args.value.now)) c.from_residual-in_err-seconds.result fault c.from_residual-in_err-seconds.ensures.1
    (λ other. (Ok object.0, sym object.1, (Ok c.in_ok-from.from, c.in_ok-from.ensures.said, (Err fault, c.in_err-seconds.ensures.said other, refl))))

pub returns-in_err-to-clause-said : goal.returns-in_err-to-clause-said
unfolding change_in
returns-in_err-to-clause-said c =
    let fault = c.in_err-to.field-0.0 in
    let object = c.in_ok-object_under.ensures.ok in
    meets_err (change_in c.args.stops.now (view c.args.value.now)) c.from_residual-in_err-to.result fault c.from_residual-in_err-to.ensures.1
    (λ other. (Ok object.0, sym object.1, (Ok c.in_ok-from.from, c.in_ok-from.ensures.said, (Ok c.in_ok-seconds.seconds, c.in_ok-seconds.ensures.said, (Err fault, c.in_err-to.ensures.said other, refl)))))
