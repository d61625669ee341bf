-- One step after the other.
use Rattle.std.proofs.Common.{Ok, Err, refl, sym}
use Rattle.page_json.specs.ObjectMembers.View.{view}
use Rattle.page_json.specs.StopsReading.{doc_in}
use Rattle.page_json.proofs.ObjectMembersLemmas.ReadingsLemmas.{meets_err}
use Rattle.page_json.proofs.stops_reading.doc_in.Goals as goal

pub returns : goal.returns
unfolding doc_in
returns c =
    let object = c.in_ok-object_under.ensures.ok in
    (Ok object.0, sym object.1, (Ok c.in_ok-stops.stops, c.in_ok-stops.ensures.said, (Ok c.in_ok-changes.changes, c.in_ok-changes.ensures.said, (refl, refl))))

pub returns-in_err-object_under : goal.returns-in_err-object_under
unfolding doc_in
returns-in_err-object_under c =
    let fault = c.in_err-object_under.field-0.0 in
    meets_err (doc_in (view c.args.value.now)) c.from_residual.result fault c.from_residual.ensures.1
    (λ other. (Err fault, sym (c.in_err-object_under.ensures.err other), refl))

pub returns-in_err-stops : goal.returns-in_err-stops
unfolding doc_in
returns-in_err-stops c =
    let fault = c.in_err-stops.field-0.0 in
    let object = c.in_ok-object_under.ensures.ok in
    meets_err (doc_in (view c.args.value.now)) c.from_residual-in_err-stops.result fault c.from_residual-in_err-stops.ensures.1
    (λ other. (Ok object.0, sym object.1, (Err fault, c.in_err-stops.ensures.said other, refl)))

pub returns-in_err-changes : goal.returns-in_err-changes
unfolding doc_in
returns-in_err-changes c =
    let fault = c.in_err-changes.field-0.0 in
    let object = c.in_ok-object_under.ensures.ok in
    meets_err (doc_in (view c.args.value.now)) c.from_residual-in_err-changes.result fault c.from_residual-in_err-changes.ensures.1
    (λ other. (Ok object.0, sym object.1, (Ok c.in_ok-stops.stops, c.in_ok-stops.ensures.said, (Err fault, c.in_err-changes.ensures.said other, refl))))
