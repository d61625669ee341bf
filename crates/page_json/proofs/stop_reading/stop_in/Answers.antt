-- One step after the other.
use Rattle.std.proofs.Common.{Ok, Err, refl, sym}
use Rattle.page_json.specs.ObjectMembers.View.{view}
use Rattle.page_json.specs.StopsReading.{stop_in}
use Rattle.page_json.proofs.ObjectMembersLemmas.ReadingsLemmas.{meets_err}
use Rattle.page_json.proofs.stop_reading.stop_in.Goals as goal

pub returns : goal.returns
unfolding stop_in
returns c =
    let object = c.in_ok-object_under.ensures.ok in
    (Ok object.0, sym object.1, (Ok c.in_ok-id.id, c.in_ok-id.ensures, (Ok c.in_ok-name.name, c.in_ok-name.ensures, (Ok c.in_ok-parent.parent, c.in_ok-parent.ensures, refl))))

pub returns-in_err-object_under : goal.returns-in_err-object_under
unfolding stop_in
returns-in_err-object_under c =
    let fault = c.in_err-object_under.field-0.0 in
    meets_err (stop_in (view c.args.value.now)) c.from_residual.result fault c.from_residual.ensures.1
    (λ other. (Err fault, sym (c.in_err-object_under.ensures.err other), refl))

pub returns-in_err-id : goal.returns-in_err-id
unfolding stop_in
returns-in_err-id c =
    let fault = c.in_err-id.field-0.0 in
    let object = c.in_ok-object_under.ensures.ok in
    meets_err (stop_in (view c.args.value.now)) c.from_residual-in_err-id.result fault c.from_residual-in_err-id.ensures.1
    (λ other. (Ok object.0, sym object.1, (Err fault, c.in_err-id.ensures other, refl)))

pub returns-in_err-name : goal.returns-in_err-name
unfolding stop_in
returns-in_err-name c =
    let fault = c.in_err-name.field-0.0 in
    let object = c.in_ok-object_under.ensures.ok in
    meets_err (stop_in (view c.args.value.now)) c.from_residual-in_err-name.result fault c.from_residual-in_err-name.ensures.1
    (λ other. (Ok object.0, sym object.1, (Ok c.in_ok-id.id, c.in_ok-id.ensures, (Err fault, c.in_err-name.ensures other, refl))))

pub returns-in_err-parent : goal.returns-in_err-parent
unfolding stop_in
returns-in_err-parent c =
    let fault = c.in_err-parent.field-0.0 in
    let object = c.in_ok-object_under.ensures.ok in
    meets_err (stop_in (view c.args.value.now)) c.from_residual-in_err-parent.result fault c.from_residual-in_err-parent.ensures.1
    (λ other. (Ok object.0, sym object.1, (Ok c.in_ok-id.id, c.in_ok-id.ensures, (Ok c.in_ok-name.name, c.in_ok-name.ensures, (Err fault, c.in_err-parent.ensures other, refl)))))
