-- First the JSON, then the page.
use Rattle.std.proofs.Common.{Ok, Err, refl}
use Rattle.page_json.specs.ObjectMembers.View.{view}
use Rattle.page_json.specs.PageReading.{page_in, page_of_bytes}
use Rattle.page_json.proofs.ObjectMembersLemmas.ReadingsLemmas.{meets_err, meets_last}
use Rattle.page_json.proofs.page_reading.read_tree.Goals as goal

pub returns-clause-said : goal.returns-clause-said
unfolding page_of_bytes
returns-clause-said c =
    meets_last (page_in c.args.base.now (view c.in_ok-value.value)) (page_of_bytes c.args.base.now c.args.bytes.now) c.page_in.result
    (λ r last. (Ok (view c.in_ok-value.value), c.in_ok-value.ensures.ok, last)) c.page_in.ensures.said

pub returns-in_err-value-clause-said : goal.returns-in_err-value-clause-said
unfolding page_of_bytes
returns-in_err-value-clause-said c =
    let fault = c.in_err-value.field-0.0 in
    meets_err (page_of_bytes c.args.base.now c.args.bytes.now) c.from_residual.result fault c.from_residual.ensures.1
    (λ other. (Err fault, c.in_err-value.ensures.err other, refl))
