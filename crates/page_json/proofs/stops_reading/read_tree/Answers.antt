-- First the JSON, then the document.
use Rattle.std.proofs.Common.{Ok, Err, refl}
use Rattle.page_json.specs.ObjectMembers.View.{view}
use Rattle.page_json.specs.StopsReading.{doc_in, doc_of_bytes}
use Rattle.page_json.proofs.ObjectMembersLemmas.ReadingsLemmas.{meets_err, meets_last}
use Rattle.page_json.proofs.stops_reading.read_tree.Goals as goal

pub returns : goal.returns
unfolding doc_of_bytes
returns c =
    meets_last (doc_in (view c.in_ok-value.value)) (doc_of_bytes c.args.bytes.now) c.doc_in.result
    (λ r last. (Ok (view c.in_ok-value.value), c.in_ok-value.ensures.ok, last)) c.doc_in.ensures

pub returns-in_err-value : goal.returns-in_err-value
unfolding doc_of_bytes
returns-in_err-value c =
    let fault = c.in_err-value.field-0.0 in
    meets_err (doc_of_bytes c.args.bytes.now) c.from_residual.result fault c.from_residual.ensures.1
    (λ other. (Err fault, c.in_err-value.ensures.err other, refl))
