-- The bytes say one document at most, and it is valid.
use Rattle.std.proofs.Common.{Ok, Option, subst}
use Rattle.std.specs.Option.{IfSome}
use Rattle.page_json.proofs.ObjectMembersLemmas.OneReadingLemmas.{meets_one}
use Rattle.lc_model.specs.declared.doc.StopsDoc.{StopsDoc}
use Rattle.page_json.specs.StopsReading.{doc_of_bytes}
use Rattle.page_json.proofs.OneResultLemmas.{one_doc_of_bytes}
use Rattle.page_json.proofs.ValidResultLemmas.{valid_doc_of_bytes, valid_where_met}
use Rattle.page_json.proofs.stops_reading.read_stops.Goals as goal

pub returns-in-Some-clause-said : goal.returns-in-Some-clause-said
returns-in-Some-clause-said c =
    let bytes = c.args.bytes.now in
    let Says : Option StopsDoc → Type 0 = λ read. IfSome read (λ (doc : StopsDoc). doc_of_bytes bytes (Ok doc)) in
    subst Says c.in-Some.is c.in_ok-doc.ensures

pub returns-in-Some-clause-valid : goal.returns-in-Some-clause-valid
returns-in-Some-clause-valid c = valid_doc_of_bytes c.args.bytes.now c.in-Some.doc (returns-in-Some-clause-said c)

pub returns-in-Some-clause-exact : goal.returns-in-Some-clause-exact
returns-in-Some-clause-exact c = λ doc says. (one_doc_of_bytes c.args.bytes.now).same (Ok c.in-Some.doc) (Ok doc) (returns-in-Some-clause-said c) says

pub returns-in-None-clause-valid : goal.returns-in-None-clause-valid
returns-in-None-clause-valid c = valid_where_met c.args.bytes.now c.read_tree.result c.read_tree.ensures

pub returns-in-None-clause-exact : goal.returns-in-None-clause-exact
returns-in-None-clause-exact c = λ doc says.
    meets_one (doc_of_bytes c.args.bytes.now) doc c.read_tree.result (one_doc_of_bytes c.args.bytes.now) says c.read_tree.ensures
