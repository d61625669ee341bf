-- One member after the other.
use Rattle.std.proofs.Common.{Ok, Err, refl, sym}
use Rattle.lc_model.specs.Connection.{departure_cmp}
use Rattle.page_json.specs.ObjectMembers.View.{items_view, view}
use Rattle.lc_model.specs.Disorder.{first_disorder}
use Rattle.page_json.specs.ObjectMembers.Disorder.{unless_disorder}
use Rattle.page_json.specs.PageReading.{page_in}
use Rattle.page_json.specs.ObjectMembers.Reading.{exactly}
use Rattle.page_json.specs.declared.page.Page.{Page}
use Rattle.page_json.proofs.ObjectMembersLemmas.EachLemmas.{items_seen}
use Rattle.page_json.proofs.ObjectMembersLemmas.ReadingsLemmas.{meets_err, meets_last}
use Rattle.page_json.proofs.page_reading.page_in.Goals as goal

pub returns-clause-said : goal.returns-clause-said
unfolding page_in
returns-clause-said c =
    let tree = view c.args.value.now in
    let object = c.in_ok-object_under.ensures.ok in
    let page : Page = record { name = c.in_ok-name.name; next = c.in_ok-next.next; previous = c.in_ok-previous.previous; list = c.in_ok-list.list } in
    meets_last (exactly (unless_disorder (first_disorder departure_cmp page.list) page)) (page_in c.args.base.now tree) c.in_order.result
    (λ r last. (Ok object.0, sym object.1, (Ok c.in_ok-name.name, c.in_ok-name.ensures, (Ok (items_view c.deref.result.now), items_seen _ _ _ c.deref.ensures.value c.in_ok-graph.ensures.ok, (Ok c.in_ok-list.list, c.in_ok-list.ensures, (Ok c.in_ok-next.next, c.in_ok-next.ensures.said, (Ok c.in_ok-previous.previous, c.in_ok-previous.ensures.said, last)))))))
    c.in_order.ensures.said

pub returns-in_err-object_under-clause-said : goal.returns-in_err-object_under-clause-said
unfolding page_in
returns-in_err-object_under-clause-said c =
    let fault = c.in_err-object_under.field-0.0 in
    meets_err (page_in c.args.base.now (view c.args.value.now)) c.from_residual.result fault c.from_residual.ensures.1
    (λ other. (Err fault, sym (c.in_err-object_under.ensures.err other), refl))

pub returns-in_err-name-clause-said : goal.returns-in_err-name-clause-said
unfolding page_in
returns-in_err-name-clause-said c =
    let fault = c.in_err-name.field-0.0 in
    let object = c.in_ok-object_under.ensures.ok in
    meets_err (page_in c.args.base.now (view c.args.value.now)) c.from_residual-in_err-name.result fault c.from_residual-in_err-name.ensures.1
    (λ other. (Ok object.0, sym object.1, (Err fault, c.in_err-name.ensures other, refl)))

pub returns-in_err-graph-clause-said : goal.returns-in_err-graph-clause-said
unfolding page_in
returns-in_err-graph-clause-said c =
    let fault = c.in_err-graph.field-0.0 in
    let object = c.in_ok-object_under.ensures.ok in
    meets_err (page_in c.args.base.now (view c.args.value.now)) c.from_residual-in_err-graph.result fault c.from_residual-in_err-graph.ensures.1
    (λ other. (Ok object.0, sym object.1, (Ok c.in_ok-name.name, c.in_ok-name.ensures, (Err fault, sym (c.in_err-graph.ensures.err other), refl))))

pub returns-in_err-list-clause-said : goal.returns-in_err-list-clause-said
unfolding page_in
returns-in_err-list-clause-said c =
    let fault = c.in_err-list.field-0.0 in
    let object = c.in_ok-object_under.ensures.ok in
    meets_err (page_in c.args.base.now (view c.args.value.now)) c.from_residual-in_err-list.result fault c.from_residual-in_err-list.ensures.1
    (λ other. (Ok object.0, sym object.1, (Ok c.in_ok-name.name, c.in_ok-name.ensures, (Ok (items_view c.deref.result.now), items_seen _ _ _ c.deref.ensures.value c.in_ok-graph.ensures.ok, (Err fault, c.in_err-list.ensures other, refl)))))

pub returns-in_err-next-clause-said : goal.returns-in_err-next-clause-said
unfolding page_in
returns-in_err-next-clause-said c =
    let fault = c.in_err-next.field-0.0 in
    let object = c.in_ok-object_under.ensures.ok in
    meets_err (page_in c.args.base.now (view c.args.value.now)) c.from_residual-in_err-next.result fault c.from_residual-in_err-next.ensures.1
    (λ other. (Ok object.0, sym object.1, (Ok c.in_ok-name.name, c.in_ok-name.ensures, (Ok (items_view c.deref.result.now), items_seen _ _ _ c.deref.ensures.value c.in_ok-graph.ensures.ok, (Ok c.in_ok-list.list, c.in_ok-list.ensures, (Err fault, c.in_err-next.ensures.said other, refl))))))

pub returns-in_err-previous-clause-said : goal.returns-in_err-previous-clause-said
unfolding page_in
returns-in_err-previous-clause-said c =
    let fault = c.in_err-previous.field-0.0 in
    let object = c.in_ok-object_under.ensures.ok in
    meets_err (page_in c.args.base.now (view c.args.value.now)) c.from_residual-in_err-previous.result fault c.from_residual-in_err-previous.ensures.1
    (λ other. (Ok object.0, sym object.1, (Ok c.in_ok-name.name, c.in_ok-name.ensures, (Ok (items_view c.deref.result.now), items_seen _ _ _ c.deref.ensures.value c.in_ok-graph.ensures.ok, (Ok c.in_ok-list.list, c.in_ok-list.ensures, (Ok c.in_ok-next.next, c.in_ok-next.ensures.said, (Err fault, c.in_err-previous.ensures.said other, refl)))))))
