-- Each connection is read in its turn.
use Rattle.std.proofs.Common.{◌≤◌, ◌+◌, List, Ok, sym, subst}
use Rattle.std.proofs.lemmas.List.Elements.{All-nil, All-push}
use Rattle.lc_model.specs.Connection.{NoneArrivesEarly}
use Rattle.lc_model.specs.declared.connection.Connection.{Connection}
use Rattle.page_json.specs.ObjectMembers.View.{items_view}
use Rattle.page_json.specs.PageReading.{connection_in}
use Rattle.page_json.specs.ObjectMembers.Reading.{each_in}
use Rattle.page_json.proofs.ObjectMembersLemmas.EachLemmas.{AreReadTo, all_read, fault_read, nothing_read, one_more_read}
use Rattle.page_json.proofs.ObjectMembersLemmas.ReadingsLemmas.{meets_err}
use Rattle.page_json.proofs.connection_reading.connections_in.Goals as goal

pub loop-value-init : goal.loop-value-init
loop-value-init c =
    let inner = connection_in c.args.base.now in
    let P : List Connection → Type 0 = λ done. AreReadTo inner c.args.values.now 0 done × NoneArrivesEarly done in
    subst P (sym c.in_ok-connections.ensures.items) (nothing_read inner c.args.values.now, All-nil (λ (x : Connection). x.dep ≤ x.arr))

pub loop-value-preserved : goal.loop-value-preserved
loop-value-preserved c =
    let inner = connection_in c.args.base.now in
    let values = c.args.values.now in
    let place = c.loop-value.value-index in
    let done = c.loop-value.connections.items in
    let read = c.in_ok-connection_in.field-0 in
    let P : List Connection → Type 0 = λ done. AreReadTo inner values (place + 1) done × NoneArrivesEarly done in
    subst P (sym c.in_ok-push.ensures.items) (
      one_more_read inner values place c.value-item.result read done c.loop-value-test.true c.value-item.is c.loop-value.invariant.0 c.in_ok-connection_in.ensures.said,
      All-push (λ (x : Connection). x.dep ≤ x.arr) done read c.loop-value.invariant.1 c.in_ok-connection_in.ensures.forward,
    )

pub returns : goal.returns
returns c =
    let inner = connection_in c.args.base.now in
    let P : List Connection → Type 0 = λ done. each_in inner (items_view c.args.values.now) (Ok done) in
    subst P (sym c.from_list.ensures) (all_read inner c.args.values.now c.loop-value.value-index c.loop-value.connections.items c.loop-value-test.false c.loop-value.invariant.0)

pub returns-in_err-connection_in : goal.returns-in_err-connection_in
returns-in_err-connection_in c =
    let inner = connection_in c.args.base.now in
    let fault = c.in_err-connection_in.field-0.0 in
    meets_err (each_in inner (items_view c.args.values.now)) c.from_residual-in_err-connection_in.result fault c.from_residual-in_err-connection_in.ensures.1
    (λ other. fault_read inner c.args.values.now c.loop-value.value-index c.value-item.result fault c.loop-value.connections.items c.loop-value-test.true c.value-item.is c.loop-value.invariant.0 (c.in_err-connection_in.ensures.said other))
