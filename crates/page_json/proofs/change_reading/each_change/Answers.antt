-- Each item is read in its turn.
use Rattle.std.proofs.Common.{◌+◌, List, Err, sym, subst}
use Rattle.std.specs.List.{All}
use Rattle.std.proofs.lemmas.List.Elements.{All-nil, All-push}
use Rattle.lc_model.specs.Stop.{HasStop}
use Rattle.lc_model.specs.declared.change.Change.{Change}
use Rattle.page_json.specs.ObjectMembers.View.{items_view}
use Rattle.page_json.specs.StopsReading.{change_in}
use Rattle.page_json.specs.ObjectMembers.Reading.{each_in}
use Rattle.page_json.proofs.ObjectMembersLemmas.EachLemmas.{AreReadTo, all_read, fault_read, nothing_read, one_more_read}
use Rattle.page_json.proofs.ObjectMembersLemmas.ReadingsLemmas.{err_handed_on}
use Rattle.page_json.proofs.change_reading.each_change.Goals as goal

pub loop-value-init : goal.loop-value-init
loop-value-init c =
    let inner = change_in c.args.stops.now in
    let values = c.args.values.now in
    let stops = c.args.stops.now in
    let P : List Change → Type 0 = λ done. AreReadTo inner values 0 done × All (λ (c : Change). HasStop stops c.from) done × All (λ (c : Change). HasStop stops c.to) done in
    subst P (sym c.in_ok-changes.ensures.items) (nothing_read inner values, All-nil (λ (c : Change). HasStop stops c.from), All-nil (λ (c : Change). HasStop stops c.to))

pub loop-value-preserved : goal.loop-value-preserved
loop-value-preserved c =
    let inner = change_in c.args.stops.now in
    let values = c.args.values.now in
    let stops = c.args.stops.now in
    let place = c.loop-value.value-index in
    let done = c.loop-value.changes.items in
    let read = c.in_ok-change_in.field-0 in
    let P : List Change → Type 0 = λ done. AreReadTo inner values (place + 1) done × All (λ (c : Change). HasStop stops c.from) done × All (λ (c : Change). HasStop stops c.to) done in
    subst P (sym c.in_ok-push.ensures.items) (
      one_more_read inner values place c.value-item.result read done c.loop-value-test.true c.value-item.is c.loop-value.invariant.0 c.in_ok-change_in.ensures.said,
      All-push (λ (c : Change). HasStop stops c.from) done read c.loop-value.invariant.1 c.in_ok-change_in.ensures.from,
      All-push (λ (c : Change). HasStop stops c.to) done read c.loop-value.invariant.2 c.in_ok-change_in.ensures.to,
    )

pub returns-clause-ok : goal.returns-clause-ok
returns-clause-ok c =
    all_read (change_in c.args.stops.now) c.args.values.now c.loop-value.value-index c.loop-value.changes.items c.loop-value-test.false c.loop-value.invariant.0

pub returns-in_err-change_in-clause-err : goal.returns-in_err-change_in-clause-err
returns-in_err-change_in-clause-err c =
    let inner = change_in c.args.stops.now in
    let fault = c.in_err-change_in.field-0.0 in
    err_handed_on (λ y. each_in inner (items_view c.args.values.now) (Err y)) c.from_residual-in_err-change_in.result fault c.from_residual-in_err-change_in.ensures.1
    (λ other. fault_read inner c.args.values.now c.loop-value.value-index c.value-item.result fault c.loop-value.changes.items c.loop-value-test.true c.value-item.is c.loop-value.invariant.0 (c.in_err-change_in.ensures.said other))
