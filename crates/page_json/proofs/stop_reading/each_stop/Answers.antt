-- Each item is read in its turn.
use Rattle.std.proofs.Common.{◌+◌, List, Err, sym, subst}
use Rattle.lc_model.specs.declared.stop.Stop.{Stop}
use Rattle.page_json.specs.ObjectMembers.View.{items_view}
use Rattle.page_json.specs.StopsReading.{stop_in}
use Rattle.page_json.specs.ObjectMembers.Reading.{each_in}
use Rattle.page_json.proofs.ObjectMembersLemmas.EachLemmas.{AreReadTo, all_read, fault_read, nothing_read, one_more_read}
use Rattle.page_json.proofs.ObjectMembersLemmas.ReadingsLemmas.{err_handed_on}
use Rattle.page_json.proofs.stop_reading.each_stop.Goals as goal

pub loop-value-init : goal.loop-value-init
loop-value-init c =
    let inner = stop_in in
    let values = c.args.values.now in
    let P : List Stop → Type 0 = λ done. AreReadTo inner values 0 done in
    subst P (sym c.in_ok-stops.ensures.items) (nothing_read inner values)

pub loop-value-preserved : goal.loop-value-preserved
loop-value-preserved c =
    let inner = stop_in in
    let values = c.args.values.now in
    let place = c.loop-value.value-index in
    let done = c.loop-value.stops.items in
    let read = c.in_ok-stop_in.field-0 in
    let P : List Stop → Type 0 = λ done. AreReadTo inner values (place + 1) done in
    subst P (sym c.in_ok-push.ensures.items)
    (one_more_read inner values place c.value-item.result read done c.loop-value-test.true c.value-item.is c.loop-value.invariant c.in_ok-stop_in.ensures)

pub returns-clause-ok : goal.returns-clause-ok
returns-clause-ok c =
    all_read (stop_in) c.args.values.now c.loop-value.value-index c.loop-value.stops.items c.loop-value-test.false c.loop-value.invariant

pub returns-in_err-stop_in-clause-err : goal.returns-in_err-stop_in-clause-err
returns-in_err-stop_in-clause-err c =
    let inner = stop_in in
    let fault = c.in_err-stop_in.field-0.0 in
    err_handed_on (λ y. each_in inner (items_view c.args.values.now) (Err y)) c.from_residual-in_err-stop_in.result fault c.from_residual-in_err-stop_in.ensures.1
    (λ other. fault_read inner c.args.values.now c.loop-value.value-index c.value-item.result fault c.loop-value.stops.items c.loop-value-test.true c.value-item.is c.loop-value.invariant (c.in_err-stop_in.ensures other))
