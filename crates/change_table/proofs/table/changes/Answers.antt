-- The list that is made is that of the changes, and as long as there are pairs.
use Rattle.std.proofs.Common.{◌∙◌, ap, length, refl, subst, arith}
use Rattle.lc_model.specs.Stop.{InStopOrder}
use Rattle.change_table.proofs.PushLemmas.{cause_kept}
use Rattle.change_table.proofs.TableLemmas.{between_is, made_are, made_count}
use Rattle.change_table.proofs.table.changes.Goals as goal

pub returns-in_err-list-clause-fault : goal.returns-in_err-list-clause-fault
returns-in_err-list-clause-fault c =
    let count = made_count c.args.stops.now c.as_slice.result.now c.args.transfers.now c.as_slice-2.result.now c.args.default c.as_slice.ensures.value c.as_slice.ensures.in_order c.as_slice-2.ensures in
    cause_kept c.from_residual.result c.in_err-list.field-0.0 _ _ c.from_residual.ensures.1 (omega (arith, count)) c.in_err-list.ensures.fault

pub from_list-requires : goal.from_list-requires
from_list-requires c =
    (made_are c.as_slice.result.now c.as_slice.result.now c.as_slice-2.result.now c.as_slice-2.result.now c.args.default c.in_ok-list.list.items c.in_ok-list.list.items refl c.as_slice.ensures.in_order refl c.in_ok-list.ensures.all refl).in_order

pub returns-clause-are : goal.returns-clause-are
returns-clause-are c =
    made_are c.args.stops.now c.as_slice.result.now c.args.transfers.now c.as_slice-2.result.now c.args.default c.in_ok-list.list.items c.in_ok-from_list.field-0
    c.as_slice.ensures.value c.as_slice.ensures.in_order c.as_slice-2.ensures c.in_ok-list.ensures.all c.in_ok-from_list.ensures

pub returns-clause-between : goal.returns-clause-between
returns-clause-between c =
    between_is c.args.stops.now c.args.transfers.now c.args.default c.in_ok-from_list.field-0 (subst InStopOrder c.as_slice.ensures.value c.as_slice.ensures.in_order)
    (made_are c.args.stops.now c.as_slice.result.now c.args.transfers.now c.as_slice-2.result.now c.args.default c.in_ok-list.list.items c.in_ok-from_list.field-0
    c.as_slice.ensures.value c.as_slice.ensures.in_order c.as_slice-2.ensures c.in_ok-list.ensures.all c.in_ok-from_list.ensures)

pub returns-clause-room : goal.returns-clause-room
returns-clause-room c =
    let count = made_count c.args.stops.now c.as_slice.result.now c.args.transfers.now c.as_slice-2.result.now c.args.default c.as_slice.ensures.value c.as_slice.ensures.in_order c.as_slice-2.ensures in
    let long = ap length c.in_ok-list.ensures.all ∙ count in
    omega (arith, long, c.in_ok-list.ensures.room)
