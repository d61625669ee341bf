-- Each stop adds all changes from it; a fault at one of them is one of all.
use Rattle.std.specs.List.Sorted.{IsSorted}
use Rattle.std.proofs.Common.{◌≡◌, ◌+◌, ◌≤◌, ◌++◌, List, length, refl, subst, sym, take}
use Rattle.lc_model.specs.declared.change.Change.{Change}
use Rattle.change_table.specs.ChangeRule.{given_seconds}
use Rattle.change_table.specs.Pairs.{changes_among, changes_to}
use Rattle.change_table.specs.Partners.{AreChildren, child_cmp}
use Rattle.change_table.specs.Rows.{AreSortedRows, row_cmp}
use Rattle.change_table.specs.declared.children.Child.{Child}
use Rattle.change_table.specs.declared.rows.Row.{Row}
use Rattle.change_table.proofs.PushLemmas.{among_front_is_less, among_more, cause_kept}
use Rattle.change_table.proofs.table.all_changes.Goals as goal

pub push_stop-requires-clause-rows : goal.push_stop-requires-clause-rows
push_stop-requires-clause-rows c =
    subst (λ (v : List Row). IsSorted row_cmp v) (sym c.as_slice.ensures.value) c.in_ok-rows.ensures.sorted

pub push_stop-requires-clause-children : goal.push_stop-requires-clause-children
push_stop-requires-clause-children c =
    subst (λ (v : List Child). AreChildren c.args.stops.now v) (sym c.as_slice-in-stops.ensures.value) c.in_ok-children.ensures.all

pub push_stop-requires-clause-by_parent : goal.push_stop-requires-clause-by_parent
push_stop-requires-clause-by_parent c =
    subst (λ (v : List Child). IsSorted child_cmp v) (sym c.as_slice-in-stops.ensures.value) c.in_ok-children.ensures.sorted

pub returns-in_err-push_stop-clause-fault : goal.returns-in_err-push_stop-clause-fault
returns-in_err-push_stop-clause-fault c =
    let given = given_seconds c.args.transfers.now c.args.default in
    let stops = c.args.stops.now in
    let stop = c.stop-item.result in
    let old = c.stops.changes.items in
    let rows : AreSortedRows c.args.transfers.now c.as_slice.result.now = subst (λ (v : List Row). AreSortedRows c.args.transfers.now v) (sym c.as_slice.ensures.value) c.in_ok-rows.ensures in
    let whole : old ++ changes_to (given stop) stop stops ≡ changes_among given (take (c.stops.stop-index + 1) stops) stops =
    among_more given stops stops c.stops.stop-index stop old _ c.stops-test.true c.stop-item.is c.stops.invariant.all refl in
    let le = subst (λ (v : List Change). length v ≤ length (changes_among given stops stops)) (sym whole) (among_front_is_less given stops stops (c.stops.stop-index + 1)) in
    cause_kept c.from_residual-in_err-push_stop.result c.in_err-push_stop.field-0.0 _ _ c.from_residual-in_err-push_stop.ensures.1 le (c.in_err-push_stop.ensures.fault c.args.transfers.now rows)

pub stops-preserved : goal.stops-preserved
stops-preserved c =
    let given = given_seconds c.args.transfers.now c.args.default in
    let stops = c.args.stops.now in
    let rows : AreSortedRows c.args.transfers.now c.as_slice.result.now = subst (λ (v : List Row). AreSortedRows c.args.transfers.now v) (sym c.as_slice.ensures.value) c.in_ok-rows.ensures in
    record {
      all = among_more given stops stops c.stops.stop-index c.stop-item.result c.stops.changes.items c.push_stop.new.changes.items c.stops-test.true c.stop-item.is c.stops.invariant.all
          (c.in_ok-push_stop.ensures.added c.args.transfers.now rows);
      room = c.in_ok-push_stop.ensures.room c.stops.invariant.room;
    }
