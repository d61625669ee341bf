-- The changes to the partners of a stop are all changes from it.
use Rattle.std.specs.List.{All}
use Rattle.std.proofs.Common.{◌≡◌, ◌<◌, ◌++◌, ℕ, IfErr, List, OnOk, Some, length, refl, subst, sym}
use Rattle.lc_model.specs.declared.change.Change.{Change}
use Rattle.change_table.specs.ChangeTable.{HasCause}
use Rattle.change_table.specs.Partners.{named_ids}
use Rattle.change_table.proofs.NamedLemmas.{made_there, named_within, origin_sorted}
use Rattle.change_table.proofs.table.push_stop.Goals as goal

pub push_changes-requires-clause-own : goal.push_changes-requires-clause-own
push_changes-requires-clause-own c = origin_sorted c.args.rows.now _ (Some c.args.stop.now.id) c.requires.rows c.origin_at-origin.ensures.own

pub push_changes-requires-clause-of_parent : goal.push_changes-requires-clause-of_parent
push_changes-requires-clause-of_parent c = origin_sorted c.args.rows.now _ c.args.stop.now.parent c.requires.rows c.origin_at-origin.ensures.of_parent

pub push_changes-requires-clause-within : goal.push_changes-requires-clause-within
push_changes-requires-clause-within c =
    let origin = c.origin_at-origin.result in
    subst (λ (v : List ℕ). All (λ (place : ℕ). place < length c.args.stops.now) v) (sym c.as_slice.ensures.value)
    (named_within c.args.stops.now (named_ids origin.stop.now origin.own.now origin.of_parent.now) c.in_ok-places.places.items c.in_ok-places.ensures.all)

pub returns-clause-added : goal.returns-clause-added
returns-clause-added c = λ transfers sorted.
    let origin = c.origin_at-origin.result in
    let old = c.args.changes.now.items in
    let made = made_there transfers c.args.rows.now c.args.rows.now origin.own.now origin.of_parent.now c.args.stops.now c.args.default c.args.stop.now origin.stop.now c.in_ok-places.places.items c.as_slice.result.now
    sorted c.requires.in_order refl c.origin_at-origin.ensures.own c.origin_at-origin.ensures.of_parent c.origin_at-origin.ensures.stop c.as_slice.ensures.value c.in_ok-places.ensures.all c.in_ok-places.ensures.rising in
    subst (λ (v : List Change). OnOk c.push_changes.result (c.push_changes.new.changes.items ≡ old ++ v)) made c.push_changes.ensures.added

pub returns-clause-fault : goal.returns-clause-fault
returns-clause-fault c = λ transfers sorted.
    let origin = c.origin_at-origin.result in
    let old = c.args.changes.now.items in
    let made = made_there transfers c.args.rows.now c.args.rows.now origin.own.now origin.of_parent.now c.args.stops.now c.args.default c.args.stop.now origin.stop.now c.in_ok-places.places.items c.as_slice.result.now
    sorted c.requires.in_order refl c.origin_at-origin.ensures.own c.origin_at-origin.ensures.of_parent c.origin_at-origin.ensures.stop c.as_slice.ensures.value c.in_ok-places.ensures.all c.in_ok-places.ensures.rising in
    subst (λ (v : List Change). IfErr c.push_changes.result (λ fault. HasCause fault (length (old ++ v)))) made c.push_changes.ensures.fault
