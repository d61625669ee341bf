-- Each place adds its change; a fault at one of them is one of all.
use Rattle.std.proofs.Common.{◌+◌, ◌≤◌, ◌++◌, length, get_or, refl, sym, subst}
use Rattle.lc_model.specs.declared.change.Change.{Change}
use Rattle.std.proofs.Common.{List}
use Rattle.change_table.specs.Pairs.{changes_to}
use Rattle.change_table.specs.Partners.{stops_at}
use Rattle.change_table.specs.Rows.{seconds_by}
use Rattle.change_table.proofs.PushLemmas.{cause_kept, changes_more, front_is_less}
use Rattle.change_table.proofs.table.push_changes.Goals as goal

pub returns-in_err-push_change-clause-fault : goal.returns-in_err-push_change-clause-fault
returns-in_err-push_change-clause-fault c =
    let origin = c.args.origin.now in
    let seconds = seconds_by origin.own.now origin.of_parent.now c.args.default origin.stop.now in
    let old = c.args.changes.now.items in
    let whole = changes_more seconds origin.stop.now c.args.stops.now c.args.places.now c.places.place-index (get_or c.args.places.now c.places.place-index 0)
    old c.places.changes.items _ c.index-stops-place.result c.seconds_by-seconds.result
    c.places-test.true refl c.index-stops-place.is (c.requires.within c.places.place-index 0 c.places-test.true) c.seconds_by-seconds.ensures c.places.invariant.added refl in
    let le = subst (λ (v : List Change). length v ≤ length (old ++ changes_to seconds origin.stop.now (stops_at c.args.stops.now origin.stop.now c.args.places.now))) (sym whole)
    (front_is_less seconds origin.stop.now c.args.stops.now c.args.places.now (c.places.place-index + 1) old) in
    cause_kept c.from_residual.result c.in_err-push_change.field-0.0 _ _ c.from_residual.ensures.1 le c.in_err-push_change.ensures.fault

pub places-preserved : goal.places-preserved
places-preserved c =
    let origin = c.args.origin.now in
    record {
      added =
          changes_more (seconds_by origin.own.now origin.of_parent.now c.args.default origin.stop.now) origin.stop.now c.args.stops.now c.args.places.now c.places.place-index (get_or c.args.places.now c.places.place-index 0)
          c.args.changes.now.items c.places.changes.items c.push_change.new.changes.items c.index-stops-place.result c.seconds_by-seconds.result
          c.places-test.true refl c.index-stops-place.is (c.requires.within c.places.place-index 0 c.places-test.true) c.seconds_by-seconds.ensures c.places.invariant.added c.in_ok-push_change.ensures.added;
      room = λ fits. c.in_ok-push_change.ensures.room (c.places.invariant.room fits);
    }
