use Rattle.std.proofs.lemmas.Result.{err_from_is_err_and}
use Rattle.trip_updates.specs.Table.{trip_update}
use Rattle.trip_updates.specs.Faults.{read}
use Rattle.trip_updates.specs.Shows.{ShowsSaid, ShowsTrip}
use Rattle.trip_updates.proofs.WalkingLemmas.{starts, takes, breaks, no_more, read_deep, ends_tested, fails}
use Rattle.trip_updates.proofs.trip.read_trip.Goals as goal

pub loop-trip-init : goal.loop-trip-init
loop-trip-init c =
    starts ShowsTrip (read 1) trip_update c.args.bytes.now c.args.from c.args.to _ _ c.requires.order (record { descriptor = tt; stops = c.new.ensures.items }) (read_deep 1 _ _ _)

pub returns-in_err-field : goal.returns-in_err-field
returns-in_err-field c =
    let p = err_from_is_err_and c.from_residual.result c.from_residual.ensures.1 in
    rw p.1 (breaks ShowsTrip ShowsSaid _ _ _ _ _ _ _ c.in_err-field.field-0.0 p.0 c.loop-trip.invariant c.in_err-field.ensures.parts p.2)

pub returns-in_err-trip : goal.returns-in_err-trip
returns-in_err-trip c =
    let p = err_from_is_err_and c.from_residual-in_err-trip.result c.from_residual-in_err-trip.ensures.1 in
    rw (p.1, p.2) (fails ShowsTrip ShowsSaid (read 1) trip_update c.args.bytes.now c.args.to c.loop-trip.trip c.loop-trip.at _ c.in_ok-field.field-0 c.in-Some.field c.in_err-trip.field-0.0 c.loop-trip.invariant c.in-Some.is c.in_ok-field.ensures.parts
    (λ before shown. c.in_err-trip.ensures before shown))

pub loop-trip-preserved : goal.loop-trip-preserved
loop-trip-preserved c =
    takes ShowsTrip (read 1) trip_update c.args.bytes.now c.args.to c.loop-trip.trip c.in_ok-trip.trip c.loop-trip.at _ c.in_ok-field.field-0 c.in-Some.field c.loop-trip.invariant c.in-Some.is c.in_ok-field.ensures.found c.in_ok-field.ensures.parts
    (λ before shown. c.in_ok-trip.ensures before shown)

pub returns : goal.returns
returns c =
    ends_tested ShowsTrip ShowsSaid (read 1) trip_update c.args.bytes.now c.args.to c.loop-trip.trip c.whole.result c.loop-trip.at _ c.loop-trip.invariant
    (no_more _ _ _ c.in_ok-field.field-0 c.in_default.not-Some c.in_ok-field.ensures.parts) c.whole.ensures
