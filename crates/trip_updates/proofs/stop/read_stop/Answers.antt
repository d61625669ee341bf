use Rattle.std.proofs.Common.{refl}
use Rattle.std.proofs.lemmas.Result.{err_from_is_err_and}
use Rattle.trip_updates.specs.Table.{stop_time_update}
use Rattle.trip_updates.specs.Faults.{read}
use Rattle.trip_updates.specs.Shows.{ShowsStop}
use Rattle.trip_updates.proofs.WalkingLemmas.{starts, takes, breaks, no_more, read_deep, ends_whole, fails}
use Rattle.trip_updates.proofs.stop.read_stop.Goals as goal

pub loop-field-init : goal.loop-field-init
loop-field-init c =
    starts ShowsStop (read 0) stop_time_update c.args.bytes.now c.args.from c.args.to _ _ c.requires.order (record { seq = refl; named = refl; relation = refl; arrival = refl; departure = refl }) (read_deep 0 _ _ _)

pub returns-in_err-field : goal.returns-in_err-field
returns-in_err-field c =
    let p = err_from_is_err_and c.from_residual.result c.from_residual.ensures.1 in
    rw p.1 (breaks ShowsStop ShowsStop _ _ _ _ _ _ _ c.in_err-field.field-0.0 p.0 c.loop-field.invariant c.in_err-field.ensures.parts p.2)

pub returns-in_err-stop : goal.returns-in_err-stop
returns-in_err-stop c =
    let p = err_from_is_err_and c.from_residual-in_err-stop.result c.from_residual-in_err-stop.ensures.1 in
    rw (p.1, p.2) (fails ShowsStop ShowsStop (read 0) stop_time_update c.args.bytes.now c.args.to c.loop-field.stop c.loop-field.at _ c.in_ok-field.field-0 c.in-Some.field c.in_err-stop.field-0.0 c.loop-field.invariant c.in-Some.is c.in_ok-field.ensures.parts
    (λ before shown. c.in_err-stop.ensures before shown))

pub loop-field-preserved : goal.loop-field-preserved
loop-field-preserved c =
    takes ShowsStop (read 0) stop_time_update c.args.bytes.now c.args.to c.loop-field.stop c.in_ok-stop.stop c.loop-field.at _ c.in_ok-field.field-0 c.in-Some.field c.loop-field.invariant c.in-Some.is c.in_ok-field.ensures.found c.in_ok-field.ensures.parts
    (λ before shown. c.in_ok-stop.ensures before shown)

pub returns : goal.returns
returns c =
    ends_whole ShowsStop (read 0) stop_time_update c.args.bytes.now c.args.to c.loop-field.stop c.loop-field.at _ c.loop-field.invariant
    (no_more _ _ _ c.in_ok-field.field-0 c.in_default.not-Some c.in_ok-field.ensures.parts) (λ tree. refl)
