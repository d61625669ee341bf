use Rattle.std.proofs.Common.{Ok, refl}
use Rattle.std.proofs.lemmas.Result.{err_from_is_err_and}
use Rattle.trip_updates.specs.Tree.{empty}
use Rattle.trip_updates.specs.Table.{stop_time_event}
use Rattle.trip_updates.specs.Shows.{ShowsEvent}
use Rattle.trip_updates.proofs.WalkingLemmas.{starts, takes, breaks, ends_whole, no_more, read_flat}
use Rattle.trip_updates.proofs.event.read_event.Goals as goal

pub loop-field-init : goal.loop-field-init
loop-field-init c =
    starts ShowsEvent (λ _ _ _. Ok empty) stop_time_event c.args.bytes.now c.args.from c.args.to _ _ c.requires.order refl (read_flat _ _ _)

pub returns-in_err-field : goal.returns-in_err-field
returns-in_err-field c =
    let p = err_from_is_err_and c.from_residual.result c.from_residual.ensures.1 in
    rw p.1 (breaks ShowsEvent ShowsEvent _ _ _ _ _ _ _ c.in_err-field.field-0.0 p.0 c.loop-field.invariant c.in_err-field.ensures.parts p.2)

pub loop-field-preserved : goal.loop-field-preserved
loop-field-preserved c =
    takes ShowsEvent (λ _ _ _. Ok empty) stop_time_event c.args.bytes.now c.args.to c.loop-field.event c.with_field-event.result c.loop-field.at _ c.in_ok-field.field-0 c.in-Some.field c.loop-field.invariant c.in-Some.is c.in_ok-field.ensures.found c.in_ok-field.ensures.parts
    (λ before shown. c.with_field-event.ensures c.args.bytes.now (λ _ _ _. Ok empty) before shown)

pub returns : goal.returns
returns c =
    ends_whole ShowsEvent (λ _ _ _. Ok empty) stop_time_event c.args.bytes.now c.args.to c.loop-field.event c.loop-field.at _ c.loop-field.invariant
    (no_more _ _ _ c.in_ok-field.field-0 c.in_default.not-Some c.in_ok-field.ensures.parts) (λ tree. refl)
