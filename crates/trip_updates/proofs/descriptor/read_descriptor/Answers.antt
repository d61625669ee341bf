use Rattle.std.proofs.Common.{refl}
use Rattle.std.proofs.lemmas.Result.{err_from_is_err_and}
use Rattle.trip_updates.specs.Table.{trip_descriptor}
use Rattle.trip_updates.specs.Faults.{read}
use Rattle.trip_updates.specs.Shows.{ShowsDescriptor}
use Rattle.trip_updates.proofs.WalkingLemmas.{starts, takes, breaks, no_more, read_deep, ends_whole}
use Rattle.trip_updates.proofs.descriptor.read_descriptor.Goals as goal

pub loop-field-init : goal.loop-field-init
loop-field-init c =
    starts ShowsDescriptor (read 0) trip_descriptor c.args.bytes.now c.args.from c.args.to _ _ c.requires.order (record { trip = refl; start_time = refl; start_date = refl; relationship = refl }) (read_deep 0 _ _ _)

pub returns-in_err-field : goal.returns-in_err-field
returns-in_err-field c =
    let p = err_from_is_err_and c.from_residual.result c.from_residual.ensures.1 in
    rw p.1 (breaks ShowsDescriptor ShowsDescriptor _ _ _ _ _ _ _ c.in_err-field.field-0.0 p.0 c.loop-field.invariant c.in_err-field.ensures.parts p.2)

pub loop-field-preserved : goal.loop-field-preserved
loop-field-preserved c =
    takes ShowsDescriptor (read 0) trip_descriptor c.args.bytes.now c.args.to c.loop-field.descriptor c.with_field-descriptor.result c.loop-field.at _ c.in_ok-field.field-0 c.in-Some.field c.loop-field.invariant c.in-Some.is c.in_ok-field.ensures.found c.in_ok-field.ensures.parts
    (λ before shown. c.with_field-descriptor.ensures (read 0) before shown)

pub returns : goal.returns
returns c =
    ends_whole ShowsDescriptor (read 0) trip_descriptor c.args.bytes.now c.args.to c.loop-field.descriptor c.loop-field.at _ c.loop-field.invariant
    (no_more _ _ _ c.in_ok-field.field-0 c.in_default.not-Some c.in_ok-field.ensures.parts) (λ tree. refl)
