use Rattle.std.proofs.Common.{refl}
use Rattle.std.proofs.lemmas.Result.{err_from_is_err_and}
use Rattle.trip_updates.specs.Table.{feed_header}
use Rattle.trip_updates.specs.Faults.{read}
use Rattle.trip_updates.specs.Shows.{ShowsHeader, ShowsHead}
use Rattle.trip_updates.proofs.WalkingLemmas.{starts, takes, breaks, no_more, read_deep, ends_tested}
use Rattle.trip_updates.proofs.header.read_header.Goals as goal

pub loop-field-init : goal.loop-field-init
loop-field-init c =
    starts ShowsHeader (read 2) feed_header c.args.bytes.now c.args.from c.args.to _ _ c.requires.order refl (read_deep 2 _ _ _)

pub returns-in_err-field : goal.returns-in_err-field
returns-in_err-field c =
    let p = err_from_is_err_and c.from_residual.result c.from_residual.ensures.1 in
    rw p.1 (breaks ShowsHeader ShowsHead _ _ _ _ _ _ _ c.in_err-field.field-0.0 p.0 c.loop-field.invariant c.in_err-field.ensures.parts p.2)

pub loop-field-preserved : goal.loop-field-preserved
loop-field-preserved c =
    takes ShowsHeader (read 2) feed_header c.args.bytes.now c.args.to c.loop-field.header c.with_field-header.result c.loop-field.at _ c.in_ok-field.field-0 c.in-Some.field c.loop-field.invariant c.in-Some.is c.in_ok-field.ensures.found c.in_ok-field.ensures.parts
    (λ before shown. c.with_field-header.ensures c.args.bytes.now (read 2) before shown)

pub returns : goal.returns
returns c =
    ends_tested ShowsHeader ShowsHead (read 2) feed_header c.args.bytes.now c.args.to c.loop-field.header c.whole.result c.loop-field.at _ c.loop-field.invariant
    (no_more _ _ _ c.in_ok-field.field-0 c.in_default.not-Some c.in_ok-field.ensures.parts) c.whole.ensures
