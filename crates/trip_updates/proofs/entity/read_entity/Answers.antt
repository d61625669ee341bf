use Rattle.std.proofs.Common.{refl}
use Rattle.std.proofs.lemmas.Result.{err_from_is_err_and}
use Rattle.trip_updates.specs.Table.{feed_entity}
use Rattle.trip_updates.specs.Faults.{read}
use Rattle.trip_updates.specs.Shows.{ShowsEntity, ShowsEntityFields}
use Rattle.trip_updates.proofs.WalkingLemmas.{starts, takes, breaks, no_more, read_deep, ends_tested, fails}
use Rattle.trip_updates.proofs.entity.read_entity.Goals as goal

pub loop-entity-init : goal.loop-entity-init
loop-entity-init c =
    starts ShowsEntityFields (read 2) feed_entity c.args.bytes.now c.args.from c.args.to _ _ c.requires.order (record { id = refl; deleted = refl; said = refl }) (read_deep 2 _ _ _)

pub returns-in_err-field : goal.returns-in_err-field
returns-in_err-field c =
    let p = err_from_is_err_and c.from_residual.result c.from_residual.ensures.1 in
    rw p.1 (breaks ShowsEntityFields ShowsEntity _ _ _ _ _ _ _ c.in_err-field.field-0.0 p.0 c.loop-entity.invariant c.in_err-field.ensures.parts p.2)

pub returns-in_err-entity : goal.returns-in_err-entity
returns-in_err-entity c =
    let p = err_from_is_err_and c.from_residual-in_err-entity.result c.from_residual-in_err-entity.ensures.1 in
    rw (p.1, p.2) (fails ShowsEntityFields ShowsEntity (read 2) feed_entity c.args.bytes.now c.args.to c.loop-entity.entity c.loop-entity.at _ c.in_ok-field.field-0 c.in-Some.field c.in_err-entity.field-0.0 c.loop-entity.invariant c.in-Some.is c.in_ok-field.ensures.parts
    (λ before shown. c.in_err-entity.ensures before shown))

pub loop-entity-preserved : goal.loop-entity-preserved
loop-entity-preserved c =
    takes ShowsEntityFields (read 2) feed_entity c.args.bytes.now c.args.to c.loop-entity.entity c.in_ok-entity.entity c.loop-entity.at _ c.in_ok-field.field-0 c.in-Some.field c.loop-entity.invariant c.in-Some.is c.in_ok-field.ensures.found c.in_ok-field.ensures.parts
    (λ before shown. c.in_ok-entity.ensures before shown)

pub returns : goal.returns
returns c =
    ends_tested ShowsEntityFields ShowsEntity (read 2) feed_entity c.args.bytes.now c.args.to c.loop-entity.entity c.whole.result c.loop-entity.at _ c.loop-entity.invariant
    (no_more _ _ _ c.in_ok-field.field-0 c.in_default.not-Some c.in_ok-field.ensures.parts) c.whole.ensures
