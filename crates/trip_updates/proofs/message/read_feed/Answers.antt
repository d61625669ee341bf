use Rattle.std.proofs.Common.{refl}
use Rattle.std.proofs.lemmas.Result.{err_from_is_err_and}
use Rattle.trip_updates.specs.Table.{feed_message}
use Rattle.trip_updates.specs.Faults.{read}
use Rattle.trip_updates.specs.Shows.{ShowsFeed, ShowsUpdate}
use Rattle.trip_updates.proofs.WalkingLemmas.{starts, takes, breaks, no_more, read_deep, ends_tested, fails}
use Rattle.trip_updates.proofs.message.read_feed.Goals as goal

pub loop-feed-init : goal.loop-feed-init
loop-feed-init c =
    starts ShowsFeed (read 3) feed_message c.args.bytes.now c.args.from c.args.to _ _ c.requires.order (record { head = refl; entities = c.new.ensures.items }) (read_deep 3 _ _ _)

pub returns-in_err-field : goal.returns-in_err-field
returns-in_err-field c =
    let p = err_from_is_err_and c.from_residual.result c.from_residual.ensures.1 in
    rw p.1 (breaks ShowsFeed ShowsUpdate _ _ _ _ _ _ _ c.in_err-field.field-0.0 p.0 c.loop-feed.invariant c.in_err-field.ensures.parts p.2)

pub returns-in_err-feed : goal.returns-in_err-feed
returns-in_err-feed c =
    let p = err_from_is_err_and c.from_residual-in_err-feed.result c.from_residual-in_err-feed.ensures.1 in
    rw (p.1, p.2) (fails ShowsFeed ShowsUpdate (read 3) feed_message c.args.bytes.now c.args.to c.loop-feed.feed c.loop-feed.at _ c.in_ok-field.field-0 c.in-Some.field c.in_err-feed.field-0.0 c.loop-feed.invariant c.in-Some.is c.in_ok-field.ensures.parts
    (λ before shown. c.in_err-feed.ensures before shown))

pub loop-feed-preserved : goal.loop-feed-preserved
loop-feed-preserved c =
    takes ShowsFeed (read 3) feed_message c.args.bytes.now c.args.to c.loop-feed.feed c.in_ok-feed.feed c.loop-feed.at _ c.in_ok-field.field-0 c.in-Some.field c.loop-feed.invariant c.in-Some.is c.in_ok-field.ensures.found c.in_ok-field.ensures.parts
    (λ before shown. c.in_ok-feed.ensures before shown)

pub returns : goal.returns
returns c =
    ends_tested ShowsFeed ShowsUpdate (read 3) feed_message c.args.bytes.now c.args.to c.loop-feed.feed c.whole.result c.loop-feed.at _ c.loop-feed.invariant
    (no_more _ _ _ c.in_ok-field.field-0 c.in_default.not-Some c.in_ok-field.ensures.parts) c.whole.ensures
