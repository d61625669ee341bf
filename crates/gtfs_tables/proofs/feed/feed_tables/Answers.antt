use Rattle.std.proofs.Common.{refl}
use Rattle.std.proofs.lemmas.Result.{err_from_is_err_and}
use Rattle.gtfs_tables.proofs.FeedWalkLemmas.{all_read}
use Rattle.gtfs_tables.proofs.WalkLemmas.{part_gives, walk_ends}
use Rattle.gtfs_tables.proofs.feed.feed_tables.Goals as goal

pub returns-in_err-rides : goal.returns-in_err-rides
returns-in_err-rides g c =
    let p = err_from_is_err_and c.from_residual.result c.from_residual.ensures.1 in
    walk_ends c.in_err-rides.was c.feed_rides.ensures (let one = p.1 in let two = p.2 in cc)

pub returns-in_err-rest : goal.returns-in_err-rest
returns-in_err-rest g c =
    let rides = part_gives c.in_ok-rides.was c.feed_rides.ensures in
    let p = err_from_is_err_and c.from_residual-in_err-rest.result c.from_residual-in_err-rest.ensures.1 in
    walk_ends c.in_err-rest.was (c.feed_rest.ensures _ _ rides) (let one = p.1 in let two = p.2 in cc)

pub invariant_of-result : goal.invariant_of-result
invariant_of-result g c =
    let rides = part_gives c.in_ok-rides.was c.feed_rides.ensures in
    record { parents_known = ∣ rides.knows.0.0.parents ∣₁ }

pub returns : goal.returns
returns g c =
    let rides = part_gives c.in_ok-rides.was c.feed_rides.ensures in
    let far = part_gives c.in_ok-rest.was (c.feed_rest.ensures _ _ rides) in
    all_read c.in_ok-rest.rest.services.weekly _ refl refl refl c.weekly_rows.ensures far
