use Rattle.std.proofs.lemmas.Result.{err_from_is_err_and}
use Rattle.gtfs_tables.proofs.WalkLemmas.{part_ends, part_gives}
use Rattle.gtfs_tables.proofs.parts.feed_rest.Goals as goal

pub returns-in_err-services : goal.returns-in_err-services
returns-in_err-services g c = λ start timed far.
    let p = err_from_is_err_and c.from_residual.result c.from_residual.ensures.1 in
    part_ends c.in_err-services.was (c.feed_services.ensures start c.args.stops.now c.args.trips.now timed far) (let one = p.1 in let two = p.2 in cc)

pub returns-in_err-extras : goal.returns-in_err-extras
returns-in_err-extras g c = λ start timed far.
    let after = part_gives c.in_ok-services.was (c.feed_services.ensures start c.args.stops.now c.args.trips.now timed far) in
    let p = err_from_is_err_and c.from_residual-in_err-extras.result c.from_residual-in_err-extras.ensures.1 in
    part_ends c.in_err-extras.was (c.feed_extras.ensures start timed _ _ after) (let one = p.1 in let two = p.2 in cc)

pub returns : goal.returns
returns g c = λ start timed far.
    let after = part_gives c.in_ok-services.was (c.feed_services.ensures start c.args.stops.now c.args.trips.now timed far) in
    record { ends = part_gives c.in_ok-extras.was (c.feed_extras.ensures start timed _ _ after) }
