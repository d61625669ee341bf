use Rattle.std.proofs.lemmas.Result.{err_from_is_err_and}
use Rattle.gtfs_tables.proofs.FeedWalkLemmas.{of_calendar, of_dates_file}
use Rattle.gtfs_tables.proofs.WalkLemmas.{next, part_stop}
use Rattle.gtfs_tables.proofs.parts.feed_services.Goals as goal

pub returns-in_err-weekly : goal.returns-in_err-weekly
returns-in_err-weekly g c = λ start stops trips timed far.
    let p = err_from_is_err_and c.from_residual.result c.from_residual.ensures.1 in
    part_stop (of_calendar stops trips timed) far c.in_err-weekly.was c.feed_weekly.ensures (let one = p.1 in let two = p.2 in cc)

pub returns-in_err-dates : goal.returns-in_err-dates
returns-in_err-dates g c = λ start stops trips timed far.
    let after = next (of_calendar stops trips timed) far c.in_ok-weekly.was c.feed_weekly.ensures in
    let p = err_from_is_err_and c.from_residual-in_err-dates.result c.from_residual-in_err-dates.ensures.1 in
    part_stop (of_dates_file stops trips timed _ _ c.is_some.ensures) after c.in_err-dates.was c.feed_dates.ensures (let one = p.1 in let two = p.2 in cc)

pub returns : goal.returns
returns g c = λ start stops trips timed far.
    let after = next (of_calendar stops trips timed) far c.in_ok-weekly.was c.feed_weekly.ensures in
    record { ends = next (of_dates_file stops trips timed _ _ c.is_some.ensures) after c.in_ok-dates.was c.feed_dates.ensures }
