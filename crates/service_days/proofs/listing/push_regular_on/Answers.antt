use Rattle.service_days.proofs.ListingLemmas.{regular_on}
use Rattle.service_days.proofs.listing.push_regular_on.Goals as goal

pub returns-in_ok-push_day : goal.returns-in_ok-push_day
returns-in_ok-push_day c =
    regular_on c.args.removed.now c.args.row.now c.args.date c.args.days.now.items c.push_day.new.days.items (c.runs_weekly.ensures.0 c.if-runs_weekly.true) c.in_ok-push_day.ensures
