use Rattle.service_days.proofs.ListingLemmas.{added_by}
use Rattle.service_days.proofs.listing.push_added_by.Goals as goal

pub returns-in_ok-push_day : goal.returns-in_ok-push_day
returns-in_ok-push_day c =
    added_by c.args.removed.now c.args.first c.args.count c.args.row.now c.args.days.now.items c.push_day.new.days.items c.if-row.true (c.is_in_window.ensures.0 c.if-is_in_window.true) c.in_ok-push_day.ensures
