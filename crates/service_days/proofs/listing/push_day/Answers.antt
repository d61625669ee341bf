use Rattle.service_days.proofs.ListingLemmas.{kept_pushed, none_kept}
use Rattle.service_days.proofs.listing.push_day.Goals as goal

pub returns-in_ok-push : goal.returns-in_ok-push
returns-in_ok-push c =
    rw c.in_ok-push.ensures.items (kept_pushed c.args.removed.now c.args.service.now c.args.date c.args.days.now.items c.in_ok-service.service c.in_ok-service.ensures (λ h. let k = c.is_among.ensures.1 h in let l = c.if-not-is_among.true in cc))

pub returns-else-not-is_among : goal.returns-else-not-is_among
returns-else-not-is_among c =
    none_kept c.args.removed.now c.args.service.now c.args.date c.args.days.now.items c.in_ok-service.service c.in_ok-service.ensures (c.is_among.ensures.0 c.if-not-is_among.false)
