use Rattle.std.proofs.Common.{take}
use Rattle.std.specs.List.{Any}
use Rattle.lc_model.specs.declared.date.ServiceDate.{ServiceDate}
use Rattle.service_days.specs.Listing.{Gains, IsRegularOn}
use Rattle.service_days.specs.declared.service_day.ServiceDay.{ServiceDay}
use Rattle.service_days.proofs.listing.push_regular.Given as goal

abbrev pub invariant-loop-date : goal.invariant-loop-date
invariant-loop-date l = Gains (λ (d : ServiceDay). Any (λ (date : ServiceDate). IsRegularOn l.removed l.row date d) (take l.date-index l.window)) l.initial.days.items l.days.items
