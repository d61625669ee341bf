use Rattle.std.proofs.Common.{take}
use Rattle.std.specs.List.{Any}
use Rattle.gtfs_tables.specs.declared.calendars.calendar.Weekly.{Weekly}
use Rattle.service_days.specs.Listing.{Gains, IsRegularBy}
use Rattle.service_days.specs.declared.service_day.ServiceDay.{ServiceDay}
use Rattle.service_days.proofs.listing.push_all_regular.Given as goal

abbrev pub invariant-loop-row : goal.invariant-loop-row
invariant-loop-row l = Gains (λ (d : ServiceDay). Any (λ (row : Weekly). IsRegularBy l.removed l.window row d) (take l.row-index l.weekly)) l.initial.days.items l.days.items
