use Rattle.std.proofs.Common.{take, []}
use Rattle.std.specs.List.{Any}
use Rattle.gtfs_tables.specs.declared.calendars.calendar_dates.DateRow.{DateRow}
use Rattle.service_days.specs.Listing.{Gains, IsRemovedBy}
use Rattle.service_days.specs.declared.service_day.ServiceDay.{ServiceDay}
use Rattle.service_days.proofs.listing.removed_days.Given as goal

abbrev pub invariant-loop-row : goal.invariant-loop-row
invariant-loop-row l = Gains (λ (d : ServiceDay). Any (λ (row : DateRow). IsRemovedBy row d) (take l.row-index l.dates)) [] l.days.items
