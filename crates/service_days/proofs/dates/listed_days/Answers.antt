use Rattle.std.proofs.Common.{List, sym, subst}
use Rattle.std.specs.Prelude.{◌↔◌}
use Rattle.std.specs.List.{Any, Contains}
use Rattle.lc_model.specs.declared.date.ServiceDate.{ServiceDate}
use Rattle.gtfs_tables.specs.declared.calendars.calendar.Weekly.{Weekly}
use Rattle.service_days.specs.Days.{IsInWindow}
use Rattle.service_days.specs.Listing.{Gains, IsRegularBy}
use Rattle.service_days.specs.declared.service_day.ServiceDay.{ServiceDay}
use Rattle.service_days.proofs.ListedLemmas.{all_listed}
use Rattle.service_days.proofs.dates.listed_days.Goals as goal

pub returns : goal.returns
returns c =
    let window = c.as_slice.result.now in
    let are = subst (λ (v : List ServiceDate). (date : ServiceDate) → Contains v date ↔ IsInWindow c.args.first c.args.count date) (sym c.as_slice.ensures.value) c.in_ok-window.ensures in
    let regular = subst (λ (v : List ServiceDay). Gains (λ (d : ServiceDay). Any (λ (row : Weekly). IsRegularBy c.args.removed.now window row d) c.args.weekly.now) v c.push_all_regular.new.days.items) c.new-days.ensures.items c.in_ok-push_all_regular.ensures in
    all_listed c.args.removed.now c.args.weekly.now c.args.dates.now c.args.first c.args.count window are c.push_all_regular.new.days.items c.push_all_added.new.days.items regular c.in_ok-push_all_added.ensures
