use Rattle.std.proofs.Common.{List, sym, subst}
use Rattle.std.specs.Prelude.{◌↔◌}
use Rattle.std.specs.List.{Contains}
use Rattle.service_days.specs.Days.{AreDays, IsRemoved}
use Rattle.service_days.specs.declared.service_day.ServiceDay.{ServiceDay}
use Rattle.service_days.proofs.ListedLemmas.{are_days}
use Rattle.service_days.proofs.dates.days.Goals as goal

pub returns : goal.returns
returns c =
    let taken = subst (λ (v : List ServiceDay). (d : ServiceDay) → Contains v d ↔ IsRemoved c.args.dates.now d.service d.date) (sym c.as_slice.ensures.value) c.in_ok-removed.ensures.all in
    subst (AreDays c.args.weekly.now c.args.dates.now c.args.first c.args.count) (sym c.from_list.ensures) (are_days c.as_slice.result.now c.args.weekly.now c.args.dates.now c.args.first c.args.count c.in_ok-list.list.items c.in_order.result.items taken c.in_ok-list.ensures c.in_order.ensures.same c.in_order.ensures.in_order)
