use Rattle.std.proofs.Common.{subst, sym}
use Rattle.std.specs.Ordering.{on}
use Rattle.std.specs.declared.cmp.Ordering.TheVariants.{Less}
use Rattle.std.proofs.Common.{◌≡◌}
use Rattle.std.proofs.lemmas.List.Kept.{AllPairs-filter}
use Rattle.lc_model.specs.Change.{is_same_id}
use Rattle.lc_model.specs.RunKey.{date_cmp}
use Rattle.lc_model.proofs.RangesLemmas.{sorted_by_key}
use Rattle.service_days.specs.Days.{InDayOrder, day_cmp}
use Rattle.service_days.specs.declared.service_day.ServiceDay.{ServiceDay}
use Rattle.trip_calls.proofs.trip_runs.dates_of.Goals as goal

pub items_of-requires : goal.items_of-requires
items_of-requires c = sorted_by_key (λ (d : ServiceDay). d.service) (on (λ (d : ServiceDay). d.date) date_cmp) c.as_slice.result.now c.as_slice.ensures.in_order

pub returns-clause-in_order : goal.returns-clause-in_order
returns-clause-in_order c =
    subst InDayOrder (sym c.items_of.ensures) (AllPairs-filter (λ (x y : ServiceDay). day_cmp x y ≡ Less) (λ (d : ServiceDay). is_same_id d.service c.args.service.now) c.as_slice.result.now c.as_slice.ensures.in_order)
