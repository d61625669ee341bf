use Rattle.std.proofs.Common.{[], List, subst, sym, rules}
use Rattle.std.specs.List.{Any}
use Rattle.gtfs_tables.specs.declared.calendars.calendar_dates.DateRow.{DateRow}
use Rattle.lc_model.proofs.OrdersLemmas.{IsSorted-from_closure}
use Rattle.service_days.specs.Days.{day_cmp}
use Rattle.service_days.specs.Listing.{Gains, IsRemovedBy}
use Rattle.service_days.specs.declared.service_day.ServiceDay.{ServiceDay}
use Rattle.service_days.proofs.GainLemmas.{Gains-all, Gains-from_empty, Gains-more, Gains-none}
use Rattle.service_days.proofs.ListingLemmas.{moved}
use Rattle.service_days.proofs.OrderLemmas.{day_cmp_total}
use Rattle.service_days.proofs.listing.removed_days.Goals as goal

pub loop-row-init : goal.loop-row-init
loop-row-init c =
    subst (λ (v : List ServiceDay). Gains (λ (d : ServiceDay). Any (λ (row : DateRow). IsRemovedBy row d) []) [] v) (sym c.new-days.ensures.items) (Gains-none (λ (row : DateRow). IsRemovedBy row) c.args.dates.now [])

pub loop-row-preserved : goal.loop-row-preserved
loop-row-preserved c =
    Gains-more (λ (row : DateRow). IsRemovedBy row) c.args.dates.now c.loop-row.row-index c.row-item.result _ _ _ c.loop-row-test.true c.row-item.is c.loop-row.invariant c.in_ok-push_removed_by.ensures

pub returns-clause-all : goal.returns-clause-all
returns-clause-all c =
    let gains = Gains-all (λ (row : DateRow). IsRemovedBy row) c.args.dates.now c.loop-row.row-index [] c.loop-row.days.items c.loop-row-test.false c.loop-row.invariant in
    moved (λ (d : ServiceDay). Any (λ (row : DateRow). IsRemovedBy row d) c.args.dates.now) c.loop-row.days.items _ (Gains-from_empty (λ (d : ServiceDay). Any (λ (row : DateRow). IsRemovedBy row d) c.args.dates.now) c.loop-row.days.items gains) c.sort_unstable_by.ensures.permutation

pub returns-clause-sorted : goal.returns-clause-sorted
returns-clause-sorted c =
    IsSorted-from_closure day_cmp day_cmp_total _ c.sort_unstable_by.ensures.sorted (λ f a r f' k. search rules)
