use Rattle.gtfs_tables.specs.declared.calendars.calendar_dates.DateRow.{DateRow}
use Rattle.service_days.specs.Listing.{IsAddedBy}
use Rattle.service_days.proofs.GainLemmas.{Gains-all, Gains-more, Gains-none}
use Rattle.service_days.proofs.listing.push_all_added.Goals as goal

pub loop-row-init : goal.loop-row-init
loop-row-init c = Gains-none (λ (row : DateRow). IsAddedBy c.args.removed.now c.args.first c.args.count row) c.args.dates.now _

pub loop-row-preserved : goal.loop-row-preserved
loop-row-preserved c =
    Gains-more (λ (row : DateRow). IsAddedBy c.args.removed.now c.args.first c.args.count row) c.args.dates.now c.loop-row.row-index c.row-item.result _ _ _ c.loop-row-test.true c.row-item.is c.loop-row.invariant c.in_ok-push_added_by.ensures

pub returns : goal.returns
returns c =
    Gains-all (λ (row : DateRow). IsAddedBy c.args.removed.now c.args.first c.args.count row) c.args.dates.now c.loop-row.row-index _ _ c.loop-row-test.false c.loop-row.invariant
