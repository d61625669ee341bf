use Rattle.lc_model.specs.declared.date.ServiceDate.{ServiceDate}
use Rattle.service_days.specs.Listing.{IsRegularOn}
use Rattle.service_days.proofs.GainLemmas.{Gains-all, Gains-more, Gains-none}
use Rattle.service_days.proofs.listing.push_regular.Goals as goal

pub loop-date-init : goal.loop-date-init
loop-date-init c = Gains-none (λ (date : ServiceDate). IsRegularOn c.args.removed.now c.args.row.now date) c.args.window.now _

pub loop-date-preserved : goal.loop-date-preserved
loop-date-preserved c =
    Gains-more (λ (date : ServiceDate). IsRegularOn c.args.removed.now c.args.row.now date) c.args.window.now c.loop-date.date-index c.date-item.result _ _ _ c.loop-date-test.true c.date-item.is c.loop-date.invariant c.in_ok-push_regular_on.ensures

pub returns : goal.returns
returns c =
    Gains-all (λ (date : ServiceDate). IsRegularOn c.args.removed.now c.args.row.now date) c.args.window.now c.loop-date.date-index _ _ c.loop-date-test.false c.loop-date.invariant
