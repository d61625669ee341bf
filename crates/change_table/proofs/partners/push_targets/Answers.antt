use Rattle.change_table.proofs.PartnerLemmas.{Gains-all, Gains-more}
use Rattle.change_table.proofs.partners.push_targets.Goals as goal

pub loop-row-preserved : goal.loop-row-preserved
loop-row-preserved c =
    Gains-more c.args.stops.now c.args.rows.now c.loop-row.row-index c.row-item.result c.args.places.now.items c.loop-row.places.items c.push_named.new.places.items
    c.loop-row-test.true c.row-item.is c.loop-row.invariant c.in_ok-push_named.ensures

pub returns : goal.returns
returns c =
    Gains-all c.args.stops.now c.args.rows.now c.loop-row.row-index c.args.places.now.items c.loop-row.places.items c.loop-row-test.false c.loop-row.invariant
