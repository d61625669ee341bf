use Rattle.std.proofs.Common.{◌∙◌, ap, arith, filter, take_all}
use Rattle.version_store.specs.Filed.{stays_at}
use Rattle.version_store.proofs.FiledLemmas.{staying_more}
use Rattle.version_store.proofs.filed.staying.Goals as goal

pub spots-preserved : goal.spots-preserved
spots-preserved c = λ out are.
    staying_more (stays_at c.args.admitted.now out) c.args.spots.now c.spots.spot-index c.spot-item.result _ _ c.spots-test.true c.spot-item.is (c.spots.invariant out are) (c.in_ok-push_staying.ensures out are)

pub returns : goal.returns
returns c = λ out are. c.spots.invariant out are ∙ ap (filter (stays_at c.args.admitted.now out)) (take_all c.spots.spot-index c.args.spots.now (omega arith))
