use Rattle.std.proofs.Common.{◌∙◌, ◌++◌, List, ap, arith, map, take_all}
use Rattle.std.specs.List.{filter_map}
use Rattle.version_store.specs.Kept.{entity_said}
use Rattle.version_store.specs.Spots.{said_in}
use Rattle.version_store.specs.declared.spots.Spot.{Spot}
use Rattle.version_store.proofs.SpotsLemmas.{marks_found}
use Rattle.version_store.proofs.spots.push_all_spots.Goals as goal

pub spots-preserved : goal.spots-preserved
spots-preserved c =
    marks_found (said_in c.args.admitted.now) c.args.spots.now c.spots.spot-index c.spot-item.result _ _ _ c.spots-test.true c.spot-item.is c.spots.invariant c.in_ok-push_spot.ensures

pub returns : goal.returns
returns c =
    c.spots.invariant
    ∙ ap (λ (v : List Spot). map entity_said c.args.marks.now.items ++ filter_map (said_in c.args.admitted.now) v) (take_all c.spots.spot-index c.args.spots.now (omega arith))
