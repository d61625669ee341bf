use Rattle.std.proofs.Common.{map}
use Rattle.version_store.specs.Kept.{entity_said}
use Rattle.version_store.proofs.ForceLemmas.{filed_with}
use Rattle.version_store.proofs.force.patch_of.Goals as goal

pub returns : goal.returns
returns c = λ out entities are force at news takes.
    filed_with c.args.admitted.now out entities (map entity_said c.args.own.now) _ _ (c.in_ok-by_id.ensures out entities are force.by_id at takes) (c.in_ok-by_trip.ensures out entities are force.by_trip at takes) force.news news
