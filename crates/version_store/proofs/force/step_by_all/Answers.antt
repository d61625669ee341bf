use Rattle.std.proofs.Common.{map}
use Rattle.version_store.specs.Kept.{entity_said}
use Rattle.version_store.specs.declared.filed.By.TheVariants.{Trip}
use Rattle.version_store.proofs.ForceLemmas.{goes_whole}
use Rattle.version_store.proofs.force.step_by_all.Goals as goal

pub returns : goal.returns
returns c = λ entities force at news.
    goes_whole c.args.admitted.now _ entities (map entity_said c.args.own.now) (c.in_ok-touched.ensures Trip entities force.by_trip) (c.in_ok-patch.ensures at news)
