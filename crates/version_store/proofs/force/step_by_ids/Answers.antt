use Rattle.std.proofs.Common.{List, map, subst, sym}
use Rattle.version_store.specs.Filed.{TakesOut}
use Rattle.version_store.specs.Kept.{entity_said}
use Rattle.version_store.specs.declared.kept.Marked.{Marked}
use Rattle.version_store.proofs.ForceLemmas.{goes_over}
use Rattle.version_store.proofs.force.step_by_ids.Goals as goal

pub returns : goal.returns
returns c = λ out entities are force at news.
    let own = map entity_said c.args.own.now in
    let takes = c.in_ok-touched.ensures out entities are force.by_id in
    goes_over c.args.admitted.now c.args.force.now _ out entities own takes
    (c.in_ok-patch.ensures out entities are force at news (subst (λ (v : List Marked). TakesOut out entities (map entity_said v) own) (sym c.as_slice.ensures.value) takes))
