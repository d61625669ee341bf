use Rattle.std.proofs.Common.{map, rules}
use Rattle.std.proofs.lemmas.Map.Iter.{rest_all, rest_more}
use Rattle.std.specs.Map.Iter.{deref}
use Rattle.version_store.specs.Kept.{entity_said}
use Rattle.version_store.proofs.TakenLemmas.{all_gone, more_gone, none_gone}
use Rattle.version_store.proofs.taken.entities_of_ids.Goals as goal

pub loop-id-init : goal.loop-id-init
loop-id-init c = λ out entities are has. none_gone out entities c.args.ids.now c.into_iter-id-iterator.result (map entity_said c.new-gone.result.items) are (search rules)

pub loop-id-preserved : goal.loop-id-preserved
loop-id-preserved c = λ out entities are has.
    more_gone out entities c.loop-id.id-iterator c.next.new.self c.in-Some.id.now (map entity_said c.loop-id.gone.items) (map entity_said c.push_entities_of_id.new.gone.items) (rest_more deref _ _ _ c.in-Some.id c.in-Some.is c.next.ensures.steps)
    (c.in_ok-push_entities_of_id.ensures entities has) (c.loop-id.invariant out entities are has)

pub returns : goal.returns
returns c = λ out entities are has.
    all_gone out entities c.loop-id.id-iterator (map entity_said c.loop-id.gone.items) (rest_all deref _ _ _ c.in-None.is c.next.ensures.steps) (c.loop-id.invariant out entities are has)
