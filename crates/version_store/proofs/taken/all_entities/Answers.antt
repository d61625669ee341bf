use Rattle.std.proofs.Common.{List, ◌++◌, ap, map, rules, ◌∙◌}
use Rattle.std.specs.List.{filter_map}
use Rattle.std.proofs.lemmas.Map.Iter.{rest_all, rest_more}
use Rattle.std.specs.Map.Iter.{deref_pair}
use Rattle.version_store.specs.Kept.{entity_said}
use Rattle.version_store.specs.Spots.{said_in}
use Rattle.version_store.specs.declared.spots.Spot.{Spot}
use Rattle.version_store.proofs.TakenLemmas.{all_go, more_go, none_go}
use Rattle.version_store.proofs.taken.all_entities.Goals as goal

pub loop-spots-init : goal.loop-spots-init
loop-spots-init c = λ by entities has. none_go by entities c.args.filed.now c.into_iter-spots-iterator.result (map entity_said c.new-gone.result.items) (search rules)

pub loop-spots-preserved : goal.loop-spots-preserved
loop-spots-preserved c = λ by entities has.
    let said_at = said_in c.args.admitted.now in
    more_go by c.args.admitted.now entities c.args.filed.now c.loop-spots.spots-iterator c.next.new.self _ c.in-Some.spots.now (map entity_said c.loop-spots.gone.items) (map entity_said c.push_all_spots.new.marks.items) has
    (rest_more deref_pair _ _ _ _ c.in-Some.is c.next.ensures.steps)
    (c.in_ok-push_all_spots.ensures ∙ ap (λ (v : List Spot). map entity_said c.loop-spots.gone.items ++ filter_map said_at v) c.as_slice.ensures)
    (c.loop-spots.invariant by entities has)

pub returns : goal.returns
returns c = λ by entities has.
    all_go by c.args.admitted.now entities c.args.filed.now c.loop-spots.spots-iterator (map entity_said c.loop-spots.gone.items) has (rest_all deref_pair _ _ _ c.in-None.is c.next.ensures.steps) (c.loop-spots.invariant by entities has)
