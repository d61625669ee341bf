use Rattle.std.proofs.Common.{List, ◌++◌, ap, filter, ◌∙◌}
use Rattle.std.specs.List.{filter_map}
use Rattle.std.specs.BTreeMap.Range.{range_contains}
use Rattle.std.specs.declared.ops.Bound.{Bound}
use Rattle.std.specs.declared.ops.Bound.TheVariants.{Included}
use Rattle.std.proofs.lemmas.List.Elements.{filter_agree}
use Rattle.version_store.specs.Index.Places.{end_of, first_at, is_between, place_cmp, shown}
use Rattle.version_store.specs.declared.index.place.Place.{Place}
use Rattle.version_store.proofs.IndexLemmas.PlaceLemmas.{in_span}
use Rattle.version_store.proofs.index.rows.push_later.Goals as goal

pub loop-place-init : goal.loop-place-init
loop-place-init c =
    let keys = c.args.places.now.keys in
    let from = c.args.from in
    let to = c.args.to in
    let between = c.range-place-items.ensures.between tt in
    let first = ap (λ (p : Place). filter (range_contains place_cmp (Included p) c.end_of.result) keys) c.first_at.ensures in
    let last = ap (λ (b : Bound Place). filter (range_contains place_cmp (Included (first_at from)) b) keys) c.end_of.ensures in
    let within = filter_agree (range_contains place_cmp (Included (first_at from)) (end_of from to)) (is_between from to) (in_span from to) keys in
    let show = filter_map (shown c.args.version c.args.states.now) in
    ap (λ (v : List Place). c.args.list.now.items ++ show v) (c.into_iter-place-iterator.ensures.into_iter_gives ∙ between ∙ first ∙ last ∙ within)
