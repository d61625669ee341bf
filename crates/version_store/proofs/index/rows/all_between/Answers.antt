use Rattle.std.proofs.Common.{List, ap, subst, sym, ◌++◌, ◌∙◌}
use Rattle.std.specs.List.{filter, filter_map}
use Rattle.std.proofs.lemmas.List.Elements.{filter-append, filter_map-append}
use Rattle.lc_model.specs.Order.{AreApart, IsStrict}
use Rattle.version_store.specs.Index.Places.{is_between, place_cmp, shown}
use Rattle.version_store.specs.declared.index.place.Place.{Place}
use Rattle.version_store.proofs.IndexLemmas.PlaceSetLemmas.{once}
use Rattle.version_store.proofs.IndexLemmas.RowsLemmas.{both_parts}
use Rattle.version_store.proofs.index.rows.all_between.Goals as goal

pub between-first-requires : goal.between-first-requires
between-first-requires c = subst (IsStrict place_cmp) (sym c.as_slice.ensures.value) c.places.invariant.first

pub returns-clause-shown : goal.returns-clause-shown
returns-clause-shown c =
    let show = shown c.args.version c.args.states.now in
    let within = filter (is_between c.args.from c.args.to) in
    let set = c.places.inside in
    let first = c.between-first.ensures ∙ ap within c.as_slice.ensures.value in
    let view = sym (filter-append (is_between c.args.from c.args.to) set.first.items set.later.keys) ∙ ap within c.places.view_is in
    both_parts (filter_map show) (filter_map-append show) (within set.first.items) (within set.later.keys) (within c.args.places.now) c.new-list.result.items c.push_first.new.list.items
    c.push_later.new.list.items view c.new-list.ensures.items (c.in_ok-push_first.ensures ∙ ap (λ (v : List Place). c.new-list.result.items ++ filter_map show v) first) c.in_ok-push_later.ensures

pub returns-clause-apart : goal.returns-clause-apart
returns-clause-apart c = subst (AreApart place_cmp) c.places.view_is (once c.places.inside c.places.invariant)
