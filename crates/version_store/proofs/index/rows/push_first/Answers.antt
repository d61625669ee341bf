use Rattle.std.proofs.Common.{List, ap, sym, ◌++◌, ◌∙◌}
use Rattle.std.specs.List.{filter_map}
use Rattle.std.proofs.lemmas.List.{append-nil, take_all}
use Rattle.std.proofs.lemmas.List.Elements.{filter_map-append}
use Rattle.version_store.specs.Index.Places.{shown}
use Rattle.version_store.specs.declared.index.place.Place.{Place}
use Rattle.version_store.proofs.IndexLemmas.RowsLemmas.{took_more}
use Rattle.version_store.proofs.index.rows.push_first.Goals as goal

pub loop-place-init : goal.loop-place-init
loop-place-init c = sym (append-nil c.args.list.now.items)

pub loop-place-preserved : goal.loop-place-preserved
loop-place-preserved c =
    let show = shown c.args.version c.args.states.now in
    took_more (filter_map show) (filter_map-append show) c.args.places.now c.loop-place.place-index c.place-item.result c.args.list.now.items c.loop-place.list.items c.push_shown.new.list.items
    c.loop-place-test.true c.place-item.is c.in_ok-push_shown.ensures c.loop-place.invariant

pub returns : goal.returns
returns c =
    c.loop-place.invariant
    ∙ ap (λ (v : List Place). c.args.list.now.items ++ filter_map (shown c.args.version c.args.states.now) v) (take_all c.loop-place.place-index c.args.places.now c.loop-place-test.false)
