use Rattle.std.proofs.Common.{List, ap, sym, ◌++◌, ◌∙◌}
use Rattle.std.proofs.lemmas.List.{append-nil, take_all}
use Rattle.version_store.specs.declared.index.place.Place.{Place}
use Rattle.version_store.proofs.IndexLemmas.RowsLemmas.{departure_parts, departures_at, took_more}
use Rattle.version_store.proofs.index.rows.push_first_departures.Goals as goal

pub loop-place-init : goal.loop-place-init
loop-place-init c = sym (append-nil c.args.departures.now.items)

pub loop-place-preserved : goal.loop-place-preserved
loop-place-preserved c =
    let states = c.args.states.now in
    took_more (departures_at states c.args.version) (departure_parts states c.args.version) c.args.places.now c.loop-place.place-index c.place-item.result c.args.departures.now.items
    c.loop-place.departures.items c.push_departure.new.departures.items c.loop-place-test.true c.place-item.is c.in_ok-push_departure.ensures c.loop-place.invariant

pub returns : goal.returns
returns c =
    c.loop-place.invariant
    ∙ ap (λ (v : List Place). c.args.departures.now.items ++ departures_at c.args.states.now c.args.version v) (take_all c.loop-place.place-index c.args.places.now c.loop-place-test.false)
