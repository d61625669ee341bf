use Rattle.std.proofs.Common.{List, ap, subst, ◌++◌, ◌∙◌}
use Rattle.lc_model.specs.Order.{AreApart}
use Rattle.version_store.specs.Index.Places.{place_cmp}
use Rattle.version_store.specs.declared.index.place.Place.{Place}
use Rattle.version_store.proofs.IndexLemmas.PlaceSetLemmas.{once}
use Rattle.version_store.proofs.IndexLemmas.RowsLemmas.{both_parts, departure_parts, departures_are, departures_at}
use Rattle.version_store.proofs.index.rows.all_departures.Goals as goal

pub returns : goal.returns
returns c =
    let states = c.args.states.now in
    let leaving = departures_at states c.args.version in
    let set = c.places.inside in
    let walked = c.push_later_departures.new.departures.items in
    let walk =
    both_parts leaving (departure_parts states c.args.version) set.first.items set.later.keys c.args.places.now c.in_ok-departures.departures.items c.push_first_departures.new.departures.items walked
    c.places.view_is c.in_ok-departures.ensures.items
    (c.in_ok-push_first_departures.ensures ∙ ap (λ (v : List Place). c.in_ok-departures.departures.items ++ leaving v) c.as_slice.ensures.value) c.in_ok-push_later_departures.ensures in
    departures_are c.args.version states c.args.places.now walked c.sort.new.self.items c.requires (subst (AreApart place_cmp) c.places.view_is (once set c.places.invariant)) walk c.in_ok-sort.ensures.permutation
    c.in_ok-sort.ensures.sorted
