-- The place of the id, and those of its children.
use Rattle.change_table.proofs.PartnerLemmas.{Gains-one}
use Rattle.change_table.proofs.partners.push_named.Goals as goal

pub returns : goal.returns
returns c =
    Gains-one c.args.stops.now c.args.children.now c.items_of.result.now c.args.id.now c.args.places.now.items c.push_place.new.places.items c.push_places.new.places.items c.place_of.result
    c.requires.children c.place_of.ensures c.in_ok-push_place.ensures c.items_of.ensures c.in_ok-push_places.ensures
