use Rattle.std.proofs.Common.{[], ◌∷◌, map}
use Rattle.std.specs.Option.{option_to_list}
use Rattle.change_table.specs.Rows.{target}
use Rattle.change_table.proofs.PartnerLemmas.{Gains-four}
use Rattle.change_table.proofs.partners.named_places.Goals as goal

pub returns : goal.returns
returns c =
    let origin = c.args.origin.now in
    Gains-four c.args.stops.now (origin.stop.now.id ∷ []) (option_to_list origin.stop.now.parent) (map target origin.own.now) (map target origin.of_parent.now)
    c.new-places.result.items c.push_named.new.places.items c.push_parent.new.places.items c.push_targets.new.places.items c.push_targets-2.new.places.items
    c.new-places.ensures.items c.in_ok-push_named.ensures c.in_ok-push_parent.ensures c.in_ok-push_targets.ensures c.in_ok-push_targets-2.ensures
