use Rattle.std.proofs.Common.{rules, ap, sym, option_map, ◌+◌}
use Rattle.live_calls.proofs.PlacesLemmas.{first_behind, none_at_end, none_behind}
use Rattle.live_calls.proofs.naming.next_place_of_stop.Goals as goal

pub returns-in-Some-clause-place : goal.returns-in-Some-clause-place
returns-in-Some-clause-place c = λ calls are.
    first_behind calls c.args.places.now are c.requires (record { stop = c.args.stop; place = c.args.next }) c.places_before-at.result c.places_before-at.ensures.point
    c.in-Some.found.now (search rules) (search rules) (search rules)

pub returns-in_default-clause-place : goal.returns-in_default-clause-place
returns-in_default-clause-place c = λ calls are.
    sym (ap (option_map (λ place. c.args.next + place))
    (none_behind calls c.args.places.now are c.requires (record { stop = c.args.stop; place = c.args.next }) c.places_before-at.result c.places_before-at.ensures.point
    c.in-Some.found.now (search rules) (search rules) (search rules)))

pub returns-in_default-2-clause-place : goal.returns-in_default-2-clause-place
returns-in_default-2-clause-place c = λ calls are.
    sym (ap (option_map (λ place. c.args.next + place))
    (none_at_end calls c.args.places.now are c.requires (record { stop = c.args.stop; place = c.args.next }) c.places_before-at.result c.places_before-at.ensures.point
    (search rules)))
