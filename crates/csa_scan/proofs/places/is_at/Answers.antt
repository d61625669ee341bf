use Rattle.std.proofs.Common.{◌∙◌, sym}
use Rattle.std.proofs.lemmas.Slice.Eq.{bytes_eq-Decides}
use Rattle.csa_scan.proofs.SoughtLemmas.{item_found, place_there}
use Rattle.csa_scan.proofs.places.is_at.Goals as goal

pub returns-in-Some : goal.returns-in-Some
returns-in-Some c = λ t.
    let stops = c.args.stops.now in
    let stop = c.in-Some.stop.now in
    let found = item_found stops c.args.place c.get.result c.in-Some.stop c.get.ensures.lookup c.in-Some.is in
    place_there stops c.requires c.args.id.now c.args.place stop found.0 found.1 ((bytes_eq-Decides stop.id c.args.id.now).0 (sym c.eq.ensures ∙ t))
