use Rattle.std.proofs.Common.{◌∙◌, ap, subst, sym}
use Rattle.std.specs.List.{Contains}
use Rattle.version_store.specs.Store.{versions_of}
use Rattle.publisher.specs.Cuts.{HasCuts}
use Rattle.publisher.specs.Held.{side_of}
use Rattle.publisher.specs.Inside.{held_of}
use Rattle.publisher.proofs.CutsLemmas.{has_cuts}
use Rattle.publisher.proofs.publisher.Publisher.made_cuts.Goals as goal

pub returns : goal.returns
returns g c =
    let cuts_of = g.G.Fragmenter.cuts_of in
    let held = held_of c.self.inside in
    let there = subst (λ h. Contains (versions_of h.store) c.args.version) (sym c.self.view_is) c.requires in
    subst (λ h. HasCuts (side_of cuts_of h) c.args.version c.in_ok-cuts.cuts.items) c.self.view_is
    (has_cuts cuts_of held c.self.invariant.stops c.args.version c.in_ok-departures.departures.items c.in_ok-cuts.cuts.items there c.in_ok-departures.ensures
    (c.in_ok-cuts.ensures ∙ ap (cuts_of held.cutting) c.as_slice.ensures.value))
