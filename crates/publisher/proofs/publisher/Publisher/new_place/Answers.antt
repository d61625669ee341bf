use Rattle.std.proofs.Common.{◌≤◌, ◌∙◌, ap, arith, length, subst, sym}
use Rattle.lru.specs.LruCache.{lru_cache}
use Rattle.publisher.specs.Cuts.{HasCuts, KeepsCuts}
use Rattle.publisher.specs.Held.{side_of}
use Rattle.publisher.specs.Inside.{held_of}
use Rattle.publisher.specs.Place.{AreRising, place_of}
use Rattle.publisher.specs.PlaceOf.{IsPlaceOf}
use Rattle.publisher.proofs.CutsLemmas.{keeps_more, place_among, rising_cuts}
use Rattle.publisher.proofs.publisher.Publisher.new_place.Goals as goal

pub place_of-place-requires : goal.place_of-place-requires
place_of-place-requires g c =
    let side = side_of g.G.Fragmenter.cuts_of (held_of c.self.inside) in
    let has = subst (λ h. HasCuts (side_of g.G.Fragmenter.cuts_of h) c.args.version c.in_ok-cuts.cuts.items) (sym c.self.view_is) c.in_ok-cuts.ensures in
    subst AreRising (sym c.as_slice.ensures.value) (rising_cuts side c.cuts_lawfully.ensures c.args.version c.in_ok-cuts.cuts.items has)

pub invariant_of-self : goal.invariant_of-self
invariant_of-self g c = record {
  stops = c.self.invariant.stops;
  runs = c.self.invariant.runs;
  calls = c.self.invariant.calls;
  cuts = subst (KeepsCuts (side_of g.G.Fragmenter.cuts_of (held_of c.self.inside))) (sym c.in_err-put.ensures.unchanged) c.self.invariant.cuts;
  few = subst (λ cached. length cached ≤ 16) (sym c.in_err-put.ensures.unchanged) c.self.invariant.few;
  text = c.self.invariant.text;
  sound = c.self.invariant.sound;
}

pub invariant_of-self-2 : goal.invariant_of-self-2
invariant_of-self-2 g c =
    let cuts_of = g.G.Fragmenter.cuts_of in
    let side = side_of cuts_of (held_of c.self.inside) in
    let has = subst (λ h. HasCuts (side_of cuts_of h) c.args.version c.in_ok-cuts.cuts.items) (sym c.self.view_is) c.in_ok-cuts.ensures in
    record {
      stops = c.self.invariant.stops;
      runs = c.self.invariant.runs;
      calls = c.self.invariant.calls;
      cuts = subst (KeepsCuts side) (sym c.in_ok-put.ensures.put) (keeps_more side (lru_cache c.self.inside.cuts 16) c.args.version c.in_ok-cuts.cuts c.self.invariant.cuts has);
      few = omega (arith, c.len-few.ensures.len, c.len-few.ensures.few);
      text = c.self.invariant.text;
      sound = c.self.invariant.sound;
    }

pub returns-clause-place : goal.returns-clause-place
returns-clause-place g c =
    let cuts_of = g.G.Fragmenter.cuts_of in
    let held = held_of c.self.inside in
    let has = subst (λ h. HasCuts (side_of cuts_of h) c.args.version c.in_ok-cuts.cuts.items) (sym c.self.view_is) c.in_ok-cuts.ensures in
    subst (λ h. IsPlaceOf (side_of cuts_of h) c.args.version c.args.departs c.place_of-place.result) c.self.view_is
    (place_among (side_of cuts_of held) c.cuts_lawfully.ensures c.args.version c.args.departs c.in_ok-cuts.cuts.items c.place_of-place.result has
    (c.place_of-place.ensures ∙ ap (λ cs. place_of cs c.args.departs) c.as_slice.ensures.value))
