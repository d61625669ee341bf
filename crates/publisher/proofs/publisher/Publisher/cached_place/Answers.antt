use Rattle.std.proofs.Common.{subst, sym, Option, arith}
use Rattle.std.specs.Prelude.{IfSome}
use Rattle.publisher.specs.Cuts.{KeepsCuts}
use Rattle.publisher.specs.Held.{side_of}
use Rattle.publisher.specs.Inside.{held_of}
use Rattle.publisher.specs.PlaceOf.{IsPlaceOf}
use Rattle.publisher.specs.declared.place.Place.{Place}
use Rattle.publisher.proofs.CutsLemmas.{all_rise, cached_place, keeps_used}
use Rattle.publisher.proofs.publisher.Publisher.cached_place.Goals as goal

pub place-place-requires : goal.place-place-requires
place-place-requires g c = all_rise (side_of g.G.Fragmenter.cuts_of (held_of c.self.inside)) c.cuts_lawfully.ensures c.self.inside.cuts c.self.invariant.cuts

pub invariant_of-self : goal.invariant_of-self
invariant_of-self g c =
    let side = side_of g.G.Fragmenter.cuts_of (held_of c.self.inside) in
    record {
      stops = c.self.invariant.stops;
      runs = c.self.invariant.runs;
      calls = c.self.invariant.calls;
      cuts = subst (KeepsCuts side) (sym c.place-place.ensures.used) (keeps_used side c.self.inside.cuts c.args.version c.self.invariant.cuts);
      few = omega (arith, c.len-few.ensures.len, c.len-few.ensures.few);
      text = c.self.invariant.text;
      sound = c.self.invariant.sound;
    }

pub returns-clause-place : goal.returns-clause-place
returns-clause-place g c =
    let cuts_of = g.G.Fragmenter.cuts_of in
    let held = held_of c.self.inside in
    subst (λ h. IfSome c.place-place.result (IsPlaceOf (side_of cuts_of h) c.args.version c.args.departs)) c.self.view_is
    (subst (λ (found : Option Place). IfSome found (IsPlaceOf (side_of cuts_of held) c.args.version c.args.departs)) (sym c.place-place.ensures.place)
    (cached_place (side_of cuts_of held) c.cuts_lawfully.ensures c.args.version c.args.departs c.self.inside.cuts c.self.invariant.cuts))
