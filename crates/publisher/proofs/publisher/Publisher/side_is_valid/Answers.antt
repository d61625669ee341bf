use Rattle.std.proofs.Common.{◌≡◌, subst}
use Rattle.publisher.specs.Held.{side_of}
use Rattle.lc_world.specs.Sides.Side.{IsValidSide}
use Rattle.publisher.proofs.publisher.Publisher.side_is_valid.Goals as goal

pub returns-clause-stops : goal.returns-clause-stops
returns-clause-stops g c = subst (λ held. held.store.stops ≡ held.doc.stops) c.self.view_is c.self.invariant.stops

pub returns-clause-valid : goal.returns-clause-valid
returns-clause-valid g c =
    let cuts_of = g.G.Fragmenter.cuts_of in
    subst (λ held. IsValidSide (side_of cuts_of held)) c.self.view_is
    (record {
      runs = c.self.invariant.runs;
      calls = c.self.invariant.calls;
      doc = c.doc_is_valid.ensures;
      base = c.text-base.ensures.plain;
      rising = c.versions-versions.ensures.rising;
      lawful = c.cuts_lawfully.ensures;
    })
