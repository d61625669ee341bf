use Rattle.std.proofs.Common.{◌≡◌, subst, sym, refl, Bool, true, false, ◌∙◌}
use Rattle.std.specs.Prelude.{IsTrue}
use Rattle.std.specs.List.{Contains}
use Rattle.publisher.specs.Held.{side_of}
use Rattle.lc_world.specs.Sides.Response.{IsSentOf}
use Rattle.lc_world.specs.Sides.Side.{has_version, versions_of}
use Rattle.lc_world.specs.declared.sides.response.Response.TheVariants.{Status}
use Rattle.publisher.proofs.VersionsLemmas.{not_there}
use Rattle.publisher.proofs.publisher.Publisher.sent.Goals as goal

pub returns-then-not-has-clause-said : goal.returns-then-not-has-clause-said
returns-then-not-has-clause-said g c =
    let side = side_of g.G.Fragmenter.cuts_of c.args.self.now in
    let none : has_version side c.args.version ≡ false =
    not_there (versions_of side) c.args.version (λ contains.
    let found : IsTrue c.has.result = c.has.ensures.1 (subst (λ held. Contains (versions_of (side_of g.G.Fragmenter.cuts_of held)) c.args.version) (sym c.self.view_is) contains) in
    absurd (let clash : true ≡ false = sym found ∙ c.if-not-has.true in cc)) in
    λ _. subst (λ (there : Bool). IsSentOf side there c.args.version c.args.departs (Status 404)) (sym none) refl
