use Rattle.std.proofs.Common.{◌≡◌, ◌∙◌, ap, subst, ℕ, List, Option, Some, None, true}
use Rattle.std.specs.Option.{IfSome, option_copied}
use Rattle.memento.specs.Negotiation.{Negotiates}
use Rattle.publisher.specs.Held.{side_of}
use Rattle.lc_world.specs.Sides.Side.{versions_of}
use Rattle.publisher.proofs.VersionsLemmas.{has, negotiated_is_there}
use Rattle.publisher.proofs.publisher.Publisher.negotiated.Goals as goal

there_if : (versions : List ℕ) (said : Option (List ℕ)) (version : Option ℕ) → IfSome version (Negotiates versions said) → IfSome version (λ (v : ℕ). has v versions ≡ true)
there_if versions said None is = tt
there_if versions said (Some v) is = negotiated_is_there versions said v is

pub returns-clause-there : goal.returns-clause-there
returns-clause-there g c =
    let same : c.versions.result.now ≡ versions_of (side_of g.G.Fragmenter.cuts_of c.args.self.now) =
    c.versions.ensures.all ∙ ap (λ held. versions_of (side_of g.G.Fragmenter.cuts_of held)) c.self.view_is in
    subst (λ (versions : List ℕ). IfSome c.negotiate.result (λ (v : ℕ). has v versions ≡ true)) same
    (there_if c.versions.result.now (option_copied c.field_value.result) c.negotiate.result c.negotiate.ensures.said)
