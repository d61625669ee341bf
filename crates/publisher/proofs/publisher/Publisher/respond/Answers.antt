use Rattle.std.proofs.Common.{subst, sym}
use Rattle.std.proofs.lemmas.Result.{IfOk-weaker}
use Rattle.std.specs.Prelude.{IfOk}
use Rattle.publisher.specs.Held.{side_of}
use Rattle.publisher.specs.Writable.{IsSoundResponse}
use Rattle.lc_world.specs.Sides.Response.{IsResponseTo}
use Rattle.lc_world.specs.declared.sides.asked.Asked.{Asked}
use Rattle.lc_world.specs.declared.sides.asked.Asked.TheVariants as kinds
use Rattle.lc_world.specs.declared.sides.response.Response.{Response}
use Rattle.publisher.proofs.publisher.Publisher.respond.Goals as goal

pub returns-in-Gate-clause-said : goal.returns-in-Gate-clause-said
returns-in-Gate-clause-said g c = λ body.
    let side = side_of g.G.Fragmenter.cuts_of c.args.self.now in
    let request = c.args.request.now in
    subst (λ (asked : Asked). IfOk c.at_gate.result (λ response. IsSoundResponse response → IsResponseTo side request body asked response)) (sym c.in-Gate.is)
    (IfOk-weaker c.at_gate.result (IsResponseTo side request body kinds.Gate) (λ (response : Response). IsSoundResponse response → IsResponseTo side request body kinds.Gate response)
    (λ response said sound. said) (c.at_gate.ensures.said body))

pub returns-in-Page-clause-said : goal.returns-in-Page-clause-said
returns-in-Page-clause-said g c = λ body.
    subst (λ (asked : Asked). IfOk c.at_page.result (λ response. IsSoundResponse response → IsResponseTo (side_of g.G.Fragmenter.cuts_of c.args.self.now) c.args.request.now body asked response)) (sym c.in-Page.is)
    (c.at_page.ensures.said body)
