use Rattle.std.proofs.Common.{List, Option, refl, subst}
use Rattle.lc_model.specs.declared.connection.Connection.{Connection}
use Rattle.lc_model.specs.declared.journey.Journey.{Journey}
use Rattle.page_json.specs.declared.page.Page.{Page}
use Rattle.change_rounds.specs.Fewest.{IsFewestChain}
use Rattle.rounds_client.specs.Given.{connections_of_pages}
use Rattle.rounds_client.proofs.MomentLemmas.{arrives_at_a_moment}
use Rattle.rounds_client.proofs.ending.found.Goals as goal

pub returns-in-Some-2 : goal.returns-in-Some-2
returns-in-Some-2 c =
    let L : List Connection → Type 0 = λ l. IsFewestChain c.args.query.now c.in-Some.doc l c.in_ok-fewest.field-0 in
    let G : List Page → Type 0 = λ pages. IsFewestChain c.args.query.now c.in-Some.doc (connections_of_pages pages) c.in_ok-fewest.field-0 in
    let A : Option Journey → Type 0 = λ a. IsFewestChain c.args.query.now c.in-Some.doc (connections_of_pages c.args.given.now.pages.items) a in
    let chain = subst A c.in-Some-2.is (subst G c.as_slice.ensures.value (subst L c.in_ok-list.ensures c.in_ok-fewest.ensures)) in
    record {
      answers = (c.in-Some.doc, c.in-Some-2.fewest, c.in-Some.is, refl, chain);
      moment = arrives_at_a_moment c.args.query.now c.in-Some.doc (connections_of_pages c.args.given.now.pages.items) c.in-Some-2.fewest c.requires.horizon chain;
    }
