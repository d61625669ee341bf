use Rattle.std.proofs.Common.{List, sym, subst}
use Rattle.std.specs.Prelude.{◌↔◌}
use Rattle.lc_model.specs.Connection.{NoneArrivesEarly}
use Rattle.lc_model.specs.Ride.{IsRideAt}
use Rattle.lc_model.specs.Versions.Pages.{CutPage}
use Rattle.change_rounds.specs.Fewest.{IsFewestAnswer, IsFewestChain}
use Rattle.convoy.specs.PageLaws.Chain.{connections_along}
use Rattle.convoy.proofs.PageLawsLemmas.AlongLemmas.{chains_are_there, least_is_there}
use Rattle.rounds_client.proofs.EndsLemmas.NeededLemmas.{fewest_of_rides}
use Rattle.rounds_client.proofs.ends.needed.fewest_of_journeys.Goals as goal

pub returns : goal.returns
returns c =
    let runs = c.args.runs.now in
    let list = c.args.list.now in
    let query = c.args.query.now in
    let doc = c.args.doc.now in
    let forward : NoneArrivesEarly list = subst (λ l. NoneArrivesEarly l) c.as_slice-list.ensures.value c.as_slice-list.ensures.forward in
    λ first rest needed answer pages are.
    let law = c.journeys_along_next.ensures in
    let is_best = (least_is_there list first rest query doc are.best pages forward).1 ((law.least_is_there first rest are.best pages).0 are.is_best) in
    let P : List CutPage → Type 0 = λ n. IsFewestChain query doc (connections_along n) answer ↔ IsFewestAnswer (IsRideAt runs) query doc answer in
    subst P (sym are.are) (fewest_of_rides (IsRideAt runs) list first rest query doc are.best answer pages forward is_best
    (λ journey is. (chains_are_there list first rest query doc journey pages forward).1 ((law.journeys_are_there first rest journey pages).0 is))
    (λ journey is. (law.journeys_are_there first rest journey pages).1 ((chains_are_there list first rest query doc journey pages forward).0 is)) are.is_best)
