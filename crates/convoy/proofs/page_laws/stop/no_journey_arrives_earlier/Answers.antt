use Rattle.std.proofs.Common.{subst}
use Rattle.lc_model.specs.Connection.{NoneArrivesEarly}
use Rattle.convoy.proofs.PageLawsLemmas.AlongLemmas.{least_is_there}
use Rattle.convoy.proofs.PageLawsLemmas.TakenLemmas.{pages_may_be_all}
use Rattle.convoy.proofs.page_laws.stop.no_journey_arrives_earlier.Goals as goal

pub returns : goal.returns
returns c =
    let list = c.args.list.now in
    let query = c.args.query.now in
    let doc = c.args.doc.now in
    let forward : NoneArrivesEarly list = subst (λ l. NoneArrivesEarly l) c.as_slice-list.ensures.value c.as_slice-list.ensures.forward in
    λ first rest taken left best last pages are is_last by_last.
    let stop = pages_may_be_all list first rest query doc taken left best last pages forward are is_last by_last in
    let there = least_is_there list first rest query doc best pages forward in
    let journeys = c.journeys_along_next.ensures.least_is_there first rest best pages in
    ((λ least. journeys.1 (there.0 (stop.0 least))), (λ least. stop.1 (there.1 (journeys.0 least))))
