use Rattle.std.proofs.Common.{subst, sym, ◌∙◌}
use Rattle.lc_model.specs.Connection.{NoneArrivesEarly}
use Rattle.convoy.proofs.PageLawsLemmas.AlongLemmas.{least_is_there}
use Rattle.convoy.proofs.PageLawsLemmas.NeededLemmas.{takes_the_needed}
use Rattle.convoy.proofs.page_laws.needed.needed_of_journeys.Goals as goal

pub returns : goal.returns
returns c =
    let list = c.args.list.now in
    let query = c.args.query.now in
    let doc = c.args.doc.now in
    let forward : NoneArrivesEarly list = subst (λ l. NoneArrivesEarly l) c.as_slice-list.ensures.value c.as_slice-list.ensures.forward in
    λ first rest taken needed pages are_needed until.
    let best = are_needed.best in
    let there = c.journeys_along_next.ensures.least_is_there first rest best pages in
    let is_best = (least_is_there list first rest query doc best pages forward).1 (there.0 are_needed.is_best) in
    (takes_the_needed list first rest query doc pages forward taken best is_best until).0 ∙ sym are_needed.are
