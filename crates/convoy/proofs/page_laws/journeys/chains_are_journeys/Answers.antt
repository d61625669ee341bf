use Rattle.std.proofs.Common.{subst}
use Rattle.lc_model.specs.Run.{InKeyOrder}
use Rattle.convoy.proofs.PageLawsLemmas.JourneysLemmas.{chain_is_journey, journey_is_chain}
use Rattle.convoy.proofs.PageLawsLemmas.RidesAreLegsLemmas.{Timetable}
use Rattle.convoy.proofs.page_laws.journeys.chains_are_journeys.Goals as goal

pub returns : goal.returns
returns c = λ journey.
    let table : Timetable c.args.runs.now c.args.list.now = record {
      in_key_order = subst (λ runs. InKeyOrder runs) c.as_slice-runs.ensures.value c.as_slice-runs.ensures.in_order;
      forward = c.requires.forward;
      connections = c.requires.connections;
    } in
    (chain_is_journey _ _ c.args.query.now c.args.doc.now journey table, journey_is_chain _ _ c.args.query.now c.args.doc.now journey table)
