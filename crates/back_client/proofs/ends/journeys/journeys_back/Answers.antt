use Rattle.std.proofs.Common.{subst, sym, ◌∙◌}
use Rattle.lc_model.specs.Connection.{NoneArrivesEarly}
use Rattle.lc_model.specs.Leg.{IsLegOf, in_time}
use Rattle.lc_model.specs.Ride.{IsRideAt}
use Rattle.back_client.proofs.EndsLemmas.JourneyLemmas.{latest_journeys, latest_over}
use Rattle.back_client.proofs.EndsLemmas.TakenLemmas.{takes_the_needed_back}
use Rattle.back_client.proofs.ends.journeys.journeys_back.Goals as goal

pub returns : goal.returns
returns c =
    let runs = c.args.runs.now in
    let list = c.args.list.now in
    let query = c.args.query.now in
    let doc = c.args.doc.now in
    let forward : NoneArrivesEarly list = subst (λ l. NoneArrivesEarly l) c.as_slice-list.ensures.value c.as_slice-list.ensures.forward in
    let law = c.chains_are_journeys.ensures in
    record {
      needed = λ first rest taken needed pages are_needed until.
          let is_latest = latest_over (IsRideAt runs) (IsLegOf (in_time query list)) query doc are_needed.latest (λ journey is. (law journey).1 is) (λ journey is. (law journey).0 is) are_needed.is_latest in
          (takes_the_needed_back list first rest query doc taken are_needed.latest pages forward is_latest until).0 ∙ sym are_needed.are;
      latest = λ first rest taken journey pages until is.
          latest_journeys list first rest query doc taken (IsRideAt runs) journey pages forward (λ other j. (law other).0 j) (λ other j. (law other).1 j) until is;
    }
