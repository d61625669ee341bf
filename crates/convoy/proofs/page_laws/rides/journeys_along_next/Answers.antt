use Rattle.std.proofs.Common.{subst}
use Rattle.lc_model.specs.Connection.{NoneArrivesEarly}
use Rattle.lc_model.specs.Leg.{IsLegOf, in_time}
use Rattle.lc_model.specs.Ride.{IsRideAt}
use Rattle.lc_model.specs.Run.{InKeyOrder}
use Rattle.convoy.proofs.PageLawsLemmas.RidesAreLegsLemmas.{Timetable, leg_is_ride, ride_is_leg}
use Rattle.convoy.specs.PageLaws.Rides.{connections_on}
use Rattle.convoy.proofs.PageLawsLemmas.AlongLemmas.{chains_are_there, legs_stand_there, legs_there_are_legs}
use Rattle.convoy.proofs.PageLawsLemmas.PartJourneyLemmas.{least_over}
use Rattle.convoy.proofs.page_laws.rides.journeys_along_next.Goals as goal

pub returns : goal.returns
returns c =
    let runs = c.args.runs.now in
    let list = c.args.list.now in
    let query = c.args.query.now in
    let doc = c.args.doc.now in
    let table : Timetable runs list = record {
      in_key_order = subst (λ r. InKeyOrder r) c.as_slice-runs.ensures.value c.as_slice-runs.ensures.in_order;
      forward = c.requires.forward;
      connections = c.requires.connections;
    } in
    let forward : NoneArrivesEarly list = subst (λ l. NoneArrivesEarly l) c.as_slice-list.ensures.value c.as_slice-list.ensures.forward in
    let law = c.chains_are_journeys.ensures in
    record {
      rides_stand_there = λ first rest ride pages late in_time is. legs_stand_there list first rest query ride pages late (ride_is_leg runs list query ride table is in_time);
      legs_there_are_rides = λ first rest ride pages leg. leg_is_ride runs list query ride table (legs_there_are_legs list first rest query ride pages leg);
      journeys_are_there = λ first rest journey pages.
          let there = chains_are_there list first rest query doc journey pages forward in
          ((λ is. there.0 ((law journey).1 is)), (λ is. (law journey).0 (there.1 is)));
      least_is_there = λ first rest best pages. (
        least_over (IsRideAt runs) (IsLegOf (in_time query (connections_on first rest query))) query doc best
            (λ journey is. (chains_are_there list first rest query doc journey pages forward).0 ((law journey).1 is))
            (λ journey is. (law journey).0 ((chains_are_there list first rest query doc journey pages forward).1 is)),
        least_over (IsLegOf (in_time query (connections_on first rest query))) (IsRideAt runs) query doc best
            (λ journey is. (law journey).0 ((chains_are_there list first rest query doc journey pages forward).1 is))
            (λ journey is. (chains_are_there list first rest query doc journey pages forward).0 ((law journey).1 is)),
      );
    }
