-- Journeys of the fewest rides are alike.
use Rattle.std.proofs.Common.{Option, Some, None, arith}
use Rattle.lc_model.specs.Leg.{IsLegOf, in_time}
use Rattle.lc_model.specs.Ride.{IsRideAt}
use Rattle.lc_model.specs.declared.doc.StopsDoc.{StopsDoc}
use Rattle.lc_model.specs.declared.journey.Journey.{Journey}
use Rattle.lc_model.specs.declared.query.Query.{Query}
use Rattle.lc_model.specs.declared.ride.Ride.{Ride}
use Rattle.change_rounds.specs.Fewest.{IsFewestAnswer}
use Rattle.change_rounds.specs.Laws.{AreAlike, ChainsAreAlike, JourneysAreAlike}

alike : (IsRide : Ride → Type 0) (query : Query) (doc : StopsDoc) (a b : Option Journey) → IsFewestAnswer IsRide query doc a → IsFewestAnswer IsRide query doc b → AreAlike a b
alike IsRide query doc None None no_a no_b = tt
alike IsRide query doc None (Some b) no_a is_b = no_a b is_b.is_best.is_journey
alike IsRide query doc (Some a) None is_a no_b = no_b a is_a.is_best.is_journey
alike IsRide query doc (Some a) (Some b) is_a is_b =
    let by = is_a.is_best.is_earliest b is_b.is_best.is_journey in
    let as_early = is_b.is_best.is_earliest a is_a.is_best.is_journey in
    let few = is_a.has_fewest b is_b.is_best in
    let as_few = is_b.has_fewest a is_a.is_best in
    (omega arith, omega arith)

pub chains_are_alike : ChainsAreAlike
chains_are_alike query doc list = alike (IsLegOf (in_time query list)) query doc

pub journeys_are_alike : JourneysAreAlike
journeys_are_alike runs query doc = alike (IsRideAt runs) query doc
