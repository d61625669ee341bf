-- What a journey of the fewest rides is, over any kind of ride.
use Rattle.std.specs.Prelude.{◌≤◌, List, Option, Some, None, length}
use Rattle.lc_model.specs.Journey.{IsBest, IsJourney}
use Rattle.lc_model.specs.Leg.{IsLegOf, in_time}
use Rattle.lc_model.specs.declared.connection.Connection.{Connection}
use Rattle.lc_model.specs.declared.doc.StopsDoc.{StopsDoc}
use Rattle.lc_model.specs.declared.journey.Journey.{Journey}
use Rattle.lc_model.specs.declared.query.Query.{Query}
use Rattle.lc_model.specs.declared.ride.Ride.{Ride}

-- a best journey, and every best one has at least as many rides
pub record IsFewest (IsRide : Ride → Type 0) (query : Query) (doc : StopsDoc) (journey : Journey) : Type 0 where
  pub is_best : IsBest IsRide query doc journey
  pub has_fewest : (other : Journey) → IsBest IsRide query doc other → length journey.rides ≤ length other.rides

-- it is a journey of the fewest rides among the best ones, or there is no journey
abbrev pub IsFewestAnswer : (Ride → Type 0) → Query → StopsDoc → Option Journey → Type 0
IsFewestAnswer IsRide query doc None = (journey : Journey) → IsJourney IsRide query doc journey → ⊥
IsFewestAnswer IsRide query doc (Some journey) = IsFewest IsRide query doc journey

-- that of the chains of a list
abbrev pub IsFewestChain : Query → StopsDoc → List Connection → Option Journey → Type 0
IsFewestChain query doc list = IsFewestAnswer (IsLegOf (in_time query list)) query doc
