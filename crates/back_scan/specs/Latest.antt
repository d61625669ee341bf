-- What a latest journey is, over any kind of ride, and over the legs of a list of connections.
use Rattle.std.specs.Prelude.{◌≡◌, ℕ, ◌≤◌, List, Option, Some, None}
use Rattle.lc_model.specs.Journey.{IsJourney, leaves_at}
use Rattle.lc_model.specs.Leg.{IsLegOf, in_time}
use Rattle.lc_model.specs.declared.connection.Connection.{Connection}
use Rattle.lc_model.specs.declared.doc.StopsDoc.{StopsDoc}
use Rattle.lc_model.specs.declared.journey.Journey.{Journey}
use Rattle.lc_model.specs.declared.query.Query.{Query}
use Rattle.lc_model.specs.declared.ride.Ride.{Ride}

-- a journey, and no journey leaves later
pub record IsLatest (IsRide : Ride → Type 0) (query : Query) (doc : StopsDoc) (journey : Journey) : Type 0 where
  pub is_journey : IsJourney IsRide query doc journey
  pub is_latest : (other : Journey) → IsJourney IsRide query doc other → leaves_at other ≤ leaves_at journey

-- a journey leaves then, and none leaves later; or there is no journey
abbrev pub IsLatestDeparture : (Ride → Type 0) → Query → StopsDoc → Option ℕ → Type 0
IsLatestDeparture IsRide query doc None = (journey : Journey) → IsJourney IsRide query doc journey → ⊥
IsLatestDeparture IsRide query doc (Some leaves) =
    ((journey : Journey) × IsJourney IsRide query doc journey × (leaves_at journey ≡ leaves))
    × ((journey : Journey) → IsJourney IsRide query doc journey → leaves_at journey ≤ leaves)

-- the latest departure of a chain of the list, or none where there is no chain
abbrev pub IsListLatest : Query → StopsDoc → List Connection → Option ℕ → Type 0
IsListLatest query doc list = IsLatestDeparture (IsLegOf (in_time query list)) query doc
