-- What an answer is that is a latest journey, or that there is none.
use Rattle.std.specs.Prelude.{Option, Some, None}
use Rattle.lc_model.specs.Journey.{IsJourney}
use Rattle.lc_model.specs.declared.doc.StopsDoc.{StopsDoc}
use Rattle.lc_model.specs.declared.journey.Journey.{Journey}
use Rattle.lc_model.specs.declared.query.Query.{Query}
use Rattle.lc_model.specs.declared.ride.Ride.{Ride}
use Rattle.back_scan.specs.Latest.{IsLatest}

-- the journey is a latest one; or there is no journey
abbrev pub IsLatestOf : (Ride → Type 0) → Query → StopsDoc → Option Journey → Type 0
IsLatestOf IsRide query doc None = (journey : Journey) → IsJourney IsRide query doc journey → ⊥
IsLatestOf IsRide query doc (Some journey) = IsLatest IsRide query doc journey
