-- What a journey is, and a best one, over any kind of ride: `IsRide` says which rides there are. The journeys of a
-- timetable are these over the rides of its runs, the chains of a list of connections are these over its legs.
use Rattle.std.specs.Prelude.{◌≡◌, ℕ, ◌+◌, ◌-◌, ◌≤◌, List, [], ◌∷◌, Option, Some, None}
use Rattle.std.specs.Option.{IsSomeAnd}
use Rattle.lc_model.specs.Change.{change_between}
use Rattle.lc_model.specs.Question.{latest_of}
use Rattle.lc_model.specs.Walk.{IsWalkAfter, IsWalkBefore, seconds_of}
use Rattle.lc_model.specs.declared.answer.Answer.{Answer}
use Rattle.lc_model.specs.declared.answer.Answer.TheVariants as answers
use Rattle.lc_model.specs.declared.doc.StopsDoc.{StopsDoc}
use Rattle.lc_model.specs.declared.journey.Journey.{Journey}
use Rattle.lc_model.specs.declared.query.Query.{Query}
use Rattle.lc_model.specs.declared.ride.Ride.{Ride}

-- the stop where the first ride boards
abbrev pub board_of : List Ride → List ℕ
board_of [] = []
board_of (first ∷ rest) = first.board

-- the moment at which the first ride departs
abbrev pub departure_of : List Ride → ℕ
departure_of [] = 0
departure_of (first ∷ rest) = first.dep

-- the stop where the last ride alights
abbrev pub alight_of : List Ride → List ℕ
alight_of [] = []
alight_of (last ∷ []) = last.alight
alight_of (first ∷ next ∷ rest) = alight_of (next ∷ rest)

-- the moment at which the last ride arrives
abbrev pub arrival_of_rides : List Ride → ℕ
arrival_of_rides [] = 0
arrival_of_rides (last ∷ []) = last.arr
arrival_of_rides (first ∷ next ∷ rest) = arrival_of_rides (next ∷ rest)

-- the moment at which a journey leaves: its first ride's departure, less the walk before
abbrev pub leaves_at : Journey → ℕ
leaves_at journey = departure_of journey.rides - seconds_of journey.before

-- the moment at which a journey arrives: its last ride's arrival, and the walk after
abbrev pub arrives_at : Journey → ℕ
arrives_at journey = arrival_of_rides journey.rides + seconds_of journey.after

-- there is a change from where the one ride ends to where the next begins, and time for it
abbrev pub CanChange : StopsDoc → Ride → Ride → Type 0
CanChange doc ride next =
    IsSomeAnd (change_between doc.changes ride.alight next.board) (λ seconds. ride.arr + seconds ≤ next.dep)

-- after this ride the others are rides too, with a change from each to the next
abbrev pub GoesOn : (Ride → Type 0) → StopsDoc → Ride → List Ride → Type 0
GoesOn IsRide doc last [] = Unit {0}
GoesOn IsRide doc ride (next ∷ rest) = IsRide next × CanChange doc ride next × GoesOn IsRide doc next rest

-- there is a ride at least, and from each to the next a change
abbrev pub AreRides : (Ride → Type 0) → StopsDoc → List Ride → Type 0
AreRides IsRide doc [] = ⊥
AreRides IsRide doc (first ∷ rest) = IsRide first × GoesOn IsRide doc first rest

-- Rides, one after the other, with the walks before and after them where the question does not begin and end there.
-- They leave no earlier than it says, and arrive within its horizon.
pub record IsJourney (IsRide : Ride → Type 0) (query : Query) (doc : StopsDoc) (journey : Journey) : Type 0 where
  pub are_rides : AreRides IsRide doc journey.rides
  pub begins : IsWalkBefore query doc (board_of journey.rides) journey.before
  pub not_early : query.leave ≤ leaves_at journey
  pub ends : IsWalkAfter query doc (alight_of journey.rides) journey.after
  pub in_time : arrives_at journey ≤ latest_of query

-- a journey, and no journey arrives earlier
pub record IsBest (IsRide : Ride → Type 0) (query : Query) (doc : StopsDoc) (journey : Journey) : Type 0 where
  pub is_journey : IsJourney IsRide query doc journey
  pub is_earliest : (other : Journey) → IsJourney IsRide query doc other → arrives_at journey ≤ arrives_at other

-- a journey arrives then, and none arrives earlier; or there is no journey
abbrev pub IsLeastArrival : (Ride → Type 0) → Query → StopsDoc → Option ℕ → Type 0
IsLeastArrival IsRide query doc None = (journey : Journey) → IsJourney IsRide query doc journey → ⊥
IsLeastArrival IsRide query doc (Some arrival) =
    ((journey : Journey) × IsJourney IsRide query doc journey × (arrives_at journey ≡ arrival))
    × ((journey : Journey) → IsJourney IsRide query doc journey → arrival ≤ arrives_at journey)

-- the answer is a best journey, or that there is none
abbrev pub IsAnswer : (Ride → Type 0) → Query → StopsDoc → Answer → Type 0
IsAnswer IsRide query doc (answers.Journey journey) = IsBest IsRide query doc journey
IsAnswer IsRide query doc answers.NoJourney = (journey : Journey) → IsJourney IsRide query doc journey → ⊥
