-- What a round stands for: the connections that it took, over the arrivals of the rounds before.
use Rattle.std.specs.Prelude.{◌≡◌, ℕ, ◌<◌, ◌⊎◌, List, Option, Some, None, true, replicate}
use Rattle.std.specs.List.{slice_get}
use Rattle.lc_model.specs.Leg.{IsLegOf}
use Rattle.lc_model.specs.Stop.{HasStop}
use Rattle.lc_model.specs.declared.connection.Connection.{Connection}
use Rattle.lc_model.specs.declared.doc.StopsDoc.{StopsDoc}
use Rattle.lc_model.specs.declared.key.RunKey.{RunKey}
use Rattle.lc_model.specs.declared.query.Query.{Query}
use Rattle.lc_model.specs.declared.ride.Ride.{Ride}
use Rattle.csa_scan.specs.Kept.{Kept}
use Rattle.csa_scan.specs.Reach.{id_at, MayBoard, IsLegEnd, IsBoardingOf, IsBoarded, IsReachedBy}
use Rattle.csa_scan.specs.Stands.{IsBestGoal, IsReady}
use Rattle.csa_scan.specs.declared.trace.Arrival.{Arrival}
use Rattle.csa_scan.specs.declared.trace.Boarding.{Boarding}
use Rattle.csa_scan.specs.declared.trace.Ready.{Ready}

-- The arrivals before are there still, and each other one ends a leg that one may board after one of those before. Each run that
-- may be boarded after one of those before is boarded.
pub record FollowsRound (query : Query) (doc : StopsDoc) (runs : List RunKey) (before : List Arrival) (kept : Kept) (list : List Connection) : Type 0 where
  pub grows : (place : ℕ) (arrival : Arrival) → slice_get before place ≡ Some arrival → slice_get kept.arrivals place ≡ Some arrival
  pub arrival_sound : (place : ℕ) (arrival : Arrival) → slice_get kept.arrivals place ≡ Some arrival →
      (slice_get before place ≡ Some arrival) ⊎ IsLegEnd query doc runs before list arrival
  pub boarding_sound : (run : ℕ) (boarding : Boarding) (key : RunKey) → slice_get kept.boardings run ≡ Some (Some boarding) → slice_get runs run ≡ Some key →
      IsBoardingOf query doc before list key boarding
  pub boarding_complete : (place : ℕ) (boards : Connection) → slice_get list place ≡ Some boards → boards.board ≡ true →
      (after : Option ℕ) → MayBoard query doc before after boards.dep_stop boards.dep → IsBoarded runs kept.boardings boards.key
  pub ready : IsReady doc kept.arrivals kept.ready
  pub reached : (stop by : ℕ) → slice_get kept.reached stop ≡ Some (Some by) → IsReachedBy doc.stops kept.arrivals (id_at doc.stops stop) by
  pub best : IsBestGoal query doc kept.arrivals kept.best

-- where a leg of the list alights that one may board after one of the arrivals before, an arrival is no later
abbrev pub ReachesLegs : Query → StopsDoc → List Arrival → List Arrival → List Connection → Type 0
ReachesLegs query doc before arrivals list =
    (ride : Ride) → IsLegOf list ride → (after : Option ℕ) → MayBoard query doc before after ride.board ride.dep →
    HasStop doc.stops ride.alight → IsReachedBy doc.stops arrivals ride.alight ride.arr

-- what is kept is what is to be known of the list in the round
pub record StandsInRound (query : Query) (doc : StopsDoc) (runs : List RunKey) (before : List Arrival) (kept : Kept) (list : List Connection) : Type 0 where
  pub follows : FollowsRound query doc runs before kept list
  pub reaches : ReachesLegs query doc before kept.arrivals list

-- each ready stop is ready after one of so many arrivals
abbrev pub PointInto : ℕ → List (Option Ready) → Type 0
PointInto arrivals ready = (stop : ℕ) (r : Ready) → slice_get ready stop ≡ Some (Some r) → r.after < arrivals

-- all is kept but the boardings: none of so many runs is boarded
abbrev pub cleared : ℕ → Kept → Kept
cleared runs kept = record kept { boardings = replicate runs None }
