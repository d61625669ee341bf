-- What the progress of a scan stands for: all connections that it took, as far as the question's horizon goes.
use Rattle.std.specs.Prelude.{◌≡◌, ℕ, ◌+◌, ◌<◌, ◌≤◌, List, Option, Some, true, length}
use Rattle.std.specs.List.{slice_get}
use Rattle.lc_model.specs.Change.{change_between}
use Rattle.lc_model.specs.Leg.{IsLegOf}
use Rattle.lc_model.specs.Question.{latest_of}
use Rattle.lc_model.specs.Stop.{HasStop}
use Rattle.lc_model.specs.Walk.{IsWalkAfter, seconds_of}
use Rattle.lc_model.specs.declared.connection.Connection.{Connection}
use Rattle.lc_model.specs.declared.doc.StopsDoc.{StopsDoc}
use Rattle.lc_model.specs.declared.key.RunKey.{RunKey}
use Rattle.lc_model.specs.declared.query.Query.{Query}
use Rattle.lc_model.specs.declared.ride.Ride.{Ride}
use Rattle.lc_model.specs.declared.walk.Walk.{Walk}
use Rattle.csa_scan.specs.Kept.{Kept}
use Rattle.csa_scan.specs.Reach.{id_at, LeadsTo, MayBoard, IsLegEnd, IsBoardingOf, IsBoarded, IsReachedBy}
use Rattle.csa_scan.specs.declared.trace.Arrival.{Arrival}
use Rattle.csa_scan.specs.declared.trace.Boarding.{Boarding}
use Rattle.csa_scan.specs.declared.trace.Goal.{Goal}
use Rattle.csa_scan.specs.declared.trace.Ready.{Ready}

-- the document has the stops where the question begins and ends
pub record IsAsked (query : Query) (doc : StopsDoc) : Type 0 where
  pub from_known : HasStop doc.stops query.from
  pub to_known : HasStop doc.stops query.to

-- each stop with a change from an arrival is ready no later than the change takes, and each ready stop has such a change
pub record IsReady (doc : StopsDoc) (arrivals : List Arrival) (ready : List (Option Ready)) : Type 0 where
  pub sound : (stop : ℕ) (r : Ready) → slice_get ready stop ≡ Some (Some r) →
      (arrival : Arrival) × (slice_get arrivals r.after ≡ Some arrival) × LeadsTo doc arrival (id_at doc.stops stop) r.at
  pub complete : (place : ℕ) (arrival : Arrival) → slice_get arrivals place ≡ Some arrival →
      (stop seconds : ℕ) → stop < length doc.stops → change_between doc.changes (id_at doc.stops arrival.stop) (id_at doc.stops stop) ≡ Some seconds →
      (r : Ready) × (slice_get ready stop ≡ Some (Some r)) × (r.at ≤ arrival.arr + seconds)

-- the arrival leads to an end of the question within its horizon, then, by the walk after it, if it needs one
pub record LeadsToEnd (query : Query) (doc : StopsDoc) (arrival : Arrival) (at : ℕ) : Type 0 where
  pub walk : Option Walk
  pub is_walk : IsWalkAfter query doc (id_at doc.stops arrival.stop) walk
  pub is_then : arrival.arr + seconds_of walk ≡ at
  pub in_time : at ≤ latest_of query

-- the best goal is an arrival that leads to an end of the question, and none is earlier; without one no arrival leads to one
pub record IsBestGoal (query : Query) (doc : StopsDoc) (arrivals : List Arrival) (best : Option Goal) : Type 0 where
  pub sound : (g : Goal) → best ≡ Some g →
      (arrival : Arrival) × (slice_get arrivals g.place ≡ Some arrival) × LeadsToEnd query doc arrival g.arr
  pub complete : (place : ℕ) (arrival : Arrival) → slice_get arrivals place ≡ Some arrival →
      (at : ℕ) → LeadsToEnd query doc arrival at → (g : Goal) × (best ≡ Some g) × (g.arr ≤ at)

-- the arrivals and the boardings are those of the list: each is one, and each run that may be boarded is boarded
pub record Follows (query : Query) (doc : StopsDoc) (runs : List RunKey) (kept : Kept) (list : List Connection) : Type 0 where
  pub arrival_sound : (place : ℕ) (arrival : Arrival) → slice_get kept.arrivals place ≡ Some arrival → IsLegEnd query doc runs kept.arrivals list arrival
  pub boarding_sound : (run : ℕ) (boarding : Boarding) (key : RunKey) → slice_get kept.boardings run ≡ Some (Some boarding) → slice_get runs run ≡ Some key →
      IsBoardingOf query doc kept.arrivals list key boarding
  pub boarding_complete : (place : ℕ) (boards : Connection) → slice_get list place ≡ Some boards → boards.board ≡ true →
      (after : Option ℕ) → MayBoard query doc kept.arrivals after boards.dep_stop boards.dep → IsBoarded runs kept.boardings boards.key
  pub ready : IsReady doc kept.arrivals kept.ready
  pub reached : (stop by : ℕ) → slice_get kept.reached stop ≡ Some (Some by) → IsReachedBy doc.stops kept.arrivals (id_at doc.stops stop) by
  pub best : IsBestGoal query doc kept.arrivals kept.best

-- where a leg of the list that one may board alights, an arrival is no later
abbrev pub IsComplete : Query → StopsDoc → List Arrival → List Connection → Type 0
IsComplete query doc arrivals list =
    (ride : Ride) → IsLegOf list ride → (after : Option ℕ) → MayBoard query doc arrivals after ride.board ride.dep →
    HasStop doc.stops ride.alight → IsReachedBy doc.stops arrivals ride.alight ride.arr

-- what is kept is what is to be known of the list
pub record Stands (query : Query) (doc : StopsDoc) (runs : List RunKey) (kept : Kept) (list : List Connection) : Type 0 where
  pub follows : Follows query doc runs kept list
  pub complete : IsComplete query doc kept.arrivals list
