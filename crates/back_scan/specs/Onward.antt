-- How one goes on to an end of the question: with a walk or without one, or by a change to a departure.
use Rattle.std.specs.Prelude.{◌≡◌, ℕ, ◌+◌, ◌≤◌, List, Option, Some, None, true}
use Rattle.std.specs.List.{slice_get}
use Rattle.lc_model.specs.Change.{change_between}
use Rattle.lc_model.specs.Leg.{IsLegOf}
use Rattle.lc_model.specs.Question.{latest_of}
use Rattle.lc_model.specs.Walk.{IsWalkAfter, seconds_of}
use Rattle.lc_model.specs.declared.connection.Connection.{Connection}
use Rattle.lc_model.specs.declared.doc.StopsDoc.{StopsDoc}
use Rattle.lc_model.specs.declared.key.RunKey.{RunKey}
use Rattle.lc_model.specs.declared.query.Query.{Query}
use Rattle.lc_model.specs.declared.ride.Ride.{Ride}
use Rattle.lc_model.specs.declared.stop.Stop.{Stop}
use Rattle.lc_model.specs.declared.walk.Walk.{Walk}
use Rattle.csa_scan.specs.Reach.{id_at}
use Rattle.back_scan.specs.declared.trace.Alighting.{Alighting}
use Rattle.back_scan.specs.declared.trace.Departure.{Departure}

-- one who arrives at the stop then changes in time for the departure from the place
pub record IsInTime (doc : StopsDoc) (departures : List (Option Departure)) (stop : List ℕ) (at place : ℕ) : Type 0 where
  pub departure : Departure
  pub is_departure : slice_get departures place ≡ Some (Some departure)
  pub seconds : ℕ
  pub is_change : change_between doc.changes stop (id_at doc.stops place) ≡ Some seconds
  pub in_time : at + seconds ≤ departure.dep

-- the same, where the stop is that at a place
abbrev pub ChangesTo : StopsDoc → List (Option Departure) → ℕ → ℕ → ℕ → Type 0
ChangesTo doc departures stop at place = IsInTime doc departures (id_at doc.stops stop) at place

-- one who is at the stop then may go on: to an end of the question in time, with the walk there, if it needs one, or by the
-- departure from a place
abbrev pub MayGoOn : Query → StopsDoc → List (Option Departure) → Option ℕ → List ℕ → ℕ → Type 0
MayGoOn query doc departures None stop at = (walk : Option Walk) × IsWalkAfter query doc stop walk × (at + seconds_of walk ≤ latest_of query)
MayGoOn query doc departures (Some place) stop at = IsInTime doc departures stop at place

-- the departure from the stop is the begin of this ride
pub record IsShown (stops : List Stop) (runs : List RunKey) (stop : ℕ) (departure : Departure) (ride : Ride) : Type 0 where
  pub key : slice_get runs departure.run ≡ Some ride.key
  pub first_seq : departure.seq ≡ ride.first_seq
  pub last_seq : departure.alighting.seq ≡ ride.last_seq
  pub board : id_at stops stop ≡ ride.board
  pub dep : departure.dep ≡ ride.dep
  pub alight : id_at stops departure.alighting.stop ≡ ride.alight
  pub arr : departure.alighting.arr ≡ ride.arr

-- the departure from the stop is the begin of a leg of the list after which one may go on
pub record IsLegBegin (query : Query) (doc : StopsDoc) (runs : List RunKey) (departures : List (Option Departure)) (list : List Connection) (stop : ℕ) (departure : Departure) : Type 0 where
  pub ride : Ride
  pub is_leg : IsLegOf list ride
  pub is_shown : IsShown doc.stops runs stop departure ride
  pub may_go_on : MayGoOn query doc departures departure.alighting.next ride.alight ride.arr

-- the alighting is from a connection of the run in the list after which one may go on
pub record IsAlightingOf (query : Query) (doc : StopsDoc) (departures : List (Option Departure)) (list : List Connection) (key : RunKey) (alighting : Alighting) : Type 0 where
  pub place : ℕ
  pub last : Connection
  pub is_last : slice_get list place ≡ Some last
  pub of_run : last.key ≡ key
  pub allowed : last.alight ≡ true
  pub seq : alighting.seq ≡ last.seq
  pub stop : id_at doc.stops alighting.stop ≡ last.arr_stop
  pub arr : alighting.arr ≡ last.arr
  pub may_go_on : MayGoOn query doc departures alighting.next last.arr_stop last.arr

-- the run is left
pub record IsLeft (runs : List RunKey) (alightings : List (Option Alighting)) (key : RunKey) : Type 0 where
  pub run : ℕ
  pub alighting : Alighting
  pub is_run : slice_get runs run ≡ Some key
  pub is_alighting : slice_get alightings run ≡ Some (Some alighting)

-- there is a departure from the stop then or later
pub record IsLeftFrom (stops : List Stop) (departures : List (Option Departure)) (stop : List ℕ) (at : ℕ) : Type 0 where
  pub place : ℕ
  pub departure : Departure
  pub is_departure : slice_get departures place ≡ Some (Some departure)
  pub from : id_at stops place ≡ stop
  pub no_earlier : at ≤ departure.dep
