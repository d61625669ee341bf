-- How a question's stops are reached: from its begin, with a walk or without one, or by a change after an arrival.
use Rattle.std.specs.Prelude.{◌≡◌, ℕ, ◌+◌, ◌≤◌, List, [], Option, Some, None, true}
use Rattle.std.specs.List.{slice_get}
use Rattle.std.specs.Option.{option_map_or}
use Rattle.lc_model.specs.Change.{change_between}
use Rattle.lc_model.specs.Leg.{IsLegOf}
use Rattle.lc_model.specs.Walk.{IsWalkBefore, seconds_of}
use Rattle.lc_model.specs.declared.connection.Connection.{Connection}
use Rattle.lc_model.specs.declared.doc.StopsDoc.{StopsDoc}
use Rattle.lc_model.specs.declared.key.RunKey.{RunKey}
use Rattle.lc_model.specs.declared.query.Query.{Query}
use Rattle.lc_model.specs.declared.ride.Ride.{Ride}
use Rattle.lc_model.specs.declared.stop.Stop.{Stop}
use Rattle.lc_model.specs.declared.walk.Walk.{Walk}
use Rattle.csa_scan.specs.declared.trace.Arrival.{Arrival}
use Rattle.csa_scan.specs.declared.trace.Boarding.{Boarding}

-- the id of the stop at a place of the document
abbrev pub id_at : List Stop → ℕ → List ℕ
id_at stops place = option_map_or (λ (s : Stop). s.id) (slice_get stops place) []

-- from the arrival one may change to the stop by then
pub record LeadsTo (doc : StopsDoc) (arrival : Arrival) (stop : List ℕ) (by : ℕ) : Type 0 where
  pub seconds : ℕ
  pub is_change : change_between doc.changes (id_at doc.stops arrival.stop) stop ≡ Some seconds
  pub in_time : arrival.arr + seconds ≤ by

-- one may board at the stop then: after the walk before the first ride, if it needs one, or after one of the arrivals
abbrev pub MayBoard : Query → StopsDoc → List Arrival → Option ℕ → List ℕ → ℕ → Type 0
MayBoard query doc arrivals None stop at = (walk : Option Walk) × IsWalkBefore query doc stop walk × (query.leave + seconds_of walk ≤ at)
MayBoard query doc arrivals (Some place) stop at =
    (arrival : Arrival) × (slice_get arrivals place ≡ Some arrival) × LeadsTo doc arrival stop at

-- the arrival is the end of this ride
pub record IsShown (stops : List Stop) (runs : List RunKey) (arrival : Arrival) (ride : Ride) : Type 0 where
  pub key : slice_get runs arrival.run ≡ Some ride.key
  pub first_seq : arrival.boarding.seq ≡ ride.first_seq
  pub last_seq : arrival.last_seq ≡ ride.last_seq
  pub board : id_at stops arrival.boarding.stop ≡ ride.board
  pub dep : arrival.boarding.dep ≡ ride.dep
  pub alight : id_at stops arrival.stop ≡ ride.alight
  pub arr : arrival.arr ≡ ride.arr

-- the arrival is the end of a leg of the list that one may board
pub record IsLegEnd (query : Query) (doc : StopsDoc) (runs : List RunKey) (arrivals : List Arrival) (list : List Connection) (arrival : Arrival) : Type 0 where
  pub ride : Ride
  pub is_leg : IsLegOf list ride
  pub is_shown : IsShown doc.stops runs arrival ride
  pub may_board : MayBoard query doc arrivals arrival.boarding.after ride.board ride.dep

-- the boarding is at a connection of the run in the list where one may board
pub record IsBoardingOf (query : Query) (doc : StopsDoc) (arrivals : List Arrival) (list : List Connection) (key : RunKey) (boarding : Boarding) : Type 0 where
  pub place : ℕ
  pub boards : Connection
  pub is_boards : slice_get list place ≡ Some boards
  pub of_run : boards.key ≡ key
  pub allowed : boards.board ≡ true
  pub seq : boarding.seq ≡ boards.seq
  pub stop : id_at doc.stops boarding.stop ≡ boards.dep_stop
  pub dep : boarding.dep ≡ boards.dep
  pub may_board : MayBoard query doc arrivals boarding.after boards.dep_stop boards.dep

-- the run is boarded
pub record IsBoarded (runs : List RunKey) (boardings : List (Option Boarding)) (key : RunKey) : Type 0 where
  pub run : ℕ
  pub boarding : Boarding
  pub is_run : slice_get runs run ≡ Some key
  pub is_boarding : slice_get boardings run ≡ Some (Some boarding)

-- an arrival is at the stop by then
pub record IsReachedBy (stops : List Stop) (arrivals : List Arrival) (stop : List ℕ) (by : ℕ) : Type 0 where
  pub place : ℕ
  pub arrival : Arrival
  pub is_arrival : slice_get arrivals place ≡ Some arrival
  pub at : id_at stops arrival.stop ≡ stop
  pub in_time : arrival.arr ≤ by
