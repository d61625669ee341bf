-- What the progress of a scan stands for: all connections that it took, as far as they arrive in time.
use Rattle.std.specs.Prelude.{◌≡◌, ℕ, ◌+◌, ◌≤◌, List, Option, Some, true}
use Rattle.std.specs.List.{slice_get}
use Rattle.lc_model.specs.Leg.{IsLegOf}
use Rattle.lc_model.specs.Stop.{HasStop}
use Rattle.lc_model.specs.Walk.{IsWalkBefore, seconds_of}
use Rattle.lc_model.specs.declared.connection.Connection.{Connection}
use Rattle.lc_model.specs.declared.doc.StopsDoc.{StopsDoc}
use Rattle.lc_model.specs.declared.key.RunKey.{RunKey}
use Rattle.lc_model.specs.declared.query.Query.{Query}
use Rattle.lc_model.specs.declared.ride.Ride.{Ride}
use Rattle.lc_model.specs.declared.walk.Walk.{Walk}
use Rattle.csa_scan.specs.Reach.{id_at}
use Rattle.back_scan.specs.Kept.{Kept}
use Rattle.back_scan.specs.Onward.{IsAlightingOf, IsLeft, IsLeftFrom, IsLegBegin, MayGoOn}
use Rattle.back_scan.specs.declared.trace.Alighting.{Alighting}
use Rattle.back_scan.specs.declared.trace.Departure.{Departure}
use Rattle.back_scan.specs.declared.trace.Start.{Start}

-- who leaves an end of the question then, within its horizon, is at the stop at the departure, by the walk before it, if it
-- needs one
pub record LeavesFor (query : Query) (doc : StopsDoc) (stop : List ℕ) (dep at : ℕ) : Type 0 where
  pub walk : Option Walk
  pub is_walk : IsWalkBefore query doc stop walk
  pub is_then : at + seconds_of walk ≡ dep
  pub not_early : query.leave ≤ at

-- The best start is for a departure, and none is later. Without one no departure has a start.
pub record IsBestStart (query : Query) (doc : StopsDoc) (departures : List (Option Departure)) (best : Option Start) : Type 0 where
  pub sound : (s : Start) → best ≡ Some s →
      (d : Departure) × (slice_get departures s.stop ≡ Some (Some d)) × LeavesFor query doc (id_at doc.stops s.stop) d.dep s.leaves
  pub complete : (stop : ℕ) (d : Departure) → slice_get departures stop ≡ Some (Some d) →
      (at : ℕ) → LeavesFor query doc (id_at doc.stops stop) d.dep at → (s : Start) × (best ≡ Some s) × (at ≤ s.leaves)

-- the departures and the alightings are those of the list: each is one, and each run that may be left is left
pub record Follows (query : Query) (doc : StopsDoc) (runs : List RunKey) (kept : Kept) (list : List Connection) : Type 0 where
  pub departure_sound : (stop : ℕ) (d : Departure) → slice_get kept.departures stop ≡ Some (Some d) → IsLegBegin query doc runs kept.departures list stop d
  pub alighting_sound : (run : ℕ) (a : Alighting) (key : RunKey) → slice_get kept.alightings run ≡ Some (Some a) → slice_get runs run ≡ Some key →
      IsAlightingOf query doc kept.departures list key a
  pub alighting_complete : (place : ℕ) (last : Connection) → slice_get list place ≡ Some last → last.alight ≡ true →
      (next : Option ℕ) → MayGoOn query doc kept.departures next last.arr_stop last.arr → IsLeft runs kept.alightings last.key
  pub best : IsBestStart query doc kept.departures kept.best

-- where a leg of the list after which one may go on boards, a departure is no earlier
abbrev pub IsComplete : Query → StopsDoc → List (Option Departure) → List Connection → Type 0
IsComplete query doc departures list =
    (ride : Ride) → IsLegOf list ride → (next : Option ℕ) → MayGoOn query doc departures next ride.alight ride.arr →
    HasStop doc.stops ride.board → IsLeftFrom doc.stops departures ride.board ride.dep

-- what is kept is what is to be known of the list, in which none arrives early
pub record Stands (query : Query) (doc : StopsDoc) (runs : List RunKey) (kept : Kept) (list : List Connection) : Type 0 where
  pub follows : Follows query doc runs kept list
  pub complete : IsComplete query doc kept.departures list
  pub forward : (place : ℕ) (c : Connection) → slice_get list place ≡ Some c → c.dep ≤ c.arr
