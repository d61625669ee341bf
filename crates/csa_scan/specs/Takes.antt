-- What the progress keeps after an arrival.
use Rattle.std.specs.Prelude.{◌≡◌, ℕ, ◌+◌, ◌<◌, ◌≤◌, ◌⊎◌, List, [], ◌∷◌, ◌++◌, Option, Some, true, length, slice_set}
use Rattle.std.specs.List.{slice_get}
use Rattle.std.specs.Option.{MatchOption}
use Rattle.lc_model.specs.Question.{latest_of}
use Rattle.lc_model.specs.declared.connection.Connection.{Connection}
use Rattle.lc_model.specs.declared.doc.StopsDoc.{StopsDoc}
use Rattle.lc_model.specs.declared.query.Query.{Query}
use Rattle.csa_scan.specs.Kept.{Kept}
use Rattle.csa_scan.specs.Reach.{id_at}
use Rattle.csa_scan.specs.Relaxed.{Relaxes}
use Rattle.csa_scan.specs.declared.trace.Arrival.{Arrival}
use Rattle.csa_scan.specs.declared.trace.Boarding.{Boarding}
use Rattle.csa_scan.specs.declared.trace.Goal.{Goal}
use Rattle.csa_scan.specs.declared.trace.Near.{Near}

-- the arrival, at the place, leads to the nearest end within the horizon of the question
pub record IsGoal (query : Query) (ends : List (Option Near)) (stop arr place : ℕ) (g : Goal) : Type 0 where
  pub near : Near
  pub is_near : slice_get ends stop ≡ Some (Some near)
  pub is_then : g.arr ≡ arr + near.seconds
  pub in_time : g.arr ≤ latest_of query
  pub is_place : g.place ≡ place

-- it leads to no end within the horizon
abbrev pub IsNoGoal : Query → List (Option Near) → ℕ → ℕ → Type 0
IsNoGoal query ends stop arr = (n : Near) → slice_get ends stop ≡ Some (Some n) → latest_of query < arr + n.seconds

-- the best goal stays, as the new one is none or no earlier, or the new one is it
abbrev pub PicksGoal : Option Goal → Option Goal → Option Goal → Type 0
PicksGoal best goal new =
    ((new ≡ best) × ((h : Goal) → goal ≡ Some h → (g : Goal) × (best ≡ Some g) × (g.arr ≤ h.arr)))
    ⊎ ((h : Goal) × (goal ≡ Some h) × (new ≡ Some h) × ((g : Goal) → best ≡ Some g → h.arr ≤ g.arr))

-- the better one of the best goal and that of the arrival
pub record PicksBest (query : Query) (ends : List (Option Near)) (place : ℕ) (a : Arrival) (old new : Option Goal) : Type 0 where
  pub goal : Option Goal
  pub is_goal : MatchOption goal (IsNoGoal query ends a.stop a.arr) (IsGoal query ends a.stop a.arr place)
  pub picks : PicksGoal old goal new

-- the arrival is kept, with what it makes ready
pub record Arrives (query : Query) (doc : StopsDoc) (ends : List (Option Near)) (a : Arrival) (old new : Kept) : Type 0 where
  pub arrivals : new.arrivals ≡ old.arrivals ++ a ∷ []
  pub boardings : new.boardings ≡ old.boardings
  pub reached : new.reached ≡ slice_set old.reached a.stop (Some a.arr)
  pub ready : Relaxes doc a.stop a.arr (length old.arrivals) old.ready new.ready
  pub best : PicksBest query ends (length old.arrivals) a old.best new.best

-- where the connection arrives at a stop of the document, it was reached by then
abbrev pub IsReachedAlready : StopsDoc → List (Option ℕ) → Connection → Type 0
IsReachedAlready doc reached c = (stop : ℕ) → stop < length doc.stops → id_at doc.stops stop ≡ c.arr_stop → (by : ℕ) × (slice_get reached stop ≡ Some (Some by)) × (by ≤ c.arr)

-- the arrival is that of the connection, of a run that is boarded so
pub record IsArrivalOf (doc : StopsDoc) (c : Connection) (run : ℕ) (b : Boarding) (a : Arrival) : Type 0 where
  pub may_alight : c.alight ≡ true
  pub within : a.stop < length doc.stops
  pub stop : id_at doc.stops a.stop ≡ c.arr_stop
  pub by_run : a.run ≡ run
  pub boarding : a.boarding ≡ b
  pub last_seq : a.last_seq ≡ c.seq
  pub arr : a.arr ≡ c.arr
