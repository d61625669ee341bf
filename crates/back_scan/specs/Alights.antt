-- How a connection is left, by what the progress keeps.
use Rattle.std.specs.Prelude.{◌≡◌, ℕ, ◌+◌, ◌<◌, ◌≤◌, ◌⊎◌, List, Option, Some, None, true, length}
use Rattle.std.specs.List.{slice_get}
use Rattle.lc_model.specs.Question.{latest_of}
use Rattle.lc_model.specs.declared.change.Change.{Change}
use Rattle.lc_model.specs.declared.connection.Connection.{Connection}
use Rattle.lc_model.specs.declared.doc.StopsDoc.{StopsDoc}
use Rattle.lc_model.specs.declared.query.Query.{Query}
use Rattle.lc_model.specs.declared.stop.Stop.{Stop}
use Rattle.csa_scan.specs.Reach.{id_at}
use Rattle.csa_scan.specs.declared.trace.Near.{Near}
use Rattle.back_scan.specs.Kept.{Kept}
use Rattle.back_scan.specs.Onward.{ChangesTo}
use Rattle.back_scan.specs.declared.trace.Alighting.{Alighting}
use Rattle.back_scan.specs.declared.trace.Departure.{Departure}

-- the change leads to the place, and who arrives before it then is in time for the departure from there
pub record Catches (stops : List Stop) (departures : List (Option Departure)) (change : Change) (arr place : ℕ) : Type 0 where
  pub within : place < length stops
  pub is : id_at stops place ≡ change.to
  pub departure : Departure
  pub is_departure : slice_get departures place ≡ Some (Some departure)
  pub in_time : arr + change.seconds ≤ departure.dep

-- one who arrives at the stop then goes on: to the end of the question that is nearest to it, or by a change
abbrev pub IsOnWay : Query → StopsDoc → List (Option Near) → List (Option Departure) → ℕ → ℕ → Option ℕ → Type 0
IsOnWay query doc ends departures stop arr None = (n : Near) × (slice_get ends stop ≡ Some (Some n)) × (arr + n.seconds ≤ latest_of query)
IsOnWay query doc ends departures stop arr (Some place) = ChangesTo doc departures stop arr place

-- one who arrives at the stop then does not go on
pub record IsStuck (query : Query) (doc : StopsDoc) (ends : List (Option Near)) (departures : List (Option Departure)) (stop arr : ℕ) : Type 0 where
  pub no_end : (n : Near) → slice_get ends stop ≡ Some (Some n) → arr + n.seconds ≤ latest_of query → ⊥
  pub no_change : (place : ℕ) → ChangesTo doc departures stop arr place → ⊥

-- the connection can be left, so
pub record IsFirstAlighting (query : Query) (doc : StopsDoc) (ends : List (Option Near)) (departures : List (Option Departure)) (c : Connection) (a : Alighting) : Type 0 where
  pub within : a.stop < length doc.stops
  pub seq : a.seq ≡ c.seq
  pub stop : id_at doc.stops a.stop ≡ c.arr_stop
  pub arr : a.arr ≡ c.arr
  pub on_way : IsOnWay query doc ends departures a.stop c.arr a.next

-- the connection cannot be left on the way to an end of the question
abbrev pub CannotAlight : Query → StopsDoc → List (Option Near) → List (Option Departure) → Connection → Type 0
CannotAlight query doc ends departures c = (stop : ℕ) → stop < length doc.stops → id_at doc.stops stop ≡ c.arr_stop → IsStuck query doc ends departures stop c.arr

-- the run is not left, and cannot be after this connection
pub record StaysOn (query : Query) (doc : StopsDoc) (ends : List (Option Near)) (kept : Kept) (run : ℕ) (c : Connection) : Type 0 where
  pub not_left : slice_get kept.alightings run ≡ Some None
  pub cannot : c.alight ≡ true → CannotAlight query doc ends kept.departures c

-- the run is left so already, or is now after this connection
abbrev pub GetsOff : Query → StopsDoc → List (Option Near) → Kept → ℕ → Connection → Alighting → Type 0
GetsOff query doc ends kept run c a =
    (slice_get kept.alightings run ≡ Some (Some a))
    ⊎ ((slice_get kept.alightings run ≡ Some None) × (c.alight ≡ true) × IsFirstAlighting query doc ends kept.departures c a)
