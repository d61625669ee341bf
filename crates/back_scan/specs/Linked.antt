-- Every number that the progress of a scan keeps is within the list that it points into, and departures point on.
use Rattle.std.specs.Prelude.{◌≡◌, ℕ, ◌<◌, ◌≤◌, Bool, false, IsTrue, List, Option, Some, is_some, length}
use Rattle.std.specs.List.{slice_get}
use Rattle.std.specs.Option.{option_map_or}
use Rattle.back_scan.specs.declared.trace.Alighting.{Alighting}
use Rattle.back_scan.specs.declared.trace.Departure.{Departure}
use Rattle.back_scan.specs.declared.trace.Start.{Start}

-- there is a departure from the stop
pub record HasDeparture (departures : List (Option Departure)) (stop : ℕ) : Type 0 where
  pub departure : Departure
  pub is : slice_get departures stop ≡ Some (Some departure)

-- the moment of the departure from the stop, 0 where there is none
abbrev pub departs_from : List (Option Departure) → ℕ → ℕ
departs_from departures stop =
    option_map_or (λ (o : Option Departure). option_map_or (λ (d : Departure). d.dep) o 0) (slice_get departures stop) 0

-- whether there is a departure from the stop
abbrev pub has_departure : List (Option Departure) → ℕ → Bool
has_departure departures stop = option_map_or (λ (o : Option Departure). is_some o) (slice_get departures stop) false

-- the alighting is at one of so many stops, before the departure from the next one
pub record IsAlightingIn (departures : List (Option Departure)) (a : Alighting) : Type 0 where
  pub stop : a.stop < length departures
  pub next : (k : ℕ) → a.next ≡ Some k → a.arr < departs_from departures k

-- the departure is by one of so many runs, at a moment that is not after its alighting
pub record IsDepartureIn (runs : ℕ) (departures : List (Option Departure)) (d : Departure) : Type 0 where
  pub run : d.run < runs
  pub is_moment : d.dep < 253402128000
  pub forward : d.dep ≤ d.alighting.arr
  pub alighting : IsAlightingIn departures d.alighting

-- each alighting, each departure and the best start point within the lists, and departures to later ones
pub record IsLinked (alightings : List (Option Alighting)) (departures : List (Option Departure)) (best : Option Start) : Type 0 where
  pub is_alighting : (run : ℕ) (a : Alighting) → slice_get alightings run ≡ Some (Some a) → IsAlightingIn departures a
  pub is_departure : (stop : ℕ) (d : Departure) → slice_get departures stop ≡ Some (Some d) → IsDepartureIn (length alightings) departures d
  pub is_best : (s : Start) → best ≡ Some s → IsTrue (has_departure departures s.stop)

-- each departure is within so many stops and runs, and leads to a later one
abbrev pub PointsOn : ℕ → ℕ → List (Option Departure) → Type 0
PointsOn stops runs departures =
    (length departures ≡ stops) × ((stop : ℕ) (d : Departure) → slice_get departures stop ≡ Some (Some d) → IsDepartureIn runs departures d)
