-- Visits of which no trip breaks a rule.
use Rattle.std.specs.Prelude.{◌≡◌, ℕ, List, None}
use Rattle.std.specs.List.{All}
use Rattle.gtfs_tables.specs.Fields.Times.{IsInDay}
use Rattle.gtfs_tables.specs.Fields.TripRows.{HasTrip}
use Rattle.gtfs_tables.specs.declared.fields.trip_rows.TripRow.{TripRow}
use Rattle.gtfs_tables.specs.Trips.Timing.{trip_fault}
use Rattle.gtfs_tables.specs.declared.trips.visits.Visit.{Visit}

-- each visit is one of these trips, and its times are below 100 hours
pub record AreOfTrips (trips : List TripRow) (visits : List Visit) : Type 0 where
  pub known : All (λ (v : Visit). HasTrip trips v.trip) visits
  pub arrivals_in_day : All (λ (v : Visit). IsInDay v.arr) visits
  pub departures_in_day : All (λ (v : Visit). IsInDay v.dep) visits

-- no rows of a trip break a rule together, and each time is below 100 hours
pub record AreOnTime (visits : List Visit) : Type 0 where
  pub unbroken : (trip : List ℕ) → trip_fault visits trip ≡ None
  pub arrivals_in_day : All (λ (v : Visit). IsInDay v.arr) visits
  pub departures_in_day : All (λ (v : Visit). IsInDay v.dep) visits
