-- A file says one value, or has one first fault, and never both.
use Rattle.std.specs.Prelude.{◌≡◌, ℕ, List}
use Rattle.lc_model.specs.declared.stop.Stop.{Stop}
use Rattle.gtfs_tables.specs.Fields.Laws.{AreNeverBoth, SayOne}
use Rattle.gtfs_tables.specs.declared.fields.fault.FileFault.{FileFault}
use Rattle.gtfs_tables.specs.declared.fields.trip_rows.TripRow.{TripRow}
use Rattle.gtfs_tables.specs.Trips.StopTimes.{AreStopTimesOf, IsStopTimesFault}
use Rattle.gtfs_tables.specs.Trips.Stops.{AreStopsOf, IsStopsFault}
use Rattle.gtfs_tables.specs.Trips.Trips.{AreTripsOf, IsTripsFault}
use Rattle.gtfs_tables.specs.declared.trips.stop_times.StopTime.{StopTime}

-- the stops of stops.txt
abbrev pub OneStops : Type 0
OneStops = SayOne {Value = List Stop} AreStopsOf

-- the first fault of stops.txt
abbrev pub OneStopsFault : Type 0
OneStopsFault = SayOne IsStopsFault

-- stops.txt never says stops and has a fault
abbrev pub NeverBothStops : Type 0
NeverBothStops = AreNeverBoth {Value = List Stop} AreStopsOf IsStopsFault

-- the trips of trips.txt
abbrev pub OneTrips : Type 0
OneTrips = SayOne {Value = List TripRow} AreTripsOf

-- the first fault of trips.txt
abbrev pub OneTripsFault : Type 0
OneTripsFault = SayOne IsTripsFault

-- trips.txt never says trips and has a fault
abbrev pub NeverBothTrips : Type 0
NeverBothTrips = AreNeverBoth {Value = List TripRow} AreTripsOf IsTripsFault

-- what stop_times.txt says of stops and trips is one list of stop times, and one of the trips that are not left out
abbrev pub OneStopTimes : Type 0
OneStopTimes =
    (stops : List Stop) (trips : List TripRow) (bytes : List ℕ) (a b : List StopTime) (s t : List TripRow)
    → AreStopTimesOf stops trips bytes a s → AreStopTimesOf stops trips bytes b t → (a ≡ b) × (s ≡ t)

-- the first fault of stop_times.txt
abbrev pub OneStopTimesFault : Type 0
OneStopTimesFault = (stops : List Stop) (trips : List TripRow) → SayOne (IsStopTimesFault stops trips)

-- stop_times.txt never says stop times and has a fault
abbrev pub NeverBothStopTimes : Type 0
NeverBothStopTimes =
    (stops : List Stop) (trips : List TripRow) (bytes : List ℕ) (times : List StopTime) (kept : List TripRow) (fault : FileFault)
    → AreStopTimesOf stops trips bytes times kept → IsStopTimesFault stops trips bytes fault → ⊥
