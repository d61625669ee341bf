-- What stop_times.txt says of the trips of a feed (GTFS Schedule Reference, stop_times.txt).
use Rattle.std.specs.Prelude.{◌≡◌, ℕ, ◌⊎◌, if◌then◌else◌, not, List, Option, None, filter, length, option_map}
use Rattle.std.specs.List.{filter_map}
use Rattle.gtfs_rows.specs.Sheet.{Sheet}
use Rattle.lc_model.specs.declared.stop.Stop.{Stop}
use Rattle.gtfs_tables.specs.Fields.Rules.{IsUnbroken}
use Rattle.gtfs_tables.specs.Fields.Table.{IsFileFault, IsSound}
use Rattle.gtfs_tables.specs.declared.fields.fault.FileFault.{FileFault}
use Rattle.gtfs_tables.specs.declared.fields.trip_rows.TripRow.{TripRow}
use Rattle.gtfs_tables.specs.Trips.StopTimeRows.{most_stop_times, stop_time_rule_at, stop_times_columns}
use Rattle.gtfs_tables.specs.Trips.Timing.{IsTripFault, is_left_out, trip_fault_at}
use Rattle.gtfs_tables.specs.Trips.Visits.{AreVisits}
use Rattle.gtfs_tables.specs.declared.trips.stop_times.StopTime.{StopTime}
use Rattle.gtfs_tables.specs.declared.trips.visits.Visit.{Visit}

-- the stop time of a visit of a trip that is not left out
abbrev pub time_of : List Visit → Visit → Option StopTime
time_of visits v =
    if is_left_out visits v.trip
    then None
    else option_map (λ stop. record { trip = v.trip; stop = stop; seq = v.seq; arr = v.arr; dep = v.dep; board = v.board; alight = v.alight }) v.stop

-- no row breaks a rule by itself, and these are the visits of the rows, by trip and number
pub record SaysVisits (stops : List Stop) (trips : List TripRow) (bytes : List ℕ) (visits : List Visit) : Type 0 where
  pub sheet : Sheet
  pub sound : IsSound stop_times_columns most_stop_times (stop_time_rule_at stops trips) bytes sheet
  pub are : AreVisits sheet visits

-- No trip has rows that break a rule together. These are the stop times of the trips that are not left out, and these
-- are those trips, in their order.
pub record AreTimed (visits : List Visit) (trips : List TripRow) (said : List StopTime) (kept : List TripRow) : Type 0 where
  pub timed : IsUnbroken (trip_fault_at visits trips) (length trips)
  pub times : said ≡ filter_map (time_of visits) visits
  pub trips_kept : kept ≡ filter (λ (t : TripRow). not (is_left_out visits t.trip)) trips

-- no rule is broken; these are the stop times of the trips that are not left out, by trip and sequence, and those trips
pub record AreStopTimesOf (stops : List Stop) (trips : List TripRow) (bytes : List ℕ) (said : List StopTime) (kept : List TripRow) : Type 0 where
  pub visits : List Visit
  pub says : SaysVisits stops trips bytes visits
  pub timed : AreTimed visits trips said kept

-- no row breaks a rule by itself, but the rows of a trip do together
pub record BreaksTrip (stops : List Stop) (trips : List TripRow) (bytes : List ℕ) (fault : FileFault) : Type 0 where
  pub visits : List Visit
  pub says : SaysVisits stops trips bytes visits
  pub first : IsTripFault visits trips fault

-- what is wrong first with the file
abbrev pub IsStopTimesFault : List Stop → List TripRow → List ℕ → FileFault → Type 0
IsStopTimesFault stops trips bytes fault =
    IsFileFault stop_times_columns most_stop_times (stop_time_rule_at stops trips) bytes fault ⊎ BreaksTrip stops trips bytes fault
