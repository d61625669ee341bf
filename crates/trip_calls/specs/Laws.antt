-- The runs of a feed are one list, and the time of a row without one is between those of the nearest rows with one.
use Rattle.std.specs.Prelude.{◌≡◌, ℕ, ◌<◌, true, false, List, length}
use Rattle.lc_model.specs.declared.run.Run.{Run}
use Rattle.lc_time.specs.declared.zone.Zone.{Zone}
use Rattle.gtfs_tables.specs.declared.fields.trip_rows.TripRow.{TripRow}
use Rattle.gtfs_tables.specs.Trips.Timely.{AreTimelyRows}
use Rattle.gtfs_tables.specs.declared.trips.stop_times.StopTime.{StopTime}
use Rattle.gtfs_tables.specs.declared.calendars.frequency.Frequency.{Frequency}
use Rattle.service_days.specs.declared.service_day.ServiceDay.{ServiceDay}
use Rattle.trip_calls.specs.BlankTimes.{is_timed_at, timed_after, timed_before}
use Rattle.trip_calls.specs.Runs.{AreRunsOf}

-- the trips of a feed have one list of runs on the dates of their services
abbrev pub OneListOfRuns : Type 0
OneListOfRuns =
    (trips : List TripRow) (times : List StopTime) (frequencies : List Frequency) (days : List ServiceDay) (zone : Zone) (a b : List Run)
    → AreRunsOf trips times frequencies days zone a → AreRunsOf trips times frequencies days zone b → a ≡ b

-- the place is between two rows with a time, and no row between these has one
pub record IsBetween (rows : List StopTime) (before place after : ℕ) : Type 0 where
  pub is_before : before < place
  pub is_after : place < after
  pub there : after < length rows
  pub before_timed : is_timed_at rows before ≡ true
  pub after_timed : is_timed_at rows after ≡ true
  pub blank : (k : ℕ) → before < k → k < after → is_timed_at rows k ≡ false

-- a row without a time is between the nearest rows with one
abbrev pub BlankRowsLieBetween : Type 0
BlankRowsLieBetween =
    (rows : List StopTime) (place : ℕ) → AreTimelyRows rows → place < length rows → is_timed_at rows place ≡ false
    → IsBetween rows (timed_before rows place) place (timed_after rows place)
