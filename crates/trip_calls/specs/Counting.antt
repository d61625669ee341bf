-- How many connections runs have.
use Rattle.std.specs.Prelude.{◌≡◌, ℕ, List, length}
use Rattle.lc_model.specs.Connection.{connections_of}
use Rattle.lc_model.specs.declared.run.Run.{Run}
use Rattle.lc_time.specs.declared.zone.Zone.{Zone}
use Rattle.gtfs_tables.specs.declared.fields.trip_rows.TripRow.{TripRow}
use Rattle.gtfs_tables.specs.declared.trips.stop_times.StopTime.{StopTime}
use Rattle.gtfs_tables.specs.declared.calendars.frequency.Frequency.{Frequency}
use Rattle.service_days.specs.declared.service_day.ServiceDay.{ServiceDay}
use Rattle.trip_calls.specs.TripRuns.{AreAllRuns}

-- the runs have so many connections
pub record HaveConnections (trips : List TripRow) (times : List StopTime) (frequencies : List Frequency) (days : List ServiceDay) (zone : Zone) (count : ℕ) : Type 0 where
  pub runs : List Run
  pub are : AreAllRuns trips times frequencies days zone runs
  pub counted : length (connections_of runs) ≡ count
