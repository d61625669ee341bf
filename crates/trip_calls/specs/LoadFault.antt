-- Why there is no list of runs.
use Rattle.std.specs.Prelude.{◌≡◌, ℕ, ◌<◌, List, length}
use Rattle.lc_model.specs.Connection.{connections_of}
use Rattle.lc_model.specs.declared.run.Run.{Run}
use Rattle.lc_time.specs.declared.zone.Zone.{Zone}
use Rattle.gtfs_tables.specs.declared.fields.trip_rows.TripRow.{TripRow}
use Rattle.gtfs_tables.specs.declared.trips.stop_times.StopTime.{StopTime}
use Rattle.gtfs_tables.specs.declared.calendars.frequency.Frequency.{Frequency}
use Rattle.service_days.specs.declared.service_day.ServiceDay.{ServiceDay}
use Rattle.trip_calls.specs.Runs.{AreRunsOf}
use Rattle.trip_calls.specs.declared.load_fault.LoadFault.{LoadFault}
use Rattle.trip_calls.specs.declared.load_fault.LoadFault.TheVariants.{TooManyConnections, NoMemory}
use Rattle.trip_calls.specs.declared.load_fault.TheConstants.{MOST_CONNECTIONS}

-- the runs have so many connections, which is more than may be
pub record HaveTooMany (trips : List TripRow) (times : List StopTime) (frequencies : List Frequency) (days : List ServiceDay) (zone : Zone) (count : ℕ) : Type 0 where
  pub runs : List Run
  pub are : AreRunsOf trips times frequencies days zone runs
  pub counted : length (connections_of runs) ≡ count
  pub too_many : MOST_CONNECTIONS < count

-- memory ran out, or the runs have too many connections, and this is their number
abbrev pub HasCause : List TripRow → List StopTime → List Frequency → List ServiceDay → Zone → LoadFault → Type 0
HasCause trips times frequencies days zone (TooManyConnections count) = HaveTooMany trips times frequencies days zone count
HasCause trips times frequencies days zone NoMemory = Unit {0}
