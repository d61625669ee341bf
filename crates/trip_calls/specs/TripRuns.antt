-- The runs of one trip, date by date and start by start.
use Rattle.std.specs.Prelude.{◌≡◌, ◌↔◌, ◌≢◌, ℕ, ◌<◌, ◌+◌, ◌≤◌, List, [], ◌∷◌, ◌++◌, map, unwrap_or, filter}
use Rattle.std.specs.List.{AllPairs, Contains, flat_map}
use Rattle.std.specs.declared.cmp.Ordering.TheVariants.{Equal}
use Rattle.lc_model.specs.Change.{is_same_id}
use Rattle.lc_model.specs.RunKey.{key_cmp}
use Rattle.lc_model.specs.declared.date.ServiceDate.{ServiceDate}
use Rattle.lc_model.specs.declared.key.RunKey.{RunKey}
use Rattle.lc_model.specs.declared.run.Run.{Run}
use Rattle.lc_time.specs.Zone.{anchor_of}
use Rattle.lc_time.specs.declared.zone.Zone.{Zone}
use Rattle.gtfs_tables.specs.declared.fields.trip_rows.TripRow.{TripRow}
use Rattle.gtfs_tables.specs.declared.trips.stop_times.StopTime.{StopTime}
use Rattle.gtfs_tables.specs.declared.calendars.frequency.Frequency.{Frequency}
use Rattle.service_days.specs.declared.service_day.ServiceDay.{ServiceDay}
use Rattle.trip_calls.specs.Runs.{IsRunOf, calls_of}
use Rattle.trip_calls.specs.declared.start.Start.{Start}

-- the key of the run of a trip on a date, with a start
abbrev pub key_of : List ℕ → ServiceDate → Start → RunKey
key_of trip date start = record { trip = trip; date = date; start = start.seconds; start_in_range = start.in_range }

-- the run of a trip on a date whose anchor is this moment, with a start
abbrev pub run_from : List StopTime → List ℕ → ServiceDate → ℕ → Start → Run
run_from rows trip date anchor start = record { key = key_of trip date start; calls = calls_of anchor start.seconds rows }

-- the runs of a trip on a date
abbrev pub runs_on : Zone → List StopTime → List ℕ → List Start → ServiceDay → List Run
runs_on zone rows trip starts day = map (run_from rows trip day.date (unwrap_or (anchor_of zone day.date) 0)) starts

-- the runs of a trip on the dates of its service
abbrev pub runs_of_trip : Zone → List StopTime → List ℕ → List Start → List ServiceDay → List Run
runs_of_trip zone rows trip starts dates = flat_map (runs_on zone rows trip starts) dates

-- the dates of a service
abbrev pub dates_of : List ServiceDay → List ℕ → List ServiceDay
dates_of days service = filter (λ (d : ServiceDay). is_same_id d.service service) days

-- the keys of two runs differ
abbrev pub AreUntied : Run → Run → Type 0
AreUntied x y = key_cmp x.key y.key ≢ Equal

-- these are the runs, in some order, each once
pub record AreAllRuns (trips : List TripRow) (times : List StopTime) (frequencies : List Frequency) (days : List ServiceDay) (zone : Zone) (runs : List Run) : Type 0 where
  pub all : (run : Run) → Contains runs run ↔ IsRunOf trips times frequencies days zone run
  pub once : AllPairs AreUntied runs

-- the new list is the old one with the runs of a trip, in some order, each once
pub record AddsRunsOf (trip : TripRow) (times : List StopTime) (frequencies : List Frequency) (days : List ServiceDay) (zone : Zone) (old new : List Run) : Type 0 where
  pub runs : List Run
  pub are : AreAllRuns (trip ∷ []) times frequencies days zone runs
  pub added : new ≡ old ++ runs

-- the sequences of the rows strictly increase
abbrev pub RiseInSequence : List StopTime → Type 0
RiseInSequence rows = AllPairs (λ (x y : StopTime). x.seq < y.seq) rows

-- each time that is counted from the moment by less than 200 hours is a moment
abbrev pub HasMoments : ℕ → Type 0
HasMoments anchor = anchor + 720_000 ≤ 253_402_128_000
