-- The runs of a feed's trips on the dates of their services, in the feed's zone.
use Rattle.std.specs.Prelude.{◌≡◌, ◌↔◌, ℕ, pos, ◌+◌, ◌-◌, List, Option, Some, None, map}
use Rattle.std.specs.List.{Contains, enumerate_from}
use Rattle.lc_model.specs.Run.{InKeyOrder}
use Rattle.lc_model.specs.declared.call.Call.{Call}
use Rattle.lc_model.specs.declared.run.Run.{Run}
use Rattle.lc_time.specs.Zone.{anchor_of}
use Rattle.lc_time.specs.declared.zone.Zone.{Zone}
use Rattle.gtfs_tables.specs.declared.fields.trip_rows.TripRow.{TripRow}
use Rattle.gtfs_tables.specs.Trips.Timely.{rows_of}
use Rattle.gtfs_tables.specs.declared.trips.stop_times.StopTime.{StopTime}
use Rattle.gtfs_tables.specs.declared.calendars.frequency.Frequency.{Frequency}
use Rattle.service_days.specs.declared.service_day.ServiceDay.{ServiceDay}
use Rattle.trip_calls.specs.BlankTimes.{arrives_at, departs_at}
use Rattle.trip_calls.specs.Starts.{IsStartOf}

-- The call at the stop of the row at a place, where the second `first` of the rows falls on the moment `origin`.
abbrev pub call_at : ℕ → ℕ → List StopTime → ℕ → StopTime → Call
call_at origin first rows place row = record {
  stop = row.stop;
  seq = row.seq;
  arr = origin + (arrives_at rows place - first);
  dep = origin + (departs_at rows place - first);
  board = row.board;
  alight = row.alight;
  arr_delay = pos 0;
  dep_delay = pos 0;
}

-- the calls at the stops of all rows, in their order
abbrev pub calls_from : ℕ → ℕ → List StopTime → List Call
calls_from origin first rows = map (λ (p : ℕ × StopTime). call_at origin first rows p.0 p.1) (enumerate_from 0 rows)

-- The calls of a run from the anchor of its date. Without a start the times of the rows are counted from the anchor. With a
-- start the run begins so many seconds after the anchor, with the arrival of the first row.
abbrev pub calls_of : ℕ → Option ℕ → List StopTime → List Call
calls_of anchor None rows = calls_from anchor 0 rows
calls_of anchor (Some start) rows = calls_from (anchor + start) (arrives_at rows 0) rows

-- The run is one of a trip on a date of its service, with a start that the trip has.
pub record IsRunOf (trips : List TripRow) (times : List StopTime) (frequencies : List Frequency) (days : List ServiceDay) (zone : Zone) (run : Run) : Type 0 where
  pub trip : TripRow
  pub stands : Contains trips trip
  pub trip_is : run.key.trip ≡ trip.trip
  pub on_date : Contains days (record { service = trip.service; date = run.key.date })
  pub starts : IsStartOf frequencies trip.trip run.key.start
  pub anchor : ℕ
  pub anchor_is : anchor_of zone run.key.date ≡ Some anchor
  pub calls : run.calls ≡ calls_of anchor run.key.start (rows_of times trip.trip)

-- the list has exactly the runs, strictly by their keys
pub record AreRunsOf (trips : List TripRow) (times : List StopTime) (frequencies : List Frequency) (days : List ServiceDay) (zone : Zone) (runs : List Run) : Type 0 where
  pub all : (run : Run) → Contains runs run ↔ IsRunOf trips times frequencies days zone run
  pub in_order : InKeyOrder runs
