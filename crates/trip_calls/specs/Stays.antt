-- The stays of a trip at its stops, row by row.
use Rattle.std.specs.Prelude.{◌≡◌, ℕ, pos, ◌+◌, ◌-◌, ◌<◌, ◌≤◌, true, false, List, [], ◌∷◌, Option, Some, None, length, map, unwrap_or, if◌then◌else◌}
use Rattle.std.specs.List.{All, range_with_len, slice_get}
use Rattle.std.specs.Option.{ForSome, option_map_or}
use Rattle.lc_model.specs.declared.call.Call.{Call}
use Rattle.gtfs_tables.specs.Trips.Timely.{arrival_of, departure_of, is_timed}
use Rattle.gtfs_tables.specs.declared.trips.stop_times.StopTime.{StopTime}
use Rattle.trip_calls.specs.BlankTimes.{arrives_at, departs_at, is_timed_at, time_between}
use Rattle.trip_calls.specs.declared.stays.Stay.{Stay}

-- the stay at the stop of the row at a place
abbrev pub stay_at : List StopTime → ℕ → Stay
stay_at rows place = record { arr = arrives_at rows place; dep = departs_at rows place }

-- the stays of so many places
abbrev pub stays_upto : List StopTime → ℕ → List Stay
stays_upto rows count = map (stay_at rows) (range_with_len 0 count)

-- the stay that a row says, if it has a time
abbrev pub stay_said : StopTime → Option Stay
stay_said row =
    if is_timed row then Some (record { arr = unwrap_or (arrival_of row) 0; dep = unwrap_or (departure_of row) 0 }) else None

-- the stays at the places between two, where the trip departs from the one and arrives at the other
abbrev pub blank_stays : ℕ → ℕ → ℕ → ℕ → List Stay
blank_stays departs before after arrives =
    map (λ place. record { arr = time_between departs before place after arrives; dep = time_between departs before place after arrives })
    (range_with_len (before + 1) (after - (before + 1)))

-- the stays at the places between the last of these stays and a place at which the trip arrives at a second
abbrev pub blank_after : List Stay → ℕ → ℕ → List Stay
blank_after stays after arrives =
    option_map_or (λ (last : Stay). blank_stays last.dep (length stays - 1) after arrives) (slice_get stays (length stays - 1)) []

-- the last of the stays ends at this second or before it
abbrev pub NoneLater : List Stay → ℕ → Type 0
NoneLater stays arrives = ForSome (slice_get stays (length stays - 1)) (λ (last : Stay). last.dep ≤ arrives)

-- the arrival of the first stay, if there is one
abbrev pub first_arrival : List Stay → ℕ
first_arrival [] = 0
first_arrival (stay ∷ rest) = stay.arr

-- Of the rows up to a place, these are the stays up to the last row with a time.
pub record AreStaysTo (rows : List StopTime) (place : ℕ) (stays : List Stay) : Type 0 where
  pub are : stays ≡ stays_upto rows (length stays)
  pub not_past : length stays ≤ place
  pub begun : 0 < place → 0 < length stays
  pub last_timed : 0 < length stays → is_timed_at rows (length stays - 1) ≡ true
  pub blank : (k : ℕ) → length stays ≤ k → k < place → is_timed_at rows k ≡ false

-- the stays are in a service day
abbrev pub AreInDay : List Stay → Type 0
AreInDay stays = All (λ (s : Stay). (s.arr < 360_000) × (s.dep < 360_000)) stays

-- the call of a stay at the stop of a row, where the second `first` falls on the moment `origin`
abbrev pub call_from : ℕ → ℕ → StopTime → Stay → Call
call_from origin first row stay = record {
  stop = row.stop;
  seq = row.seq;
  arr = origin + (stay.arr - first);
  dep = origin + (stay.dep - first);
  board = row.board;
  alight = row.alight;
  arr_delay = pos 0;
  dep_delay = pos 0;
}
