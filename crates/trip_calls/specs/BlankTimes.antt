-- When a trip is at the stops of its rows, also of those without a time (GTFS Schedule Reference, stop_times.txt:
-- arrival_time). The rows of a trip are at places from 0 on, in the order of their sequences.
use Rattle.std.specs.Prelude.{ℕ, zero, suc, ◌+◌, ◌-◌, ◌*◌, ◌/◌, Bool, false, if◌then◌else◌, List, unwrap_or, option_and_then}
use Rattle.std.specs.List.{slice_get, position_or_len}
use Rattle.std.specs.Option.{option_map_or}
use Rattle.std.proofs.Common.{drop}
use Rattle.gtfs_tables.specs.Trips.Timely.{arrival_of, departure_of, is_timed}
use Rattle.gtfs_tables.specs.declared.trips.stop_times.StopTime.{StopTime}

-- the row at a place has at least one of its two times
abbrev pub is_timed_at : List StopTime → ℕ → Bool
is_timed_at rows place = option_map_or is_timed (slice_get rows place) false

-- The arrival of the row at a place. One with one of its two times uses it for both.
abbrev pub arrival_at : List StopTime → ℕ → ℕ
arrival_at rows place = unwrap_or (option_and_then arrival_of (slice_get rows place)) 0

-- the departure of the row at a place
abbrev pub departure_at : List StopTime → ℕ → ℕ
departure_at rows place = unwrap_or (option_and_then departure_of (slice_get rows place)) 0

-- the nearest place before this one whose row has a time
abbrev pub timed_before : List StopTime → ℕ → ℕ
timed_before rows zero = zero
timed_before rows (suc place) = if is_timed_at rows place then place else timed_before rows place

-- the nearest place after this one whose row has a time
abbrev pub timed_after : List StopTime → ℕ → ℕ
timed_after rows place = place + 1 + position_or_len is_timed (drop (place + 1) rows)

-- Where a trip departs at one time at a place and arrives later at a later place, when it is at a place between
-- them. The seconds between are spread evenly over the places.
abbrev pub time_between : ℕ → ℕ → ℕ → ℕ → ℕ → ℕ
time_between departs before place after arrives = departs + (arrives - departs) * (place - before) / (after - before)

-- the time of a row without one, between the nearest rows with a time
abbrev pub blank_time : List StopTime → ℕ → ℕ
blank_time rows place =
    let before = timed_before rows place in
    let after = timed_after rows place in
    time_between (departure_at rows before) before place after (arrival_at rows after)

-- when the trip arrives at the stop of the row at a place, in seconds of the service day
abbrev pub arrives_at : List StopTime → ℕ → ℕ
arrives_at rows place = if is_timed_at rows place then arrival_at rows place else blank_time rows place

-- when it departs there, in seconds of the service day
abbrev pub departs_at : List StopTime → ℕ → ℕ
departs_at rows place = if is_timed_at rows place then departure_at rows place else blank_time rows place
