-- The tables of the feed, as texts.
use Rattle.std.specs.Prelude.{ℕ, zero, suc, ◌+◌, List, [], ◌++◌, codes, decimal}
use Rattle.lc_time.specs.Clock.{clock_text_of}
use Rattle.lc_time.specs.Date.{date_text_of}
use Rattle.cli_drill.specs.Network.{arrives_at, departs_at, line_of, stop_at, stop_count, trip_count, turn_of}

-- the rows of the numbers from 0 on, so many
unfoldable pub rows_of : (ℕ → List ℕ) → ℕ → List ℕ
rows_of row zero = []
rows_of row (suc count) = rows_of row count ++ row count

-- the name of a stop
abbrev pub stop_name : ℕ → List ℕ
stop_name stop = codes "s" ++ decimal stop

-- the name of a trip: its line, and which of the line's trips it is
abbrev pub trip_name : ℕ → List ℕ
trip_name trip = codes "t" ++ decimal (line_of trip) ++ codes "-" ++ decimal (turn_of trip)

-- the row of a stop
abbrev pub stop_row : ℕ → List ℕ
stop_row stop = stop_name stop ++ codes "," ++ stop_name stop ++ codes "\n"

abbrev pub stops_text : ℕ → List ℕ
stops_text side = codes "stop_id,stop_name\n" ++ rows_of stop_row (stop_count side)

-- the row of a trip; all trips have one service
abbrev pub trip_row : ℕ → List ℕ
trip_row trip = codes "r,d," ++ trip_name trip ++ codes "\n"

abbrev pub trips_text : ℕ → List ℕ
trips_text side = codes "route_id,service_id,trip_id\n" ++ rows_of trip_row (trip_count side)

-- the row of a trip at a place
abbrev pub time_row : ℕ → ℕ → ℕ → List ℕ
time_row side trip place =
    trip_name trip ++ codes "," ++ clock_text_of (arrives_at trip place) ++ codes "," ++ clock_text_of (departs_at trip place)
    ++ codes "," ++ stop_name (stop_at side (line_of trip) place) ++ codes "," ++ decimal (place + 1) ++ codes "\n"

-- the rows of a trip, one a place
abbrev pub time_rows : ℕ → ℕ → List ℕ
time_rows side trip = rows_of (time_row side trip) side

abbrev pub times_text : ℕ → List ℕ
times_text side = codes "trip_id,arrival_time,departure_time,stop_id,stop_sequence\n" ++ rows_of (time_rows side) (trip_count side)

-- the row of a date of the service, from 2024-05-01 on
abbrev pub date_row : ℕ → List ℕ
date_row day = codes "d," ++ date_text_of 2024 5 (1 + day) ++ codes ",1\n"

abbrev pub dates_text : ℕ → List ℕ
dates_text days = codes "service_id,date,exception_type\n" ++ rows_of date_row days
