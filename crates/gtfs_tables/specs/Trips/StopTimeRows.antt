-- The rules of the rows of stop_times.txt, each looked at by itself (GTFS Schedule Reference, stop_times.txt).
use Rattle.std.specs.Prelude.{ℕ, ◌==◌, ◌&&◌, ◌||◌, Bool, not, nat_eq, List, [], ◌∷◌, Option, is_none, is_some, map, codes, length}
use Rattle.std.specs.Option.{option_eq}
use Rattle.std.specs.Str.{bytes_eq}
use Rattle.gtfs_rows.specs.Sheet.{Sheet}
use Rattle.lc_model.specs.declared.stop.Stop.{Stop}
use Rattle.gtfs_tables.specs.Fields.Columns.{row_at, text_at}
use Rattle.lc_time.specs.Digits.{u32_said}
use Rattle.gtfs_tables.specs.Fields.Places.{first_place, is_unknown, stands_twice}
use Rattle.gtfs_tables.specs.Fields.Rules.{first_of}
use Rattle.gtfs_tables.specs.Fields.Times.{is_wrong_time}
use Rattle.gtfs_tables.specs.declared.fields.trip_rows.TripRow.{TripRow}
use Rattle.gtfs_tables.specs.Trips.Stops.{stop_id_of}
use Rattle.gtfs_tables.specs.Trips.Trips.{trip_id_of}

-- the columns that the file has to have
abbrev pub stop_times_columns : List (List ℕ)
stop_times_columns =
    codes "trip_id" ∷ codes "stop_id" ∷ codes "stop_sequence" ∷ codes "arrival_time" ∷ codes "departure_time" ∷ []

-- the most rows that are read
abbrev pub most_stop_times : ℕ
most_stop_times = 8_000_000

-- the number in the sequence of the trip, where the text is one
abbrev pub sequence_of : Sheet → List (List ℕ) → Option ℕ
sequence_of sheet row = u32_said (text_at sheet row (codes "stop_sequence"))

-- the trip and the number of a row, by which rows differ
abbrev pub key_of : Sheet → List (List ℕ) → List ℕ × Option ℕ
key_of sheet row = (trip_id_of sheet row, sequence_of sheet row)

-- keys are the same where their trips and their numbers are
abbrev pub same_key : List ℕ × Option ℕ → List ℕ × Option ℕ → Bool
same_key x y = bytes_eq x.0 y.0 && option_eq nat_eq x.1 y.1

-- the keys of the rows, in the order of the file
abbrev pub stop_time_keys : Sheet → List (List ℕ × Option ℕ)
stop_time_keys sheet = map (key_of sheet) sheet.rows

-- the ids of stops
abbrev pub ids_of_stops : List Stop → List (List ℕ)
ids_of_stops stops = map (λ (s : Stop). s.id) stops

-- the ids of trips
abbrev pub ids_of_trips : List TripRow → List (List ℕ)
ids_of_trips trips = map (λ (t : TripRow). t.trip) trips

-- Of the row at a place. 6, its trip is empty. 7, an earlier row has its trip and its number. 8, its stop is not known. 9, its
-- trip is not known. 11, its number is unreadable. 12, one of its times is. Without a stop 8 and 12 are not tested.
unfoldable pub stop_time_rules : List Stop → List TripRow → Sheet → ℕ → List (ℕ × Bool)
stop_time_rules stops trips sheet place =
    let row = row_at sheet place in
    let trip = trip_id_of sheet row in
    let stop = stop_id_of sheet row in
    (6, length trip == 0)
    ∷ (7, is_some (sequence_of sheet row) && stands_twice same_key (stop_time_keys sheet) place (key_of sheet row))
    ∷ (8, is_unknown (ids_of_stops stops) stop)
    ∷ (9, is_none (first_place bytes_eq (ids_of_trips trips) trip))
    ∷ (11, is_none (sequence_of sheet row))
    ∷ (12, not (length stop == 0) && (is_wrong_time (text_at sheet row (codes "arrival_time")) || is_wrong_time (text_at sheet row (codes "departure_time"))))
    ∷ []

-- the first rule that the row at a place breaks
abbrev pub stop_time_rule_at : List Stop → List TripRow → Sheet → ℕ → Option ℕ
stop_time_rule_at stops trips sheet place = first_of (stop_time_rules stops trips sheet place)
