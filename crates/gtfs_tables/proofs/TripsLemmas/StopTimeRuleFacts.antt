-- The rules of a row of stop_times.txt, from their tests.
use Rattle.std.proofs.Common.{◌≡◌, ◌∙◌, ℕ, Bool, ◌&&◌, ◌||◌, ◌==◌, not, List, [], ◌∷◌, ap, codes, is_none, is_some, length}
use Rattle.std.specs.Str.{bytes_eq}
use Rattle.gtfs_rows.specs.Sheet.{Sheet}
use Rattle.lc_model.specs.declared.stop.Stop.{Stop}
use Rattle.gtfs_tables.specs.Fields.Columns.{row_at, text_at}
use Rattle.gtfs_tables.specs.Fields.Places.{first_place, is_unknown, stands_twice}
use Rattle.gtfs_tables.specs.Fields.Rules.{first_of}
use Rattle.gtfs_tables.specs.Fields.Times.{is_wrong_time}
use Rattle.gtfs_tables.specs.declared.fields.trip_rows.TripRow.{TripRow}
use Rattle.gtfs_tables.specs.Trips.Stops.{stop_id_of}
use Rattle.gtfs_tables.specs.Trips.StopTimeRows.{ids_of_stops, ids_of_trips, key_of, same_key, sequence_of, stop_time_keys, stop_time_rule_at, stop_time_rules}
use Rattle.gtfs_tables.specs.Trips.Trips.{trip_id_of}

-- tests with equal results give one first rule
first_same : (a6 a7 a8 a9 a11 a12 b6 b7 b8 b9 b11 b12 : Bool) → a6 ≡ b6 → a7 ≡ b7 → a8 ≡ b8 → a9 ≡ b9 → a11 ≡ b11 → a12 ≡ b12
    → first_of ((6, a6) ∷ (7, a7) ∷ (8, a8) ∷ (9, a9) ∷ (11, a11) ∷ (12, a12) ∷ []) ≡ first_of ((6, b6) ∷ (7, b7) ∷ (8, b8) ∷ (9, b9) ∷ (11, b11) ∷ (12, b12) ∷ [])
first_same a6 a7 a8 a9 a11 a12 b6 b7 b8 b9 b11 b12 e6 e7 e8 e9 e11 e12 =
    ap (λ b. first_of ((6, b) ∷ (7, a7) ∷ (8, a8) ∷ (9, a9) ∷ (11, a11) ∷ (12, a12) ∷ [])) e6
    ∙ ap (λ b. first_of ((6, b6) ∷ (7, b) ∷ (8, a8) ∷ (9, a9) ∷ (11, a11) ∷ (12, a12) ∷ [])) e7
    ∙ ap (λ b. first_of ((6, b6) ∷ (7, b7) ∷ (8, b) ∷ (9, a9) ∷ (11, a11) ∷ (12, a12) ∷ [])) e8
    ∙ ap (λ b. first_of ((6, b6) ∷ (7, b7) ∷ (8, b8) ∷ (9, b) ∷ (11, a11) ∷ (12, a12) ∷ [])) e9
    ∙ ap (λ b. first_of ((6, b6) ∷ (7, b7) ∷ (8, b8) ∷ (9, b9) ∷ (11, b) ∷ (12, a12) ∷ [])) e11
    ∙ ap (λ b. first_of ((6, b6) ∷ (7, b7) ∷ (8, b8) ∷ (9, b9) ∷ (11, b11) ∷ (12, b) ∷ [])) e12

pub rules_are : (stops : List Stop) (trips : List TripRow) (sheet : Sheet) (place : ℕ) (b6 b7 b8 b9 b11 b12 : Bool)
    → b6 ≡ (length (trip_id_of sheet (row_at sheet place)) == 0)
    → b7 ≡ (is_some (sequence_of sheet (row_at sheet place)) && stands_twice same_key (stop_time_keys sheet) place (key_of sheet (row_at sheet place)))
    → b8 ≡ is_unknown (ids_of_stops stops) (stop_id_of sheet (row_at sheet place))
    → b9 ≡ is_none (first_place bytes_eq (ids_of_trips trips) (trip_id_of sheet (row_at sheet place)))
    → b11 ≡ is_none (sequence_of sheet (row_at sheet place))
    → b12 ≡ (not (length (stop_id_of sheet (row_at sheet place)) == 0) && (is_wrong_time (text_at sheet (row_at sheet place) (codes "arrival_time")) || is_wrong_time (text_at sheet (row_at sheet place) (codes "departure_time"))))
    → first_of ((6, b6) ∷ (7, b7) ∷ (8, b8) ∷ (9, b9) ∷ (11, b11) ∷ (12, b12) ∷ []) ≡ stop_time_rule_at stops trips sheet place
unfolding stop_time_rules
rules_are stops trips sheet place b6 b7 b8 b9 b11 b12 e6 e7 e8 e9 e11 e12 = first_same b6 b7 b8 b9 b11 b12 _ _ _ _ _ _ e6 e7 e8 e9 e11 e12
