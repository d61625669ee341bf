-- What trips.txt says, and the rules of its rows (GTFS Schedule Reference, trips.txt).
use Rattle.std.specs.Prelude.{◌≡◌, ℕ, ◌==◌, ◌||◌, Bool, List, [], ◌∷◌, Option, map, codes, length}
use Rattle.std.specs.Str.{bytes_eq}
use Rattle.gtfs_rows.specs.Sheet.{Sheet}
use Rattle.gtfs_tables.specs.Fields.Columns.{row_at, text_at}
use Rattle.gtfs_tables.specs.Fields.Places.{stands_twice}
use Rattle.gtfs_tables.specs.Fields.Rules.{first_of}
use Rattle.gtfs_tables.specs.Fields.Table.{IsFileFault, IsSound}
use Rattle.gtfs_tables.specs.declared.fields.fault.FileFault.{FileFault}
use Rattle.gtfs_tables.specs.declared.fields.trip_rows.TripRow.{TripRow}

-- the columns that the file has to have
abbrev pub trips_columns : List (List ℕ)
trips_columns = codes "trip_id" ∷ codes "service_id" ∷ []

-- the most rows that are read
abbrev pub most_trips : ℕ
most_trips = 500_000

-- the trip_id of a row
abbrev pub trip_id_of : Sheet → List (List ℕ) → List ℕ
trip_id_of sheet row = text_at sheet row (codes "trip_id")

-- the service_id of a row
abbrev pub service_of : Sheet → List (List ℕ) → List ℕ
service_of sheet row = text_at sheet row (codes "service_id")

-- the ids of the rows, in the order of the file
abbrev pub trip_ids : Sheet → List (List ℕ)
trip_ids sheet = map (trip_id_of sheet) sheet.rows

-- The rules of the row at a place: 6, its id or its service is empty; 7, its id came before.
abbrev pub trip_rules : Sheet → ℕ → List (ℕ × Bool)
trip_rules sheet place =
    let id = trip_id_of sheet (row_at sheet place) in
    let service = service_of sheet (row_at sheet place) in
    (6, (length id == 0) || (length service == 0))
    ∷ (7, stands_twice bytes_eq (trip_ids sheet) place id)
    ∷ []

-- the first rule that the row at a place breaks
abbrev pub trip_rule_at : Sheet → ℕ → Option ℕ
trip_rule_at sheet place = first_of (trip_rules sheet place)

-- the trip of a row
abbrev pub trip_of : Sheet → List (List ℕ) → TripRow
trip_of sheet row = record { trip = trip_id_of sheet row; service = service_of sheet row }

-- no rule is broken, and these are the trips of the rows, in the order of the file
pub record AreTripsOf (bytes : List ℕ) (trips : List TripRow) : Type 0 where
  pub sheet : Sheet
  pub sound : IsSound trips_columns most_trips trip_rule_at bytes sheet
  pub are : trips ≡ map (trip_of sheet) sheet.rows

-- what is wrong first with the file
abbrev pub IsTripsFault : List ℕ → FileFault → Type 0
IsTripsFault bytes fault = IsFileFault trips_columns most_trips trip_rule_at bytes fault
