-- Trips that start every so often (GTFS Schedule Reference, frequencies.txt).
use Rattle.std.specs.Prelude.{◌≡◌, ℕ, ◌==◌, ◌||◌, if◌then◌else◌, Bool, List, [], ◌∷◌, Option, Some, None, codes, is_none, map}
use Rattle.gtfs_rows.specs.Sheet.{Sheet}
use Rattle.lc_time.specs.Clock.{gtfs_time_said}
use Rattle.gtfs_tables.specs.Fields.AnyLength.{IsFirstFault, IsSoundTable}
use Rattle.gtfs_tables.specs.Fields.Columns.{row_at, text_at}
use Rattle.lc_time.specs.Digits.{u32_said}
use Rattle.gtfs_tables.specs.Fields.Places.{is_unknown}
use Rattle.gtfs_tables.specs.Fields.Rules.{first_of}
use Rattle.gtfs_tables.specs.Fields.Fields.{id_said}
use Rattle.gtfs_tables.specs.declared.fields.fault.FileFault.{FileFault}
use Rattle.gtfs_tables.specs.declared.fields.trip_rows.TripRow.{TripRow}
use Rattle.gtfs_tables.specs.declared.calendars.frequency.Frequency.{Frequency}

-- the columns that the file has to have
abbrev pub frequencies_columns : List (List ℕ)
frequencies_columns = codes "trip_id" ∷ codes "start_time" ∷ codes "end_time" ∷ codes "headway_secs" ∷ []

-- the ids of trips
abbrev pub ids_of_trips : List TripRow → List (List ℕ)
ids_of_trips trips = map (λ (t : TripRow). t.trip) trips

-- a number that is not 0
abbrev pub positive : Option ℕ → Option ℕ
positive None = None
positive (Some n) = if n == 0 then None else Some n

-- the seconds from one start to the next, at least one
abbrev pub headway_said : List ℕ → Option ℕ
headway_said text = positive (u32_said text)

-- the rules of a row, in their order, each with whether it is broken, by what the fields of the row say
abbrev pub frequency_rules : Option (List ℕ) → Bool → Option ℕ → Option ℕ → Option ℕ → List (ℕ × Bool)
frequency_rules trip unknown headway from to =
    (6, is_none trip) ∷ (9, unknown) ∷ (11, is_none headway) ∷ (12, is_none from || is_none to) ∷ []

-- the row that these make, where each is there
abbrev pub frequency_of : Option (List ℕ) → Option ℕ → Option ℕ → Option ℕ → Option Frequency
frequency_of (Some trip) (Some headway) (Some from) (Some to) = Some (record { trip = trip; from = from; to = to; headway = headway })
frequency_of _ _ _ _ = None

-- what a row says
unfoldable pub frequency_said : Sheet → List (List ℕ) → Option Frequency
frequency_said sheet row =
    frequency_of (id_said (text_at sheet row (codes "trip_id"))) (headway_said (text_at sheet row (codes "headway_secs")))
    (gtfs_time_said (text_at sheet row (codes "start_time"))) (gtfs_time_said (text_at sheet row (codes "end_time")))

-- the first rule that the row at a place breaks, where these are the trips
unfoldable pub frequencies_rule : List TripRow → Sheet → ℕ → Option ℕ
frequencies_rule trips sheet place =
    let row = row_at sheet place in
    let trip = text_at sheet row (codes "trip_id") in
    first_of (frequency_rules (id_said trip) (is_unknown (ids_of_trips trips) trip) (headway_said (text_at sheet row (codes "headway_secs")))
    (gtfs_time_said (text_at sheet row (codes "start_time"))) (gtfs_time_said (text_at sheet row (codes "end_time"))))

-- the bytes are a frequencies.txt of these trips, and these are its rows in order
pub record AreFrequencies (trips : List TripRow) (bytes : List ℕ) (frequencies : List Frequency) : Type 0 where
  pub sheet : Sheet
  pub sound : IsSoundTable frequencies_columns (frequencies_rule trips) bytes sheet
  pub rows : map Some frequencies ≡ map (frequency_said sheet) sheet.rows

-- the bytes are no frequencies.txt of these trips, and this is what is wrong first
abbrev pub IsFrequenciesFault : List TripRow → List ℕ → FileFault → Type 0
IsFrequenciesFault trips bytes fault = IsFirstFault frequencies_columns (frequencies_rule trips) bytes fault
