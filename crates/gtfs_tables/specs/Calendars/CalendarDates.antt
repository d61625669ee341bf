-- The dates of services (GTFS Schedule Reference, calendar_dates.txt).
use Rattle.std.specs.Prelude.{◌≡◌, ◌≢◌, ℕ, Bool, List, [], ◌∷◌, Option, Some, None, codes, is_none, map}
use Rattle.std.specs.List.{AllPairs}
use Rattle.gtfs_rows.specs.Sheet.{Sheet}
use Rattle.lc_model.specs.declared.date.ServiceDate.{ServiceDate}
use Rattle.lc_time.specs.Date.{date_said}
use Rattle.gtfs_tables.specs.Fields.AnyLength.{IsFirstFault, IsSoundTable}
use Rattle.gtfs_tables.specs.Fields.Columns.{row_at, text_at}
use Rattle.gtfs_tables.specs.Fields.PairPlaces.{is_same_pair}
use Rattle.gtfs_tables.specs.Fields.Places.{stands_twice}
use Rattle.gtfs_tables.specs.Fields.Rules.{first_of}
use Rattle.gtfs_tables.specs.Fields.Fields.{choice_said, id_said}
use Rattle.gtfs_tables.specs.declared.fields.fault.FileFault.{FileFault}
use Rattle.gtfs_tables.specs.declared.calendars.calendar_dates.DateRow.{DateRow}

-- no two rows are of one service and date
abbrev pub HaveOneRowADate : List DateRow → Type 0
HaveOneRowADate dates = AllPairs (λ (x y : DateRow). x.service ≡ y.service → x.date ≢ y.date) dates

-- the columns that the file has to have
abbrev pub calendar_dates_columns : List (List ℕ)
calendar_dates_columns = codes "service_id" ∷ codes "date" ∷ codes "exception_type" ∷ []

-- whether a row adds its service on its date: 1 adds, 2 takes away
abbrev pub added_said : List ℕ → Option Bool
added_said text = choice_said (codes "1") (codes "2") text

-- The service and the date of a row, as texts. A date has one text, so dates are the same exactly where their texts are;
-- of unreadable dates the texts are compared too.
abbrev pub date_key : Sheet → List (List ℕ) → List ℕ × List ℕ
date_key sheet row = (text_at sheet row (codes "service_id"), text_at sheet row (codes "date"))

-- the services and dates of the rows
abbrev pub date_keys_of : Sheet → List (List ℕ × List ℕ)
date_keys_of sheet = map (date_key sheet) sheet.rows

-- the rules of a row, in their order, each with whether it is broken, by what the fields of the row say
abbrev pub date_row_rules : Option (List ℕ) → Bool → Option Bool → Option ServiceDate → List (ℕ × Bool)
date_row_rules service again added date = (6, is_none service) ∷ (7, again) ∷ (11, is_none added) ∷ (12, is_none date) ∷ []

-- the row that these make, where each is there
abbrev pub date_row_of : Option (List ℕ) → Option Bool → Option ServiceDate → Option DateRow
date_row_of (Some service) (Some added) (Some date) = Some (record { service = service; date = date; added = added })
date_row_of _ _ _ = None

-- what a row says
unfoldable pub date_row_said : Sheet → List (List ℕ) → Option DateRow
date_row_said sheet row =
    date_row_of (id_said (text_at sheet row (codes "service_id"))) (added_said (text_at sheet row (codes "exception_type")))
    (date_said (text_at sheet row (codes "date")))

-- the first rule that the row at a place breaks: a service and a date are there once
unfoldable pub calendar_dates_rule : Sheet → ℕ → Option ℕ
calendar_dates_rule sheet place =
    let row = row_at sheet place in
    first_of (date_row_rules (id_said (text_at sheet row (codes "service_id")))
    (stands_twice is_same_pair (date_keys_of sheet) place (date_key sheet row))
    (added_said (text_at sheet row (codes "exception_type"))) (date_said (text_at sheet row (codes "date"))))

-- the bytes are a calendar_dates.txt, and these are its rows in order
pub record AreDates (bytes : List ℕ) (dates : List DateRow) : Type 0 where
  pub sheet : Sheet
  pub sound : IsSoundTable calendar_dates_columns calendar_dates_rule bytes sheet
  pub rows : map Some dates ≡ map (date_row_said sheet) sheet.rows

-- the bytes are no calendar_dates.txt, and this is what is wrong first
abbrev pub IsCalendarDatesFault : List ℕ → FileFault → Type 0
IsCalendarDatesFault bytes fault = IsFirstFault calendar_dates_columns calendar_dates_rule bytes fault
