-- The weekdays of services (GTFS Schedule Reference, calendar.txt).
use Rattle.std.specs.Prelude.{◌≡◌, ◌≢◌, ℕ, ◌||◌, Bool, List, [], ◌∷◌, ◌++◌, Option, Some, None, codes, is_none, map}
use Rattle.std.specs.List.{AllPairs}
use Rattle.std.specs.Str.{bytes_eq}
use Rattle.gtfs_rows.specs.Sheet.{Sheet}
use Rattle.lc_model.specs.declared.date.ServiceDate.{ServiceDate}
use Rattle.lc_time.specs.Date.{date_said}
use Rattle.gtfs_tables.specs.Fields.AnyLength.{IsFirstFault, IsSoundTable}
use Rattle.gtfs_tables.specs.Fields.Columns.{row_at, text_at}
use Rattle.gtfs_tables.specs.Fields.Places.{stands_twice}
use Rattle.gtfs_tables.specs.Fields.Rules.{first_of}
use Rattle.gtfs_tables.specs.Fields.Fields.{all_said, choice_said, id_said}
use Rattle.gtfs_tables.specs.declared.fields.fault.FileFault.{FileFault}
use Rattle.gtfs_tables.specs.declared.calendars.calendar.Weekly.{Weekly}

-- no two rows are of one service
abbrev pub HaveOneRowAService : List Weekly → Type 0
HaveOneRowAService weekly = AllPairs (λ (x y : Weekly). x.service ≢ y.service) weekly

-- the columns of the weekdays
abbrev pub weekday_columns : List (List ℕ)
weekday_columns =
    codes "monday" ∷ codes "tuesday" ∷ codes "wednesday" ∷ codes "thursday" ∷ codes "friday" ∷ codes "saturday" ∷ codes "sunday" ∷ []

-- the columns that the file has to have
abbrev pub calendar_columns : List (List ℕ)
calendar_columns = codes "service_id" ∷ (weekday_columns ++ codes "start_date" ∷ codes "end_date" ∷ [])

-- whether a service runs on a weekday: 1 says that it does, 0 that it does not
abbrev pub weekday_said : List ℕ → Option Bool
weekday_said text = choice_said (codes "1") (codes "0") text

-- on which weekdays the service of a row runs
unfoldable pub weekdays_said : Sheet → List (List ℕ) → Option (List Bool)
weekdays_said sheet row = all_said (map (λ name. weekday_said (text_at sheet row name)) weekday_columns)

-- the services of the rows, as texts
abbrev pub services_of : Sheet → List (List ℕ)
services_of sheet = map (λ row. text_at sheet row (codes "service_id")) sheet.rows

-- the rules of a row, in their order, each with whether it is broken, by what the fields of the row say
abbrev pub weekly_rules : Option (List ℕ) → Bool → Option (List Bool) → Option ServiceDate → Option ServiceDate → List (ℕ × Bool)
weekly_rules service again days from to =
    (6, is_none service) ∷ (7, again) ∷ (11, is_none days) ∷ (12, is_none from || is_none to) ∷ []

-- the row that these make, where each is there
abbrev pub weekly_of : Option (List ℕ) → Option (List Bool) → Option ServiceDate → Option ServiceDate → Option Weekly
weekly_of (Some service) (Some days) (Some from) (Some to) = Some (record { service = service; days = days; from = from; to = to })
weekly_of _ _ _ _ = None

-- what a row says
unfoldable pub weekly_said : Sheet → List (List ℕ) → Option Weekly
weekly_said sheet row =
    weekly_of (id_said (text_at sheet row (codes "service_id"))) (weekdays_said sheet row)
    (date_said (text_at sheet row (codes "start_date"))) (date_said (text_at sheet row (codes "end_date")))

-- the first rule that the row at a place breaks: a service is there once
unfoldable pub calendar_rule : Sheet → ℕ → Option ℕ
calendar_rule sheet place =
    let row = row_at sheet place in
    let service = text_at sheet row (codes "service_id") in
    first_of (weekly_rules (id_said service) (stands_twice bytes_eq (services_of sheet) place service) (weekdays_said sheet row)
    (date_said (text_at sheet row (codes "start_date"))) (date_said (text_at sheet row (codes "end_date"))))

-- the bytes are a calendar.txt, and these are its rows in order
pub record AreWeekly (bytes : List ℕ) (weekly : List Weekly) : Type 0 where
  pub sheet : Sheet
  pub sound : IsSoundTable calendar_columns calendar_rule bytes sheet
  pub rows : map Some weekly ≡ map (weekly_said sheet) sheet.rows

-- the bytes are no calendar.txt, and this is what is wrong first
abbrev pub IsCalendarFault : List ℕ → FileFault → Type 0
IsCalendarFault bytes fault = IsFirstFault calendar_columns calendar_rule bytes fault
