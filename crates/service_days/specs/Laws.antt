-- A word says one clock. The dates of services are one list. In UTC a service day is a day of 24 hours from midnight.
use Rattle.std.specs.Prelude.{◌≡◌, ◌+◌, ◌*◌, ◌<◌, ℕ, pos, List, Option, Some}
use Rattle.lc_model.specs.declared.date.ServiceDate.{ServiceDate}
use Rattle.lc_time.specs.Calendar.{day_at}
use Rattle.lc_time.specs.Zone.{anchor_of, date_shown, moment_at}
use Rattle.lc_time.specs.declared.zone.Zone.{Zone}
use Rattle.lc_time.specs.declared.zone.Zone.TheVariants.{Utc}
use Rattle.gtfs_tables.specs.declared.calendars.calendar.Weekly.{Weekly}
use Rattle.gtfs_tables.specs.declared.calendars.calendar_dates.DateRow.{DateRow}
use Rattle.service_days.specs.Days.{AreDays}
use Rattle.service_days.specs.ZoneWord.{SaysZone}
use Rattle.service_days.specs.declared.service_day.ServiceDay.{ServiceDay}

-- two zones have the same anchors, and show the same dates
pub record ShowSame (a b : Zone) : Type 0 where
  pub anchors : (date : ServiceDate) → anchor_of a date ≡ anchor_of b date
  pub dates : (moment : ℕ) → date_shown a moment ≡ date_shown b moment

-- zones that one word says, with one file, show the same
abbrev pub OneZone : Type 0
OneZone =
    (word : List ℕ) (file : Option (List ℕ)) (a b : Zone) → SaysZone word file a → SaysZone word file b → ShowSame a b

-- services have one list of dates in a window
abbrev pub OneListOfDays : Type 0
OneListOfDays =
    (weekly : List Weekly) (dates : List DateRow) (first : ServiceDate) (count : ℕ) (a b : List ServiceDay)
    → AreDays weekly dates first count a → AreDays weekly dates first count b → a ≡ b

-- in UTC the anchor of a date from 1970 on is its midnight
abbrev pub MidnightInUtc : Type 0
MidnightInUtc =
    (date : ServiceDate) (day : ℕ) → day < 2_932_897 → date.year ≡ (day_at day).year → date.month ≡ (day_at day).month
    → date.day ≡ (day_at day).day → anchor_of Utc date ≡ moment_at (pos (86_400 * day))

-- in UTC the clock shows a date in the 24 hours from its anchor on
abbrev pub ShownInUtc : Type 0
ShownInUtc =
    (date : ServiceDate) (anchor seconds : ℕ) → anchor_of Utc date ≡ Some anchor → seconds < 86_400
    → date_shown Utc (anchor + seconds) ≡ Some date
