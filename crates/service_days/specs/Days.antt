-- The dates of services (GTFS Schedule Reference, calendar.txt and calendar_dates.txt).
use Rattle.std.specs.Prelude.{◌≡◌, ◌⊎◌, ◌↔◌, ℕ, ℤ, pos, ◌+ℤ◌, ◌≤ℤ◌, ◌<ℤ◌, Bool, true, false, List, IsTrue, slice_index_or}
use Rattle.std.specs.List.{Any, Contains}
use Rattle.std.specs.Ordering.{on, then_cmp}
use Rattle.std.specs.declared.cmp.Ordering.{Ordering}
use Rattle.jiff_core.specs.Calendar.{days_from_civil, weekday_number}
use Rattle.lc_model.specs.Order.{IsStrict}
use Rattle.lc_model.specs.RunKey.{date_cmp}
use Rattle.lc_model.specs.Text.{id_cmp}
use Rattle.lc_model.specs.declared.date.ServiceDate.{ServiceDate}
use Rattle.gtfs_tables.specs.declared.calendars.calendar.Weekly.{Weekly}
use Rattle.gtfs_tables.specs.declared.calendars.calendar_dates.DateRow.{DateRow}
use Rattle.service_days.specs.declared.service_day.ServiceDay.{ServiceDay}

-- the number of the date's day: 0 for 1970-01-01, and negative before it
abbrev pub day_number : ServiceDate → ℤ
day_number date = days_from_civil (pos date.year) date.month date.day

-- the date's day of the week, from 0 for Monday
abbrev pub weekday_of : ServiceDate → ℕ
weekday_of date = weekday_number (day_number date)

-- The row runs its service on the date: its day of the week is set, and it is in the range, both ends included.
pub record RunsWeekly (row : Weekly) (date : ServiceDate) : Type 0 where
  pub weekday_set : IsTrue (slice_index_or row.days (weekday_of date) false)
  pub not_before : day_number row.from ≤ℤ day_number date
  pub not_after : day_number date ≤ℤ day_number row.to

-- the row adds the service on the date, or takes it away
pub record IsRowOf (row : DateRow) (service : List ℕ) (date : ServiceDate) (added : Bool) : Type 0 where
  pub service_is : row.service ≡ service
  pub date_is : row.date ≡ date
  pub added_is : row.added ≡ added

-- a row of the service runs it on the date
abbrev pub IsRegular : List Weekly → List ℕ → ServiceDate → Type 0
IsRegular weekly service date = Any (λ (row : Weekly). (row.service ≡ service) × RunsWeekly row date) weekly

-- a row adds the service on the date
abbrev pub IsAdded : List DateRow → List ℕ → ServiceDate → Type 0
IsAdded dates service date = Any (λ (row : DateRow). IsRowOf row service date true) dates

-- a row takes the service away on the date
abbrev pub IsRemoved : List DateRow → List ℕ → ServiceDate → Type 0
IsRemoved dates service date = Any (λ (row : DateRow). IsRowOf row service date false) dates

-- the service runs on the date
pub record RunsOn (weekly : List Weekly) (dates : List DateRow) (service : List ℕ) (date : ServiceDate) : Type 0 where
  pub regular_or_added : IsRegular weekly service date ⊎ IsAdded dates service date
  pub not_removed : ¬ IsRemoved dates service date

-- the date is one of so many from the first on
pub record IsInWindow (first : ServiceDate) (count : ℕ) (date : ServiceDate) : Type 0 where
  pub not_before : day_number first ≤ℤ day_number date
  pub not_after : day_number date <ℤ (day_number first +ℤ pos count)

-- by service, then by date
abbrev pub day_cmp : ServiceDay → ServiceDay → Ordering
day_cmp = then_cmp (on (λ (d : ServiceDay). d.service) id_cmp) (on (λ (d : ServiceDay). d.date) date_cmp)

-- strictly by service and date
abbrev pub InDayOrder : List ServiceDay → Type 0
InDayOrder days = IsStrict day_cmp days

-- the list has exactly the dates of the window on which services run, strictly by service and date
pub record AreDays (weekly : List Weekly) (dates : List DateRow) (first : ServiceDate) (count : ℕ) (days : List ServiceDay) : Type 0 where
  pub all : (d : ServiceDay) → Contains days d ↔ (IsInWindow first count d.date × RunsOn weekly dates d.service d.date)
  pub in_order : InDayOrder days
