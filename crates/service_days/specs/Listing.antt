-- How a list of days grows, row by row.
use Rattle.std.specs.Prelude.{◌≡◌, ◌⊎◌, ◌↔◌, ℕ, true, false, List}
use Rattle.std.specs.List.{Any, Contains}
use Rattle.lc_model.specs.declared.date.ServiceDate.{ServiceDate}
use Rattle.gtfs_tables.specs.declared.calendars.calendar.Weekly.{Weekly}
use Rattle.gtfs_tables.specs.declared.calendars.calendar_dates.DateRow.{DateRow}
use Rattle.service_days.specs.Days.{IsAdded, IsInWindow, IsRegular, IsRowOf, RunsWeekly}
use Rattle.service_days.specs.declared.service_day.ServiceDay.{ServiceDay}

-- the new list has what the old one had, and everything that is so
pub record Gains {X : Type 0} (IsSo : X → Type 0) (old new : List X) : Type 0 where
  pub all : (x : X) → Contains new x ↔ (Contains old x ⊎ IsSo x)

-- the day is that of the service on the date, and it is not taken away
pub record IsKept (removed : List ServiceDay) (service : List ℕ) (date : ServiceDate) (day : ServiceDay) : Type 0 where
  pub service_is : service ≡ day.service
  pub date_is : date ≡ day.date
  pub stays : ¬ Contains removed day

-- the row of calendar.txt runs its service on the date, and this is that day
pub record IsRegularOn (removed : List ServiceDay) (row : Weekly) (date : ServiceDate) (day : ServiceDay) : Type 0 where
  pub is : IsKept removed row.service date day
  pub runs : RunsWeekly row date

-- the day is one of the window that the row of calendar.txt gives
abbrev pub IsRegularBy : List ServiceDay → List ServiceDate → Weekly → ServiceDay → Type 0
IsRegularBy removed window row day = Any (λ (date : ServiceDate). IsRegularOn removed row date day) window

-- the day is one of the window that the row of calendar_dates.txt adds
pub record IsAddedBy (removed : List ServiceDay) (first : ServiceDate) (count : ℕ) (row : DateRow) (day : ServiceDay) : Type 0 where
  pub is : IsKept removed row.service row.date day
  pub added : row.added ≡ true
  pub in_window : IsInWindow first count row.date

-- the day is the one that the row of calendar_dates.txt takes away
abbrev pub IsRemovedBy : DateRow → ServiceDay → Type 0
IsRemovedBy row day = IsRowOf row day.service day.date false

-- the day is one of the window on which the service runs or is added, and it is not taken away
pub record IsListed (removed : List ServiceDay) (weekly : List Weekly) (dates : List DateRow) (first : ServiceDate) (count : ℕ) (day : ServiceDay) : Type 0 where
  pub in_window : IsInWindow first count day.date
  pub regular_or_added : IsRegular weekly day.service day.date ⊎ IsAdded dates day.service day.date
  pub stays : ¬ Contains removed day
