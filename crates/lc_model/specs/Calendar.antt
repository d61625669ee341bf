-- The Gregorian calendar, as ISO 8601 has it.
use Rattle.std.specs.Prelude.{ℕ, ◌≤◌, ◌%◌, Bool, not, ◌&&◌, ◌||◌, ◌==◌, if◌then◌else◌}

-- every fourth year, but of the centuries only every fourth
abbrev pub is_leap_year : ℕ → Bool
is_leap_year year = (year % 4 == 0) && (not (year % 100 == 0) || (year % 400 == 0))

-- thirty days have September, April, June and November
abbrev pub days_in_month : ℕ → ℕ → ℕ
days_in_month year month =
    if month == 2 then (if is_leap_year year then 29 else 28)
    else (if (month == 4) || (month == 6) || (month == 9) || (month == 11) then 30 else 31)

-- the calendar has this day, in the years 1 to 9999
pub record IsCivilDate (year month day : ℕ) : Type 0 where
  pub year_from : 1 ≤ year
  pub year_to : year ≤ 9999
  pub month_from : 1 ≤ month
  pub month_to : month ≤ 12
  pub day_from : 1 ≤ day
  pub day_to : day ≤ days_in_month year month
