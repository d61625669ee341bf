-- The days of the Gregorian calendar, as ISO 8601 has it, counted from 1970-01-01.
use Rattle.std.specs.Prelude.{ℕ, ℤ, zero, suc, pos, negsuc, ◌+◌, ◌-◌, nat_lt, if◌then◌else◌}
use Rattle.lc_model.specs.Calendar.{days_in_month}

-- a day of the calendar
pub record Day : Type 0 where
  pub year : ℕ
  pub month : ℕ
  pub day : ℕ

-- the day that follows
abbrev pub day_after : Day → Day
day_after d =
    if nat_lt d.day (days_in_month d.year d.month) then record { year = d.year; month = d.month; day = d.day + 1 }
    else (if nat_lt d.month 12 then record { year = d.year; month = d.month + 1; day = 1 }
    else record { year = d.year + 1; month = 1; day = 1 })

-- the day that comes so many days after 1970-01-01
unfoldable pub day_at : ℕ → Day
day_at zero = record { year = 1970; month = 1; day = 1 }
day_at (suc n) = day_after (day_at n)

-- the day before
abbrev pub day_before : Day → Day
day_before d =
    if nat_lt 1 d.day then record { year = d.year; month = d.month; day = d.day - 1 }
    else (if nat_lt 1 d.month then record { year = d.year; month = d.month - 1; day = days_in_month d.year (d.month - 1) }
    else record { year = d.year - 1; month = 12; day = 31 })

-- the day that comes so many days before 1970-01-01
unfoldable pub days_back : ℕ → Day
days_back zero = record { year = 1970; month = 1; day = 1 }
days_back (suc n) = day_before (days_back n)

-- the day that comes so many days after 1970-01-01, or before it where the number is below 0
abbrev pub day_of : ℤ → Day
day_of (pos days) = day_at days
day_of (negsuc days) = days_back (suc days)
