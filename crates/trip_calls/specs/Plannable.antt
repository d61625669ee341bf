-- Dates from whose anchors times are counted.
use Rattle.std.specs.Prelude.{pos, ◌≤ℤ◌, List}
use Rattle.std.specs.List.{All}
use Rattle.lc_model.specs.declared.date.ServiceDate.{ServiceDate}
use Rattle.service_days.specs.Days.{day_number}
use Rattle.service_days.specs.declared.service_day.ServiceDay.{ServiceDay}

-- The date is one from 1970-01-10, the day 9 from 1970-01-01 on, to 9999-12-15. In every zone each time of a run on it is a
-- moment.
pub record IsPlannable (date : ServiceDate) : Type 0 where
  pub not_before : pos 9 ≤ℤ day_number date
  pub not_after : day_number date ≤ℤ pos 2_932_880

-- each of the days is so
abbrev pub ArePlannable : List ServiceDay → Type 0
ArePlannable days = All (λ (d : ServiceDay). IsPlannable d.date) days
