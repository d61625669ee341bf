-- Which windows of dates may be asked.
use Rattle.std.specs.Prelude.{ℕ, pos, ◌+ℤ◌, ◌≤ℤ◌}
use Rattle.lc_model.specs.declared.date.ServiceDate.{ServiceDate}
use Rattle.service_days.specs.Days.{day_number}

-- The dates, so many from the first on, are of 1970-01-10 to 9999-12-15: so each time of a service day is a moment.
pub record IsWindow (first : ServiceDate) (days : ℕ) : Type 0 where
  pub not_before : pos 9 ≤ℤ day_number first
  pub not_after : (day_number first +ℤ pos days) ≤ℤ pos 2_932_881
