-- Windows of service dates.
use Rattle.std.specs.Prelude.{◌≡◌, ℕ, ◌+◌, ◌<◌, ◌≤◌}
use Rattle.lc_model.specs.declared.date.ServiceDate.{ServiceDate}
use Rattle.lc_time.specs.Calendar.{day_at}

-- the date comes so many days after 1970-01-01
pub record IsDateAt (date : ServiceDate) (number : ℕ) : Type 0 where
  pub year : date.year ≡ (day_at number).year
  pub month : date.month ≡ (day_at number).month
  pub day : date.day ≡ (day_at number).day

-- The window of so many days from this date on begins on 1970-01-10 or later and ends on 9999-12-15 or before. These come
-- 9 and 2,932,880 days after 1970-01-01.
pub record IsWindow (first : ServiceDate) (days : ℕ) : Type 0 where
  pub from_1970 : 1970 ≤ first.year
  pub in_range : (number : ℕ) → number < 2_932_897 → IsDateAt first number → (9 ≤ number) × (number + days ≤ 2_932_881)
