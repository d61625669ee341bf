-- The date of a message's moment, which news without a date get.
use Rattle.std.specs.Prelude.{ℕ, unwrap_or}
use Rattle.std.proofs.Common.{lit≤}
use Rattle.lc_model.specs.declared.date.ServiceDate.{ServiceDate}
use Rattle.lc_time.specs.Zone.{date_shown}
use Rattle.lc_time.specs.declared.zone.Zone.{Zone}

-- 1970-01-01
abbrev pub first_date : ServiceDate
first_date = record {
  year = 1970;
  month = 1;
  day = 1;
  civil = record { year_from = lit≤ tt; year_to = lit≤ tt; month_from = lit≤ tt; month_to = lit≤ tt; day_from = lit≤ tt; day_to = lit≤ tt };
}

-- The date that the zone's clock shows at a moment. It shows one at each; a number past the moments gets the first date.
abbrev pub date_in : Zone → ℕ → ServiceDate
date_in zone moment = unwrap_or (date_shown zone moment) first_date
