-- Zones, and what their clocks show, in the definitions of `jiff`.
use Rattle.std.specs.Prelude.{ℕ, ℤ, pos, negsuc, ◌+ℤ◌, ◌-ℤ◌, nat_lt, if◌then◌else◌, Option, Some, None}
use Rattle.std.specs.Int.{int_div_euclid}
use Rattle.std.specs.Int.Signed.{le_z_yes}
use Rattle.std.proofs.Common.{le→leb, lit<}
use Rattle.jiff_core.specs.DateTime.{civil_seconds}
use Rattle.jiff_core.specs.Timestamp.{nanos_of_seconds}
use Rattle.jiff_core.specs.declared.civil.date.Date.{Date}
use Rattle.jiff_core.specs.declared.civil.datetime.DateTime.{DateTime}
use Rattle.jiff_core.specs.declared.civil.time.Time.{Time}
use Rattle.jiff_tz.specs.Ambiguous.{compatible_offset}
use Rattle.jiff_tz.specs.PosixRule as Rule
use Rattle.jiff_tz.specs.Tzif as Table
use Rattle.lc_model.specs.declared.date.ServiceDate.{ServiceDate}
use Rattle.lc_time.specs.Calendar.{Day, day_of}
use Rattle.lc_time.specs.Date.{civil_date}
use Rattle.lc_time.specs.declared.zone.Zone.{Zone}
use Rattle.lc_time.specs.declared.zone.Zone.TheVariants.{Utc, Posix, File}

-- the seconds by which the zone's clock is ahead of UTC at a second
unfoldable pub offset_at : Zone → ℤ → ℤ
offset_at Utc second = pos 0
offset_at (Posix rule) second = (Rule.offset_at rule (nanos_of_seconds second)).seconds
offset_at (File table) second = (Table.offset_at table (nanos_of_seconds second)).seconds

-- The seconds by which the zone's clock is ahead of UTC where it shows a date and time. In a gap, never shown, they
-- are those before the gap. In a fold, which it shows twice, they are those of the earlier time.
unfoldable pub offset_shown : Zone → DateTime → ℤ
offset_shown Utc shown = pos 0
offset_shown (Posix rule) shown = (compatible_offset (Rule.ambiguous_at rule shown)).seconds
offset_shown (File table) shown = (compatible_offset (Table.ambiguous_at table shown)).seconds

-- the date as the calendar's library has it
abbrev pub library_date : ServiceDate → Date
library_date date = record {
  year = pos date.year;
  month = date.month;
  day = date.day;
  year_in = (le_z_yes tt, le_z_yes (le→leb date.year 9999 date.civil.year_to));
  month_in = (date.civil.month_from, date.civil.month_to);
  day_in = (date.civil.day_from, date.civil.day_to);
}

-- 12:00:00
abbrev pub noon : Time
noon = record {
  hour = 12;
  minute = 0;
  second = 0;
  subsec_nanosecond = 0;
  hour_in = lit< tt;
  minute_in = lit< tt;
  second_in = lit< tt;
  subsec_in = lit< tt;
}

-- noon of the date
abbrev pub noon_of : ServiceDate → DateTime
noon_of date = record { date = library_date date; time = noon }

-- the second at which the zone's clock shows a date and time
abbrev pub second_shown : Zone → DateTime → ℤ
second_shown zone shown = civil_seconds shown -ℤ offset_shown zone shown

-- the moment that is this second, if one is
abbrev pub moment_at : ℤ → Option ℕ
moment_at (pos second) = if nat_lt second 253_402_128_000 then Some second else None
moment_at (negsuc before) = None

-- The moment from which the times of a service day are counted. It is noon of its date less 12 hours, if there is
-- such a moment (GTFS Schedule Reference, field type Time).
abbrev pub anchor_of : Zone → ServiceDate → Option ℕ
anchor_of zone date = moment_at (second_shown zone (noon_of date) -ℤ pos 43_200)

-- the day that the zone's clock shows at a moment
abbrev pub day_shown : Zone → ℕ → Day
day_shown zone moment = day_of (int_div_euclid (pos moment +ℤ offset_at zone (pos moment)) (pos 86_400))

-- the date that the zone's clock shows at a moment
abbrev pub date_shown : Zone → ℕ → Option ServiceDate
date_shown zone moment =
    civil_date (day_shown zone moment).year (day_shown zone moment).month (day_shown zone moment).day
