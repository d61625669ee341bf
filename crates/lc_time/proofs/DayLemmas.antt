-- The day that a clock shows, by its number.
use Rattle.std.proofs.Common.{◌≡◌, ℕ, ℤ, zero, suc, pos, negsuc, ◌<◌, ◌≤◌, ◌<ℤ◌, ◌≤ℤ◌, ◌+ℤ◌, ◌*ℤ◌, Some, refl, ◌∙◌, subst, arith}
use Rattle.std.specs.Int.{int_div_euclid}
use Rattle.jiff_core.specs.Date.{epoch_day}
use Rattle.jiff_core.specs.DateTime.{civil_nanos}
use Rattle.jiff_core.specs.Timestamp.{IsOffsetSeconds, nanos_of_seconds}
use Rattle.jiff_core.specs.declared.civil.date.Date.{Date}
use Rattle.jiff_core.specs.declared.civil.datetime.DateTime.{DateTime}
use Rattle.jiff_core.proofs.CalendarLemmas.{day_count-day, day_count-epoch, day_count-last_of_year, day_count-next_year, days_from_civil-day_count}
use Rattle.jiff_core.proofs.DateLemmas.{epoch_day_injective}
use Rattle.jiff_core.proofs.DateTimeLemmas.{epoch_day-civil_nanos}
use Rattle.jiff_core.proofs.SignedLemmas.{signed_arith}
use Rattle.lc_model.specs.declared.date.ServiceDate.{ServiceDate}
use Rattle.lc_time.specs.Calendar.{Day, day_of, days_back}
use Rattle.lc_time.specs.Date.{civil_date}
use Rattle.lc_time.specs.Zone.{library_date}
use Rattle.lc_time.proofs.CalendarLemmas.{date_at_number, day_at_number}
use Rattle.lc_time.proofs.SaidLemmas.{civil_of}

-- the last days of 1969
late : (day : ℕ) → 30 ≤ day → day ≤ 31 → ServiceDate
late day from to = record {
  year = 1969;
  month = 12;
  day = day;
  civil = record { year_from = omega arith; year_to = omega arith; month_from = omega arith; month_to = omega arith; day_from = omega arith; day_to = omega arith };
}

late_number : (day : ℕ) (from : 30 ≤ day) (to : day ≤ 31) → epoch_day (library_date (late day from to)) +ℤ pos 32 ≡ pos day
unfolding late
late_number day from to =
    omega (arith, signed_arith, days_from_civil-day_count (pos 1969) 12 day, day_count-day (pos 1969) 12 day 31 (omega arith) (omega arith), day_count-last_of_year (pos 1969), day_count-next_year (pos 1969) (pos 1970) (omega (arith, signed_arith)) refl, day_count-epoch)

-- the date has the parts of the day, which is one of the calendar
pub record IsShown (date : Date) (shown : Day) : Type 0 where
  pub year : date.year ≡ pos shown.year
  pub month : date.month ≡ shown.month
  pub day : date.day ≡ shown.day
  pub later : 1 ≤ shown.year

as_late : (date : Date) (day : ℕ) (from : 30 ≤ day) (to : day ≤ 31) → epoch_day date +ℤ pos 32 ≡ pos day → IsShown date (record { year = 1969; month = 12; day = day })
unfolding late
as_late date day from to e =
    let same = epoch_day_injective date (library_date (late day from to)) (omega (arith, signed_arith, late_number day from to)) in
    record { year = same.0; month = same.1; day = same.2; later = omega arith }

pub shown_day : (date : Date) (n : ℤ) → epoch_day date ≡ n → negsuc 1 ≤ℤ n → n <ℤ pos 2_932_897 → IsShown date (day_of n)
unfolding days_back
shown_day date (pos n) e from to =
    let bound : n < 2_932_897 = omega (arith, signed_arith) in
    let same = date_at_number n date bound e in
    record { year = same.0; month = same.1; day = same.2; later = omega (arith, (day_at_number n bound).year_from) }
shown_day date (negsuc zero) e from to = as_late date 31 (omega arith) (omega arith) (omega (arith, signed_arith))
shown_day date (negsuc (suc zero)) e from to = as_late date 30 (omega arith) (omega arith) (omega (arith, signed_arith))
shown_day date (negsuc (suc (suc n))) e from to = absurd (omega (arith, signed_arith))

-- a clock whose offset is in range shows a day of the calendar at each moment
pub clock_shows : (shown : DateTime) (moment : ℕ) (offset : ℤ) → moment < 253_402_128_000 → IsOffsetSeconds offset → civil_nanos shown ≡ pos moment *ℤ pos 1_000_000_000 +ℤ nanos_of_seconds offset → IsShown shown.date (day_of (int_div_euclid (pos moment +ℤ offset) (pos 86_400)))
clock_shows shown moment offset bound fits e =
    let local : ℤ = pos moment +ℤ offset in
    let day : epoch_day shown.date ≡ int_div_euclid local (pos 86_400) = omega (arith, signed_arith, epoch_day-civil_nanos shown) in
    shown_day shown.date (int_div_euclid local (pos 86_400)) day (omega (arith, signed_arith, fits.0)) (omega (arith, signed_arith, fits.1))

-- a date with the parts of a shown day is the date of that day
pub date_is : (date : Date) (day : Day) (result : ServiceDate) → IsShown date day → pos result.year ≡ date.year → result.month ≡ date.month → result.day ≡ date.day → civil_date day.year day.month day.day ≡ Some result
date_is date day result is year month d =
    let y : result.year ≡ day.year = omega (arith, signed_arith, is.year) in
    let m : result.month ≡ day.month = month ∙ is.month in
    let e : result.day ≡ day.day = d ∙ is.day in
    subst (λ (v : ℕ). civil_date v day.month day.day ≡ Some result) y
    (subst (λ (v : ℕ). civil_date result.year v day.day ≡ Some result) m (subst (λ (v : ℕ). civil_date result.year result.month v ≡ Some result) e (civil_of result)))
