-- The window of a command is one that a feed may be asked for.
use Rattle.std.proofs.Common.{◌≡◌, ℕ, pos, arith, ap}
use Rattle.jiff_core.proofs.SignedLemmas.{signed_arith}
use Rattle.lc_model.specs.declared.date.ServiceDate.{ServiceDate}
use Rattle.lc_time.proofs.CalendarLemmas.{from_1970, number_at_date}
use Rattle.service_days.specs.Days.{day_number}
use Rattle.cli_words.specs.Window.{IsWindow as IsSaidWindow}
use Rattle.timetable.specs.Scope.{IsWindow}

pub window_said : (first : ServiceDate) (days : ℕ) → IsSaidWindow first days → IsWindow first days
window_said first days said =
    let has = from_1970 first.year first.month first.day first.civil said.from_1970 in
    let range = said.in_range has.number has.bound (record { year = has.year; month = has.month; day = has.day }) in
    let number : day_number first ≡ pos has.number = number_at_date has.number (pos first.year) first.month first.day has.bound (ap pos has.year) has.month has.day in
    record { not_before = omega (arith, signed_arith, number, range.0); not_after = omega (arith, signed_arith, number, range.1) }
