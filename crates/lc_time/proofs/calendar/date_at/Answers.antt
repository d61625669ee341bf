use Rattle.std.proofs.Common.{◌≡◌, pos, arith, ap, unsigned_abs}
use Rattle.jiff_core.proofs.SignedLemmas.{signed_arith}
use Rattle.jiff_core.specs.Date.{epoch_day}
use Rattle.lc_time.specs.Calendar.{day_at}
use Rattle.lc_time.proofs.CalendarLemmas.{date_at_number, day_at_number, year_back}
use Rattle.lc_time.proofs.calendar.date_at.Goals as goal

pub overflow_cast-result : goal.overflow_cast-result
overflow_cast-result c =
    let date = c.from_days_since_min-date.result in
    let e : epoch_day date ≡ pos c.args.days = omega (arith, signed_arith, c.from_days_since_min-date.ensures) in
    let is = date_at_number c.args.days date c.requires e in
    let civil = (day_at_number c.args.days c.requires).civil in
    rw (year_back date.year (day_at c.args.days).year is.0 civil.year_to) (omega arith)

pub invariant_of-result : goal.invariant_of-result
invariant_of-result c =
    let date = c.from_days_since_min-date.result in
    let e : epoch_day date ≡ pos c.args.days = omega (arith, signed_arith, c.from_days_since_min-date.ensures) in
    let is = date_at_number c.args.days date c.requires e in
    let civil = (day_at_number c.args.days c.requires).civil in
    record { civil = rw (year_back date.year (day_at c.args.days).year is.0 civil.year_to, is.1, is.2) civil }

pub returns-clause-year : goal.returns-clause-year
returns-clause-year c =
    let date = c.from_days_since_min-date.result in
    let e : epoch_day date ≡ pos c.args.days = omega (arith, signed_arith, c.from_days_since_min-date.ensures) in
    let is = date_at_number c.args.days date c.requires e in
    let civil = (day_at_number c.args.days c.requires).civil in
    ap unsigned_abs (year_back date.year (day_at c.args.days).year is.0 civil.year_to)

pub returns-clause-month : goal.returns-clause-month
returns-clause-month c =
    let date = c.from_days_since_min-date.result in
    let e : epoch_day date ≡ pos c.args.days = omega (arith, signed_arith, c.from_days_since_min-date.ensures) in
    (date_at_number c.args.days date c.requires e).1

pub returns-clause-day : goal.returns-clause-day
returns-clause-day c =
    let date = c.from_days_since_min-date.result in
    let e : epoch_day date ≡ pos c.args.days = omega (arith, signed_arith, c.from_days_since_min-date.ensures) in
    (date_at_number c.args.days date c.requires e).2
