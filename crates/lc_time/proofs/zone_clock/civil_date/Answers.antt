use Rattle.std.proofs.Common.{ℤ, pos, ◌+ℤ◌, arith, subst}
use Rattle.std.specs.Int.{int_div_euclid}
use Rattle.jiff_core.proofs.SignedLemmas.{signed_arith}
use Rattle.lc_time.specs.Calendar.{day_of}
use Rattle.lc_time.proofs.DayLemmas.{IsShown, clock_shows, date_is}
use Rattle.lc_time.proofs.zone_clock.civil_date.Goals as goal

shown : (c : goal.After-service_date-arg-1) → IsShown c.to_datetime-shown.result.date (day_of (int_div_euclid (pos c.args.moment +ℤ c.offset_at.result.seconds) (pos 86_400)))
shown c =
    clock_shows c.to_datetime-shown.result c.args.moment c.offset_at.result.seconds c.instant_of.ensures.in_range c.offset_at.result.in_range (omega (arith, signed_arith, c.to_datetime-shown.ensures, c.instant_of.ensures.value))

pub service_date-requires : goal.service_date-requires
service_date-requires c = let is = shown c in omega (arith, signed_arith, is.year, is.later)

pub returns : goal.returns
returns c =
    let is = clock_shows c.to_datetime-shown.result c.args.moment c.offset_at.result.seconds c.instant_of.ensures.in_range c.offset_at.result.in_range (omega (arith, signed_arith, c.to_datetime-shown.ensures, c.instant_of.ensures.value)) in
    let same = subst (λ (v : ℤ). IsShown c.to_datetime-shown.result.date (day_of (int_div_euclid (pos c.args.moment +ℤ v) (pos 86_400)))) c.offset_at.ensures is in
    date_is c.to_datetime-shown.result.date _ c.service_date.result same c.service_date.ensures.year c.service_date.ensures.month c.service_date.ensures.day
