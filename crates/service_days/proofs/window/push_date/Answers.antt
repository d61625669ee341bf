use Rattle.std.proofs.Common.{arith, FitsSigned, w16, w64, to_z-of_z}
use Rattle.jiff_core.proofs.SignedLemmas.{signed_arith}
use Rattle.service_days.proofs.WindowLemmas.{date_pushed, no_such_day, no_such_year}
use Rattle.service_days.proofs.window.push_date.Goals as goal

pub returns-in_ok-push : goal.returns-in_ok-push
returns-in_ok-push c =
    let fits : FitsSigned w64 c.args.number = c.ranges.number in
    let value = simp to_z-of_z at c.in-Ok.ensures.value in
    let made = c.service_date.ensures in
    rw c.in_ok-push.ensures.items (date_pushed c.args.list.now.items c.in-Ok.date c.service_date.result c.args.number value made.year made.month made.day)

pub returns-else-date-ge1 : goal.returns-else-date-ge1
returns-else-date-ge1 c =
    let fits : FitsSigned w64 c.args.number = c.ranges.number in
    let value = simp to_z-of_z at c.in-Ok.ensures.value in
    let fits_year : FitsSigned w16 c.in-Ok.date.year = omega (arith, signed_arith, c.in-Ok.date.year_in) in
    let early = simp to_z-of_z at c.if-date-ge1.false in
    no_such_year c.args.list.now.items c.in-Ok.date c.args.number value (omega (arith, signed_arith, early))

pub returns-in_default : goal.returns-in_default
returns-in_default c =
    let fits : FitsSigned w64 c.args.number = c.ranges.number in
    let there = simp to_z-of_z at c.in_default.ensures.succeeds in
    no_such_day c.args.list.now.items c.args.number (λ h. let no = there.1 h in cc)
