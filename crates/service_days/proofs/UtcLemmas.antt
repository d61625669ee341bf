-- In UTC a service day begins at midnight.
use Rattle.std.proofs.Common.{◌≡◌, ℕ, ℤ, pos, negsuc, ◌+◌, ◌*◌, ◌+ℤ◌, ◌-ℤ◌, ◌*ℤ◌, Some, inl, inr, refl, sym, ap, ◌∙◌, subst, arith}
use Rattle.std.specs.Int.{int_div_euclid}
use Rattle.std.proofs.lemmas.Bool.{cases_lt, le-ltb, lt-ltb}
use Rattle.jiff_core.specs.DateTime.{civil_seconds}
use Rattle.jiff_core.proofs.DateLemmas.{epoch_day_range}
use Rattle.jiff_core.proofs.SignedLemmas.{signed_arith}
use Rattle.lc_model.specs.declared.date.ServiceDate.{ServiceDate}
use Rattle.lc_time.specs.Calendar.{day_of}
use Rattle.lc_time.specs.Date.{civil_date}
use Rattle.lc_time.specs.Zone.{anchor_of, library_date, moment_at, offset_at, offset_shown}
use Rattle.lc_time.specs.declared.zone.Zone.TheVariants.{Utc}
use Rattle.lc_time.proofs.CalendarLemmas.{number_at_date}
use Rattle.service_days.specs.Days.{day_number}
use Rattle.service_days.specs.Laws.{MidnightInUtc, ShownInUtc}
use Rattle.lc_time.proofs.DayLemmas.{date_is, shown_day}

utc_anchor : (date : ServiceDate) → anchor_of Utc date ≡ moment_at (day_number date *ℤ pos 86_400)
unfolding offset_shown civil_seconds
utc_anchor date =
    let half : (day_number date *ℤ pos 86_400 +ℤ pos 43_200) -ℤ pos 0 -ℤ pos 43_200 ≡ day_number date *ℤ pos 86_400 = omega (arith, signed_arith) in
    ap moment_at half

pub midnight : MidnightInUtc
midnight date day bound year month d =
    let number : day_number date ≡ pos day = number_at_date day (pos date.year) date.month date.day bound (ap pos year) month d in
    let seconds : day_number date *ℤ pos 86_400 ≡ pos (86_400 * day) = omega (arith, signed_arith) in
    utc_anchor date ∙ ap moment_at seconds

moment_is : (z : ℤ) (m : ℕ) → moment_at z ≡ Some m → z ≡ pos m
moment_is (pos n) m e = elim (cases_lt n 253_402_128_000) [
  | inl lt ↦ let same = rw (lt-ltb _ _ lt) at e in cc
  | inr ge ↦ let none = rw (le-ltb _ _ ge) at e in cc
]
moment_is (negsuc n) m e = cc

pub shown : ShownInUtc
unfolding offset_at
shown date anchor seconds e lt =
    let n : ℤ = day_number date in
    let begins : n *ℤ pos 86_400 ≡ pos anchor = moment_is (n *ℤ pos 86_400) anchor (sym (utc_anchor date) ∙ e) in
    let range = epoch_day_range (library_date date) in
    let day : int_div_euclid (pos (anchor + seconds) +ℤ pos 0) (pos 86_400) ≡ n = omega (arith, signed_arith) in
    let is = shown_day (library_date date) n refl (omega (arith, signed_arith)) (omega (arith, signed_arith, range.1)) in
    subst (λ (v : ℤ). civil_date (day_of v).year (day_of v).month (day_of v).day ≡ Some date) (sym day) (date_is (library_date date) (day_of n) date is refl refl refl)
