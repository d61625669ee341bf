-- Dates by their numbers, and the dates of a window.
use Rattle.std.proofs.Common.{FitsSigned, of_z, to_z, to_z-of_z, w64, ◌^◌, ◌≡◌, ℕ, ◌+◌, ◌<◌, inl, inr, List, [], ◌∷◌, ◌++◌, ℤ, pos, ◌+ℤ◌, ◌<ℤ◌, sym, ap, ◌∙◌, subst, arith}
use Rattle.std.specs.Prelude.{◌↔◌}
use Rattle.std.specs.List.{Contains}
use Rattle.std.proofs.lemmas.Int.{by_lt_z}
use Rattle.jiff_core.specs.Calendar.{IsEpochDay, days_from_civil}
use Rattle.jiff_core.specs.Date.{epoch_day}
use Rattle.jiff_core.specs.declared.civil.date.Date.{Date}
use Rattle.jiff_core.proofs.DateLemmas.{epoch_day_injective, epoch_day_range}
use Rattle.jiff_core.proofs.SignedLemmas.{signed_arith}
use Rattle.lc_model.specs.declared.date.ServiceDate.{ServiceDate}
use Rattle.lc_time.specs.Zone.{library_date}
use Rattle.lc_time.proofs.DateLemmas.{same_date}
use Rattle.service_days.specs.Days.{IsInWindow, day_number}
use Rattle.service_days.specs.Listing.{Gains}
use Rattle.service_days.proofs.GainLemmas.{Gains-nothing, Gains-push}

-- a date of the library with the same number has the same parts
same_parts : (date : ServiceDate) (other : Date) → day_number date ≡ epoch_day other → (pos date.year ≡ other.year) × (date.month ≡ other.month) × (date.day ≡ other.day)
same_parts date other e = epoch_day_injective (library_date date) other e

pub one_date : (a b : ServiceDate) → day_number a ≡ day_number b → a ≡ b
one_date a b e =
    let same = same_parts a (library_date b) e in
    same_date a b (omega (arith, signed_arith, same.0)) same.1 same.2

-- the date with the parts of a date of the library has its number
number_of : (date : ServiceDate) (other : Date) → pos date.year ≡ other.year → date.month ≡ other.month → date.day ≡ other.day → day_number date ≡ epoch_day other
number_of date other y m d =
    ap (λ (v : ℤ). days_from_civil v date.month date.day) y ∙ ap (λ (v : ℕ). days_from_civil other.year v date.day) m
    ∙ ap (λ (v : ℕ). days_from_civil other.year other.month v) d

pub date_pushed : (list : List ServiceDate) (other : Date) (date : ServiceDate) (number : ℤ) → epoch_day other ≡ number → pos date.year ≡ other.year → date.month ≡ other.month → date.day ≡ other.day → Gains (λ (d : ServiceDate). day_number d ≡ number) list (list ++ date ∷ [])
date_pushed list other date number is y m d =
    let here : day_number date ≡ number = number_of date other y m d ∙ is in
    Gains-push (λ (d : ServiceDate). day_number d ≡ number) list date (λ x.
    (λ e. one_date date x (here ∙ sym e), λ e. ap day_number (sym e) ∙ here))

pub no_such_year : (list : List ServiceDate) (other : Date) (number : ℤ) → epoch_day other ≡ number → other.year <ℤ pos 1 → Gains (λ (d : ServiceDate). day_number d ≡ number) list list
no_such_year list other number is early =
    Gains-nothing (λ (d : ServiceDate). day_number d ≡ number) list (λ x e.
    let same = same_parts x other (e ∙ sym is) in omega (arith, signed_arith, same.0, x.civil.year_from))

pub no_such_day : (list : List ServiceDate) (number : ℤ) → (IsEpochDay number → ⊥) → Gains (λ (d : ServiceDate). day_number d ≡ number) list list
no_such_day list number none =
    Gains-nothing (λ (d : ServiceDate). day_number d ≡ number) list (λ x e. none (subst IsEpochDay e (epoch_day_range (library_date x))))

window_none : (first date : ServiceDate) → IsInWindow first 0 date → ⊥
window_none first date is = omega (arith, signed_arith, is.not_before, is.not_after)

pub window_more : (first : ServiceDate) (k : ℕ) (number : ℤ) (old new : List ServiceDate) → number ≡ day_number first +ℤ pos k → ((date : ServiceDate) → Contains old date ↔ IsInWindow first k date) → Gains (λ (d : ServiceDate). day_number d ≡ number) old new → (date : ServiceDate) → Contains new date ↔ IsInWindow first (k + 1) date
window_more first k number old new is before gains date = (
  λ h. elim ((gains.all date).0 h) [
    | inl o ↦ let in_old = (before date).0 o in record { not_before = in_old.not_before; not_after = omega (arith, signed_arith, in_old.not_after) }
    | inr e ↦ record { not_before = omega (arith, signed_arith); not_after = omega (arith, signed_arith) }
  ],
  λ w. by_lt_z (day_number date) (day_number first +ℤ pos k)
      (λ lt. (gains.all date).1 (inl ((before date).1 (record { not_before = w.not_before; not_after = lt }))))
      (λ ge. (gains.all date).1 (inr (omega (arith, signed_arith, w.not_after)))),
)

pub window_start : (first date : ServiceDate) → Contains [] date ↔ IsInWindow first 0 date
window_start first date = (λ (k, inside, at). absurd (omega arith), λ is. absurd (window_none first date is))

-- the sum fits
pub window_number : (from : ℤ) (k : ℕ) → IsEpochDay from → k < 2 ^ 32 → to_z w64 (of_z w64 (to_z w64 (of_z w64 from) +ℤ to_z w64 k)) ≡ from +ℤ pos k
window_number from k range small =
    let a : FitsSigned w64 from = omega (arith, signed_arith, range.0, range.1) in
    let b : FitsSigned w64 (pos k) = omega (arith, signed_arith) in
    let sum : FitsSigned w64 (from +ℤ pos k) = omega (arith, signed_arith, range.0, range.1) in
    ap (λ (v : ℤ). to_z w64 (of_z w64 (v +ℤ to_z w64 k))) (to_z-of_z a) ∙ ap (λ (v : ℤ). to_z w64 (of_z w64 (from +ℤ v))) (to_z-of_z b) ∙ to_z-of_z sum
