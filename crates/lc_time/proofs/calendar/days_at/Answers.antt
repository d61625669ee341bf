use Rattle.std.proofs.Common.{◌≡◌, ℕ, ◌<◌, ◌≤◌, ◌^◌, arith, refl, inl, inr, Option, Some, None, IsNone, Result, Ok, Err, ℤ, pos, ◌<ℤ◌, to_z, w16, ◌∙◌, ap}
use Rattle.std.proofs.lemmas.Bool.{cases_lt}
use Rattle.std.specs.Result.{result_ok, OkIff}
use Rattle.std.specs.Option.{is_some}
use Rattle.jiff_core.specs.Calendar.{days_from_civil}
use Rattle.std.proofs.lemmas.Result.{Ok-from_Ok_iff}
use Rattle.lc_time.specs.Calendar.{day_at}
use Rattle.lc_time.proofs.CalendarLemmas.{number_at_date, day_at_number, year_signed, days_back, from_1970, before_1970, no_days}
use Rattle.lc_time.proofs.calendar.days_at.Goals as goal

pub returns-clause-every_date : goal.returns-clause-every_date
returns-clause-every_date c = λ days bound year month day.
    let civil = (day_at_number days bound).civil in
    let number = number_at_date days (to_z w16 c.args.date.year) c.args.date.month c.args.date.day bound (year_signed c.args.date.year (day_at days).year year civil.year_to) month day in
    let back = days_back c.to_unix_epoch_day.result days (c.to_unix_epoch_day.ensures.value ∙ number) bound in
    let fits : days < 2 ^ 32 = omega arith in
    c.ok.ensures.value ∙ ap result_ok (Ok-from_Ok_iff _ _ _ (rw back at c.try_from.ensures) fits)

none_unless : {T E : Type 0} (r : Result T E) (P : Type 0) (v : T) → OkIff r P v → (P → ⊥) → result_ok r ≡ None
none_unless (Ok x) P v h never = absurd (never h.0)
none_unless (Err e) P v h never = refl

-- from 1970 on, the number is found
found : (c : goal.After-ok) → 1970 ≤ c.args.date.year → (n : ℕ) × (n < 2_932_897) × (c.ok.result ≡ Some n) × (c.args.date.year ≡ (day_at n).year) × (c.args.date.month ≡ (day_at n).month) × (c.args.date.day ≡ (day_at n).day)
found c from =
    let has = from_1970 c.args.date.year c.args.date.month c.args.date.day c.args.date.civil from in
    (has.number, has.bound, returns-clause-every_date c has.number has.bound has.year has.month has.day, has.year, has.month, has.day)

-- before 1970, there is none
lost : (c : goal.After-ok) → c.args.date.year < 1970 → c.ok.result ≡ None
lost c lt =
    let date = c.args.date in
    let year = year_signed date.year date.year refl date.civil.year_to in
    let value : c.to_unix_epoch_day.result ≡ days_from_civil (pos date.year) date.month date.day = c.to_unix_epoch_day.ensures.value ∙ ap (λ (y : ℤ). days_from_civil y date.month date.day) year in
    let negative : c.to_unix_epoch_day.result <ℤ pos 0 = rw value (before_1970 date.year date.month date.day date.civil lt) in
    c.ok.ensures.value ∙ none_unless _ _ _ c.try_from.ensures (no_days c.to_unix_epoch_day.result negative c.to_unix_epoch_day.ensures.bound.0)

is_there : (r : Option ℕ) (n : ℕ) → r ≡ Some n → IsNone r → ⊥
is_there None n e none = cc
is_there (Some m) n e none = cc

pub returns-clause-is_date : goal.returns-clause-is_date
returns-clause-is_date c =
    elim (cases_lt c.args.date.year 1970) [
      | inl lt ↦ rw (lost c lt) tt
      | inr ge ↦ let f = found c ge in rw f.2 (f.1, f.3, f.4, f.5)
    ]

pub returns-clause-before_1970 : goal.returns-clause-before_1970
returns-clause-before_1970 c =
    elim (cases_lt c.args.date.year 1970) [
      | inl lt ↦ (λ _. lt, λ _. ap is_some (lost c lt))
      | inr ge ↦ (λ none. let f = found c ge in absurd (is_there _ _ f.2 none), λ lt. absurd (omega arith))
    ]
