-- A date is its year, month and day.
use Rattle.std.proofs.Common.{◌≡◌, ℕ, ◌<◌, ◌≤◌, refl, subst, ap, arith}
use Rattle.std.proofs.Props.{props}
use Rattle.lc_model.specs.Calendar.{IsCivilDate, days_in_month}
use Rattle.lc_model.specs.declared.date.ServiceDate.{ServiceDate}
use Rattle.lc_time.specs.Calendar.{day_at}
use Rattle.lc_time.specs.Date.{AreDateNumbers}
use Rattle.lc_time.proofs.CalendarLemmas.{day_at_number}

IsCivilDate-prop : (y m d : ℕ) → IsProp (IsCivilDate y m d)
IsCivilDate-prop y m d = hlevel props

abbrev date : (y m d : ℕ) → IsCivilDate y m d → ServiceDate
date y m d civil = record { year = y; month = m; day = d; civil = civil }

same_day : (y m d d' : ℕ) (p : IsCivilDate y m d) (q : IsCivilDate y m d') → d ≡ d' → date y m d p ≡ date y m d' q
same_day y m d d' p q e =
    subst (λ (v : ℕ). (q : IsCivilDate y m v) → date y m d p ≡ date y m v q) e (λ q. ap (date y m d) (IsCivilDate-prop y m d p q)) q

same_month : (y m d m' d' : ℕ) (p : IsCivilDate y m d) (q : IsCivilDate y m' d') → m ≡ m' → d ≡ d' → date y m d p ≡ date y m' d' q
same_month y m d m' d' p q e f =
    subst (λ (v : ℕ). (q : IsCivilDate y v d') → date y m d p ≡ date y v d' q) e (λ q. same_day y m d d' p q f) q

-- dates with the same numbers are the same
pub same_date : (a b : ServiceDate) → a.year ≡ b.year → a.month ≡ b.month → a.day ≡ b.day → a ≡ b
same_date a b e f g =
    subst (λ (v : ℕ). (q : IsCivilDate v b.month b.day) → date a.year a.month a.day a.civil ≡ date v b.month b.day q) e
    (λ q. same_month a.year a.month a.day b.month b.day a.civil q f g) b.civil

no_longer : (year month : ℕ) → days_in_month year month ≤ 31
no_longer year month = grind arith

-- a date has room in eight digits
pub fits : (date : ServiceDate) → AreDateNumbers date.year date.month date.day
fits date =
    let civil = date.civil in
    record {
      year_fits = omega (arith, civil.year_to);
      month_fits = omega (arith, civil.month_to);
      day_fits = omega (arith, civil.day_to, no_longer date.year date.month);
    }

pub day_fits : (n : ℕ) → n < 2_932_897 → AreDateNumbers (day_at n).year (day_at n).month (day_at n).day
day_fits n bound = fits (date (day_at n).year (day_at n).month (day_at n).day (day_at_number n bound).civil)

-- the date that comes so many days after 1970-01-01
unfoldable pub date_of : (n : ℕ) → n < 2_932_897 → ServiceDate
date_of n bound = date (day_at n).year (day_at n).month (day_at n).day (day_at_number n bound).civil

pub date_of-parts : (n : ℕ) (bound : n < 2_932_897) → ((date_of n bound).year ≡ (day_at n).year) × ((date_of n bound).month ≡ (day_at n).month) × ((date_of n bound).day ≡ (day_at n).day)
unfolding date_of
date_of-parts n bound = (refl, refl, refl)
