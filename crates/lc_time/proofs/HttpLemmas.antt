-- A moment's date of HTTP is the one that `httpdate` makes of its seconds.
use Rattle.std.proofs.Common.{◌≡◌, ℕ, zero, suc, ◌+◌, ◌-◌, ◌/◌, ◌%◌, ◌≤◌, ◌<◌, inl, inr, refl, sym, ap, ◌∙◌, arith}
use Rattle.std.proofs.lemmas.Bool.{cases_lt, lt-ltb, le-ltb}
use Rattle.std.proofs.Common.{false, List, ◌∷◌, ◌++◌, reverse, codes, Option, Some, None, SomeIff, IfSome, subst}
use Rattle.std.proofs.lemmas.List.{reverse-append, reverse-reverse}
use Rattle.httpdate.specs.Text.{day_name, month_name, two_digits, four_digits, time_of_day}
use Rattle.httpdate.specs.Calendar.{days_in_month, days_in_year, days_of_years, days_of_months, days_from_civil, weekday}
use Rattle.httpdate.specs.Valid.{parts_secs}
use Rattle.httpdate.specs.Date.{unix_secs, IsDateText, IsPartsText}
use Rattle.httpdate.specs.declared.parts.Parts.{Parts}
use Rattle.httpdate.specs.declared.date.HttpDate.{HttpDate}
use Rattle.httpdate.proofs.CalendarLemmas.{days_of_months_more, days_of_months_all}
use Rattle.httpdate.proofs.Theorems.{unix_secs_injective, IsDateText_unique}
use Rattle.lc_time.specs.Calendar.{Day, day_after, day_at}
use Rattle.lc_time.specs.Http.{http_parts_of, http_date_of, is_blank, without_front_blanks, without_blanks, SaysHttpDate}
use Rattle.lc_time.proofs.OptionLemmas.{some_at}
use Rattle.lc_time.proofs.CalendarLemmas.{IsDayNumber, day_at_number, december}

-- the days before the day
unfoldable pub days : Day → ℕ
days d = days_from_civil d.year d.month d.day

no_months : (y : ℕ) → days_of_months y 0 ≡ 0
unfolding days_of_months
no_months y = refl

one_year_more : (k : ℕ) → days_of_years (suc k) ≡ days_of_years k + days_in_year (1970 + k)
unfolding days_of_years
one_year_more k = refl

next_year : (y : ℕ) → 1970 ≤ y → days_of_years (y + 1 - 1970) ≡ days_of_years (y - 1970) + days_in_year y
next_year y h =
    let after : y + 1 - 1970 ≡ suc (y - 1970) = omega arith in
    let back : 1970 + (y - 1970) ≡ y = omega arith in
    ap days_of_years after ∙ one_year_more (y - 1970) ∙ ap (λ (v : ℕ). days_of_years (y - 1970) + days_in_year v) back

step : (n m : ℕ) (d : Day) → IsDayNumber m d → suc m < 2_932_897 → days d ≡ n → days (day_after d) ≡ suc n
unfolding days
step n m d is bound e =
    let civil = is.civil in
    elim (cases_lt d.day (days_in_month d.year d.month)) [
      | inl lt ↦ rw (lt-ltb _ _ lt) (omega (arith, civil.day_from))
      | inr last ↦ elim (cases_lt d.month 12) [
        | inl lt ↦
            let back : d.month + 1 - 1 ≡ d.month = omega arith in
            let more = days_of_months_more d.year d.month civil.month_from in
            let months = ap (days_of_months d.year) back in
            rw (le-ltb _ _ last, lt-ltb _ _ lt) (omega (arith, civil.day_from, civil.day_to))
        | inr end ↦
            let at = december m d is last end in
            let more : days_of_months d.year 12 ≡ days_of_months d.year 11 + 31 = days_of_months_more d.year 12 (omega arith) in
            let all = days_of_months_all d.year in
            let year = next_year d.year is.year_from in
            let none = no_months (d.year + 1) in
            let eleven : d.month - 1 ≡ 11 = omega (arith, at.0) in
            let months = ap (days_of_months d.year) eleven in
            rw (le-ltb _ _ last, le-ltb _ _ end) (omega (arith, at.1))
      ]
    ]

-- counting day by day agrees with the count of `httpdate`
pub days_at : (n : ℕ) → n < 2_932_897 → days (day_at n) ≡ n
unfolding day_at days days_of_years days_of_months
days_at zero bound = refl
days_at (suc n) bound = step n n (day_at n) (day_at_number n (omega arith)) bound (days_at n (omega arith))

-- the date of a moment
unfoldable pub http_date : (moment : ℕ) → moment < 253_402_128_000 → HttpDate
unfolding days
http_date moment bound =
    let number = moment / 86_400 in
    let small : number < 2_932_897 = omega arith in
    let is = day_at_number number small in
    let civil = is.civil in
    record {
      parts = http_parts_of moment;
      civil = ((is.year_from, civil.year_to), (civil.month_from, civil.month_to), (civil.day_from, civil.day_to));
      time = (omega arith, omega arith, omega arith);
      right_day = ap weekday (sym (days_at number small));
    }

pub http_date-secs : (moment : ℕ) (bound : moment < 253_402_128_000) → unix_secs (http_date moment bound) ≡ moment
unfolding http_date days
http_date-secs moment bound =
    let number = moment / 86_400 in
    let small : number < 2_932_897 = omega arith in
    let count = days_at number small in
    omega arith

-- a date of so many seconds shows the numbers of the moment
pub parts_at : (moment : ℕ) (date : HttpDate) → moment < 253_402_128_000 → unix_secs date ≡ moment → date.parts ≡ http_parts_of moment
unfolding http_date
parts_at moment date bound e = unix_secs_injective date (http_date moment bound) (e ∙ sym (http_date-secs moment bound))

-- what the text says is the date's moment
pub said_at : (r : Option ℕ) (text trimmed : List ℕ) (date : HttpDate) (secs : ℕ) → SomeIff r (secs < 253_402_128_000) secs → secs ≡ unix_secs date → trimmed ≡ without_blanks text → IsDateText trimmed date → IfSome r (SaysHttpDate text)
said_at None text trimmed date secs is e same shown = tt
said_at (Some m) text trimmed date secs is e same shown =
    let bound : m < 253_402_128_000 = omega (arith, is.0, is.1) in
    record {
      in_range = bound;
      written = subst (λ (t : List ℕ). IsPartsText t (http_parts_of m)) same (subst (IsPartsText trimmed) (parts_at m date bound (sym (is.1 ∙ e))) shown);
    }

-- the text shows the date of a moment that it says
pub shows : (text trimmed : List ℕ) (m : ℕ) → trimmed ≡ without_blanks text → (says : SaysHttpDate text m) → IsDateText trimmed (http_date m says.in_range)
unfolding http_date
shows text trimmed m same says = subst (λ (t : List ℕ). IsPartsText t (http_parts_of m)) (sym same) says.written

pub exact_at : (r : Option ℕ) (text trimmed : List ℕ) (date : HttpDate) (secs : ℕ) → SomeIff r (secs < 253_402_128_000) secs → secs ≡ unix_secs date → trimmed ≡ without_blanks text → IsDateText trimmed date → (m : ℕ) → SaysHttpDate text m → r ≡ Some m
exact_at r text trimmed date secs is e same shown m says =
    let parts = IsDateText_unique trimmed date (http_date m says.in_range) shown (shows text trimmed m same says) in
    let at : secs ≡ m = e ∙ ap parts_secs parts ∙ http_date-secs m says.in_range in
    some_at r (secs < 253_402_128_000) secs is (omega (arith, says.in_range)) ∙ ap Some at

-- what begins with no blank and ends with the zone has no blanks to drop
no_blanks : (b : ℕ) (mid : List ℕ) → is_blank b ≡ false → without_blanks (b ∷ (mid ++ codes " GMT")) ≡ b ∷ (mid ++ codes " GMT")
no_blanks b mid e =
    let text : List ℕ = b ∷ (mid ++ codes " GMT") in
    let front : without_front_blanks text ≡ text = rw e refl in
    let turned : reverse text ≡ reverse (codes " GMT") ++ reverse (b ∷ mid) = reverse-append (b ∷ mid) (codes " GMT") in
    ap (λ (t : List ℕ). reverse (without_front_blanks (reverse t))) front
    ∙ ap (λ (t : List ℕ). reverse (without_front_blanks t)) turned
    ∙ ap reverse (sym turned)
    ∙ reverse-reverse text

-- a name of a day begins with no blank
pub record BeginsBare (text : List ℕ) : Type 0 where
  pub first : ℕ
  pub rest : List ℕ
  pub text_is : text ≡ first ∷ rest
  pub bare : is_blank first ≡ false

day_bare : (w : ℕ) → w < 7 → BeginsBare (day_name (w + 1))
day_bare zero h = record { first = 77; rest = codes "on"; text_is = refl; bare = refl }
day_bare (suc zero) h = record { first = 84; rest = codes "ue"; text_is = refl; bare = refl }
day_bare (suc (suc zero)) h = record { first = 87; rest = codes "ed"; text_is = refl; bare = refl }
day_bare (suc (suc (suc zero))) h = record { first = 84; rest = codes "hu"; text_is = refl; bare = refl }
day_bare (suc (suc (suc (suc zero)))) h = record { first = 70; rest = codes "ri"; text_is = refl; bare = refl }
day_bare (suc (suc (suc (suc (suc zero))))) h = record { first = 83; rest = codes "at"; text_is = refl; bare = refl }
day_bare (suc (suc (suc (suc (suc (suc zero)))))) h = record { first = 83; rest = codes "un"; text_is = refl; bare = refl }
day_bare (suc (suc (suc (suc (suc (suc (suc n))))))) h = absurd (omega arith)

-- the date after the name of the day, up to the zone
abbrev dated : List ℕ → Parts → List ℕ
dated day p =
    day ++ codes ", " ++ two_digits p.day ++ codes " " ++ month_name p.mon ++ codes " "
    ++ four_digits p.year ++ codes " " ++ time_of_day p

-- the date of a moment says the moment
pub says_date : (m : ℕ) → m < 253_402_128_000 → SaysHttpDate (http_date_of m) m
says_date m bound =
    let p = http_parts_of m in
    let day = day_bare ((m / 86_400 + 3) % 7) (omega arith) in
    let bare : without_blanks (dated (day_name p.wday) p ++ codes " GMT") ≡ dated (day_name p.wday) p ++ codes " GMT" =
    subst (λ (t : List ℕ). without_blanks (dated t p ++ codes " GMT") ≡ dated t p ++ codes " GMT") (sym day.text_is) (no_blanks day.first (dated day.rest p) day.bare) in
    record { in_range = bound; written = inl bare }
