-- A text says one value.
use Rattle.std.proofs.Common.{◌≡◌, ◌∙◌, ℕ, ◌+◌, ◌/◌, ◌%◌, ◌<◌, ◌⊎◌, inl, inr, List, [], ◌∷◌, ◌++◌, drop, get_or, length, ap, refl, sym, arith}
use Rattle.httpdate.specs.Valid.{parts_secs}
use Rattle.httpdate.proofs.Theorems.{IsDateText_unique}
use Rattle.lc_time.specs.Calendar.{Day, day_at}
use Rattle.lc_time.specs.Clock.{clock_text_of}
use Rattle.lc_time.specs.Digits.{four_digits, two_digits}
use Rattle.lc_time.specs.Http.{without_blanks}
use Rattle.lc_time.specs.Iso.{day_text_of}
use Rattle.lc_time.specs.Laws.{OneDate, OneHttpMoment, OneMoment, OneStart, OneTime}
use Rattle.lc_time.proofs.DateLemmas.{day_fits, fits, same_date}
use Rattle.lc_time.proofs.HttpLemmas.{days, days_at, http_date, http_date-secs, shows}
use Rattle.lc_time.proofs.IsoLemmas.{clock_said, day_said}

-- two digits say one number below 100
two_same : (m n : ℕ) (x y : List ℕ) → m < 100 → n < 100 → two_digits m ++ x ≡ two_digits n ++ y → (m ≡ n) × (x ≡ y)
two_same m n x y small small' e =
    let tens : 48 + m / 10 ≡ 48 + n / 10 = ap (λ (t : List ℕ). get_or t 0 0) e in
    let ones : 48 + m % 10 ≡ 48 + n % 10 = ap (λ (t : List ℕ). get_or t 1 0) e in
    (omega arith, ap (drop 2) e)

-- and four digits one below 10,000
four_same : (m n : ℕ) (x y : List ℕ) → m < 10_000 → n < 10_000 → four_digits m ++ x ≡ four_digits n ++ y → (m ≡ n) × (x ≡ y)
four_same m n x y small small' e =
    let hundreds = two_same (m / 100) (n / 100) _ _ (omega arith) (omega arith) e in
    let ones = two_same (m % 100) (n % 100) _ _ (omega arith) (omega arith) hundreds.1 in
    (omega (arith, hundreds.0, ones.0), ones.1)

pub one_date : OneDate
one_date a b e =
    let fa = fits a in
    let fb = fits b in
    let year = four_same a.year b.year _ _ fa.year_fits fb.year_fits e in
    let month = two_same a.month b.month _ _ fa.month_fits fb.month_fits year.1 in
    let day = two_same a.day b.day [] [] fa.day_fits fb.day_fits month.1 in
    same_date a b year.0 month.0 day.0

pub one_start : OneStart
one_start a b small small' e =
    let hours = two_same (a / 3600) (b / 3600) _ _ (omega arith) (omega arith) e in
    let minutes = two_same (a / 60 % 60) (b / 60 % 60) _ _ (omega arith) (omega arith) hours.1 in
    let seconds = two_same (a % 60) (b % 60) [] [] (omega arith) (omega arith) minutes.1 in
    omega (arith, hours.0, minutes.0, seconds.0)

one_clock : (a b : ℕ) → a < 360_000 → b < 360_000 → clock_text_of a ≡ clock_text_of b → a ≡ b
one_clock a b small small' e =
    let hours = two_same (a / 3600) (b / 3600) _ _ (omega arith) (omega arith) e in
    let minutes = two_same (a / 60 % 60) (b / 60 % 60) _ _ (omega arith) (omega arith) (ap (drop 1) hours.1) in
    let seconds = two_same (a % 60) (b % 60) [] [] (omega arith) (omega arith) (ap (drop 1) minutes.1) in
    omega (arith, hours.0, minutes.0, seconds.0)

-- a text of seven bytes and one of eight differ
apart : (text : List ℕ) (a b : ℕ) → text ≡ clock_text_of a → 48 ∷ text ≡ clock_text_of b → ⊥
apart text a b e f =
    let eight : length text ≡ 8 = ap length e in
    let seven : length (48 ∷ text) ≡ 8 = ap length f in
    omega arith

one_of_both : (text : List ℕ) (a b : ℕ) → a < 360_000 → b < 360_000 → (text ≡ clock_text_of a) ⊎ (48 ∷ text ≡ clock_text_of a) → (text ≡ clock_text_of b) ⊎ (48 ∷ text ≡ clock_text_of b) → a ≡ b
one_of_both text a b small small' (inl e) (inl f) = one_clock a b small small' (sym e ∙ f)
one_of_both text a b small small' (inl e) (inr f) = absurd (apart text a b e f)
one_of_both text a b small small' (inr e) (inl f) = absurd (apart text b a f e)
one_of_both text a b small small' (inr e) (inr f) = one_clock a b small small' (sym e ∙ f)

pub one_time : OneTime
one_time text a b says says' = one_of_both text a b says.in_range says'.in_range says.written says'.written

same_day : (a b : Day) → a.year ≡ b.year → a.month ≡ b.month → a.day ≡ b.day → a ≡ b
same_day a b year month day = λ i. record { year = year i; month = month i; day = day i }

-- a day's text is that of one day
one_day : (m n : ℕ) → m < 2_932_897 → n < 2_932_897 → day_text_of (day_at m) ≡ day_text_of (day_at n) → m ≡ n
one_day m n small small' e =
    let fm = day_fits m small in
    let fn = day_fits n small' in
    let year = four_same (day_at m).year (day_at n).year _ _ fm.year_fits fn.year_fits e in
    let month = two_same (day_at m).month (day_at n).month _ _ fm.month_fits fn.month_fits (ap (drop 1) year.1) in
    let day = two_same (day_at m).day (day_at n).day [] [] fm.day_fits fn.day_fits (ap (drop 1) month.1) in
    sym (days_at m small) ∙ ap days (same_day (day_at m) (day_at n) year.0 month.0 day.0) ∙ days_at n small'

pub one_moment : OneMoment
one_moment text a b says says' =
    let range : a < 253_402_128_000 = says.in_range in
    let range' : b < 253_402_128_000 = says'.in_range in
    let day = one_day (a / 86_400) (b / 86_400) (omega arith) (omega arith) (sym (day_said text a says) ∙ day_said text b says') in
    let clock = one_clock (a % 86_400) (b % 86_400) (omega arith) (omega arith) (sym (clock_said text a says) ∙ clock_said text b says') in
    omega (arith, day, clock)

pub one_http_moment : OneHttpMoment
one_http_moment text a b says says' =
    sym (http_date-secs a says.in_range)
    ∙ ap parts_secs (IsDateText_unique (without_blanks text) (http_date a says.in_range) (http_date b says'.in_range) (shows text _ a refl says) (shows text _ b refl says'))
    ∙ http_date-secs b says'.in_range
