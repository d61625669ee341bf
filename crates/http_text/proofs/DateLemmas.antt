-- A date of HTTP is in a field's value as it is written.
use Rattle.std.proofs.Common.{◌≡◌, ℕ, zero, suc, ◌+◌, ◌-◌, ◌/◌, ◌%◌, ◌<◌, true, false, List, [], ◌∷◌, ◌++◌, reverse, codes, refl, sym, ap, subst, ◌∙◌, arith}
use Rattle.std.specs.Prelude.{slice_index_or}
use Rattle.std.specs.List.{list_all}
use Rattle.std.proofs.lemmas.List.{reverse-append, reverse-reverse}
use Rattle.std.proofs.lemmas.List.Folds.{list_all-append}
use Rattle.std.proofs.lemmas.List.Sums.{AllPass-from_list_all}
use Rattle.httparse.specs.Grammar.{AllPass, is_value_byte, skip_ows, trim_ows}
use Rattle.httpdate.specs.Text.{day_name, month_name, two_digits, four_digits, time_of_day}
use Rattle.httpdate.specs.declared.parts.Parts.{Parts}
use Rattle.lc_time.specs.Http.{http_parts_of, http_date_of, is_blank, without_front_blanks, without_blanks}
use Rattle.lc_time.proofs.DateLemmas.{day_fits}

-- ---- the bytes of a date

-- the names of days and months, and nothing past them
day_bytes : (k : ℕ) → list_all is_value_byte (slice_index_or (codes "Mon" ∷ codes "Tue" ∷ codes "Wed" ∷ codes "Thu" ∷ codes "Fri" ∷ codes "Sat" ∷ codes "Sun" ∷ []) k []) ≡ true
day_bytes zero = refl
day_bytes (suc zero) = refl
day_bytes (suc (suc zero)) = refl
day_bytes (suc (suc (suc zero))) = refl
day_bytes (suc (suc (suc (suc zero)))) = refl
day_bytes (suc (suc (suc (suc (suc zero))))) = refl
day_bytes (suc (suc (suc (suc (suc (suc zero)))))) = refl
day_bytes (suc (suc (suc (suc (suc (suc (suc k))))))) = refl

early_bytes : (k : ℕ) (rest : List (List ℕ)) → ((n : ℕ) → list_all is_value_byte (slice_index_or rest n []) ≡ true) → list_all is_value_byte (slice_index_or (codes "Jan" ∷ codes "Feb" ∷ codes "Mar" ∷ codes "Apr" ∷ codes "May" ∷ codes "Jun" ∷ rest) k []) ≡ true
early_bytes zero rest h = refl
early_bytes (suc zero) rest h = refl
early_bytes (suc (suc zero)) rest h = refl
early_bytes (suc (suc (suc zero))) rest h = refl
early_bytes (suc (suc (suc (suc zero)))) rest h = refl
early_bytes (suc (suc (suc (suc (suc zero))))) rest h = refl
early_bytes (suc (suc (suc (suc (suc (suc k)))))) rest h = h k

late_bytes : (k : ℕ) → list_all is_value_byte (slice_index_or (codes "Jul" ∷ codes "Aug" ∷ codes "Sep" ∷ codes "Oct" ∷ codes "Nov" ∷ codes "Dec" ∷ []) k []) ≡ true
late_bytes zero = refl
late_bytes (suc zero) = refl
late_bytes (suc (suc zero)) = refl
late_bytes (suc (suc (suc zero))) = refl
late_bytes (suc (suc (suc (suc zero)))) = refl
late_bytes (suc (suc (suc (suc (suc zero))))) = refl
late_bytes (suc (suc (suc (suc (suc (suc k)))))) = refl

month_bytes : (mon : ℕ) → list_all is_value_byte (month_name mon) ≡ true
month_bytes mon = early_bytes (mon - 1) (codes "Jul" ∷ codes "Aug" ∷ codes "Sep" ∷ codes "Oct" ∷ codes "Nov" ∷ codes "Dec" ∷ []) late_bytes

digit_value_byte : (n : ℕ) → n < 10 → is_value_byte (48 + n) ≡ true
digit_value_byte n h = grind arith

two_bytes : (n : ℕ) → n < 100 → list_all is_value_byte (two_digits n) ≡ true
two_bytes n h =
    let tens : n / 10 < 10 = omega arith in
    let ones : n % 10 < 10 = omega arith in
    rw (digit_value_byte (n / 10) tens, digit_value_byte (n % 10) ones) refl

both : (xs ys : List ℕ) → list_all is_value_byte xs ≡ true → list_all is_value_byte ys ≡ true → list_all is_value_byte (xs ++ ys) ≡ true
both xs ys h k = rw (list_all-append, h, k) refl

clock_bytes : (p : Parts) → p.hour < 100 → p.min < 100 → p.sec < 100 → list_all is_value_byte (time_of_day p) ≡ true
clock_bytes p hour min sec =
    both (((two_digits p.hour ++ codes ":") ++ two_digits p.min) ++ codes ":") (two_digits p.sec)
    (both ((two_digits p.hour ++ codes ":") ++ two_digits p.min) (codes ":")
    (both (two_digits p.hour ++ codes ":") (two_digits p.min) (both (two_digits p.hour) (codes ":") (two_bytes p.hour hour) refl) (two_bytes p.min min)) refl)
    (two_bytes p.sec sec)

year_bytes : (y : ℕ) → y < 10_000 → list_all is_value_byte (four_digits y) ≡ true
year_bytes y h = both (two_digits (y / 100)) (two_digits (y % 100)) (two_bytes (y / 100) (omega arith)) (two_bytes (y % 100) (omega arith))

ten : (a b c d e f g h i j : List ℕ) → list_all is_value_byte a ≡ true → list_all is_value_byte b ≡ true → list_all is_value_byte c ≡ true → list_all is_value_byte d ≡ true → list_all is_value_byte e ≡ true → list_all is_value_byte f ≡ true → list_all is_value_byte g ≡ true → list_all is_value_byte h ≡ true → list_all is_value_byte i ≡ true → list_all is_value_byte j ≡ true → list_all is_value_byte (a ++ b ++ c ++ d ++ e ++ f ++ g ++ h ++ i ++ j) ≡ true
ten a b c d e f g h i j pa pb pc pd pe pf pg ph pi pj =
    let ab = both a b pa pb in
    let abc = both (a ++ b) c ab pc in
    let abcd = both (a ++ b ++ c) d abc pd in
    let abcde = both (a ++ b ++ c ++ d) e abcd pe in
    let abcdef = both (a ++ b ++ c ++ d ++ e) f abcde pf in
    let abcdefg = both (a ++ b ++ c ++ d ++ e ++ f) g abcdef pg in
    let abcdefgh = both (a ++ b ++ c ++ d ++ e ++ f ++ g) h abcdefg ph in
    let abcdefghi = both (a ++ b ++ c ++ d ++ e ++ f ++ g ++ h) i abcdefgh pi in
    both (a ++ b ++ c ++ d ++ e ++ f ++ g ++ h ++ i) j abcdefghi pj

-- the parts of a date, one after the other
parts_bytes : (p : Parts) → p.day < 100 → p.year < 10_000 → p.hour < 100 → p.min < 100 → p.sec < 100 → list_all is_value_byte (day_name p.wday ++ codes ", " ++ two_digits p.day ++ codes " " ++ month_name p.mon ++ codes " " ++ four_digits p.year ++ codes " " ++ time_of_day p ++ codes " GMT") ≡ true
parts_bytes p day year hour min sec =
    ten (day_name p.wday) (codes ", ") (two_digits p.day) (codes " ") (month_name p.mon) (codes " ") (four_digits p.year) (codes " ") (time_of_day p) (codes " GMT")
    (day_bytes (p.wday - 1)) refl (two_bytes p.day day) refl (month_bytes p.mon) refl (year_bytes p.year year) refl (clock_bytes p hour min sec) refl

-- the date after the name of the day, up to the zone
abbrev dated : List ℕ → Parts → List ℕ
dated day p =
    day ++ codes ", " ++ two_digits p.day ++ codes " " ++ month_name p.mon ++ codes " "
    ++ four_digits p.year ++ codes " " ++ time_of_day p

pub date_bytes : (m : ℕ) → m < 253_402_128_000 → AllPass is_value_byte (http_date_of m)
date_bytes m bound =
    let p = http_parts_of m in
    let days : m / 86_400 < 2_932_897 = omega arith in
    let fits = day_fits (m / 86_400) days in
    let bytes = parts_bytes p fits.day_fits fits.year_fits (omega arith) (omega arith) (omega arith) in
    AllPass-from_list_all is_value_byte (http_date_of m) bytes

-- ---- its ends are no blanks

same_skip : (xs : List ℕ) → skip_ows xs ≡ without_front_blanks xs
same_skip [] = refl
same_skip (x ∷ xs) = rw (same_skip xs) refl

trim_is : (xs : List ℕ) → trim_ows (32 ∷ xs) ≡ without_blanks xs
unfolding trim_ows
trim_is xs = rw (same_skip xs, same_skip (reverse (without_front_blanks xs))) refl

no_blanks : (b : ℕ) (mid : List ℕ) → is_blank b ≡ false → without_blanks (b ∷ (mid ++ codes " GMT")) ≡ b ∷ (mid ++ codes " GMT")
no_blanks b mid e =
    let text : List ℕ = b ∷ (mid ++ codes " GMT") in
    let front : without_front_blanks text ≡ text = rw e refl in
    let turned : reverse text ≡ reverse (codes " GMT") ++ reverse (b ∷ mid) = reverse-append (b ∷ mid) (codes " GMT") in
    ap (λ (t : List ℕ). reverse (without_front_blanks (reverse t))) front
    ∙ ap (λ (t : List ℕ). reverse (without_front_blanks t)) turned
    ∙ ap reverse (sym turned)
    ∙ reverse-reverse text

-- a name of a day begins with no blank
record BeginsBare (text : List ℕ) : Type 0 where
  first : ℕ
  rest : List ℕ
  text_is : text ≡ first ∷ rest
  bare : is_blank first ≡ false

day_bare : (w : ℕ) → w < 7 → BeginsBare (day_name (w + 1))
day_bare zero h = record { first = 77; rest = codes "on"; text_is = refl; bare = refl }
day_bare (suc zero) h = record { first = 84; rest = codes "ue"; text_is = refl; bare = refl }
day_bare (suc (suc zero)) h = record { first = 87; rest = codes "ed"; text_is = refl; bare = refl }
day_bare (suc (suc (suc zero))) h = record { first = 84; rest = codes "hu"; text_is = refl; bare = refl }
day_bare (suc (suc (suc (suc zero)))) h = record { first = 70; rest = codes "ri"; text_is = refl; bare = refl }
day_bare (suc (suc (suc (suc (suc zero))))) h = record { first = 83; rest = codes "at"; text_is = refl; bare = refl }
day_bare (suc (suc (suc (suc (suc (suc zero)))))) h = record { first = 83; rest = codes "un"; text_is = refl; bare = refl }
day_bare (suc (suc (suc (suc (suc (suc (suc n))))))) h = absurd (omega arith)

-- the value of a field with the date of a moment after a blank
pub date_trimmed : (m : ℕ) → trim_ows (32 ∷ http_date_of m) ≡ http_date_of m
date_trimmed m =
    let p = http_parts_of m in
    let day = day_bare ((m / 86_400 + 3) % 7) (omega arith) in
    let bare : without_blanks (dated (day_name p.wday) p ++ codes " GMT") ≡ dated (day_name p.wday) p ++ codes " GMT" =
    subst (λ (t : List ℕ). without_blanks (dated t p ++ codes " GMT") ≡ dated t p ++ codes " GMT") (sym day.text_is) (no_blanks day.first (dated day.rest p) day.bare) in
    trim_is (http_date_of m) ∙ bare
