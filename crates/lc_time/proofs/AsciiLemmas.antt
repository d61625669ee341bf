-- The texts of this crate are ASCII.
use Rattle.std.proofs.Common.{ℕ, ◌+◌, ◌/◌, ◌%◌, ◌<◌, List, [], ◌∷◌, ◌++◌, IsAscii, arith}
use Rattle.std.proofs.lemmas.Str.Ascii.{IsAscii-nil, IsAscii-cons}
use Rattle.std.proofs.lemmas.Str.{IsAscii-append}
use Rattle.lc_time.specs.Calendar.{day_at}
use Rattle.lc_time.specs.Clock.{clock_text_of, start_text_of}
use Rattle.lc_time.specs.Date.{date_text_of, AreDateNumbers}
use Rattle.lc_time.specs.Digits.{two_digits, four_digits}
use Rattle.lc_time.specs.Iso.{day_text_of, iso_text_of}
use Rattle.lc_time.proofs.DateLemmas.{day_fits}

-- bytes below 128 alone
record Ascii (bytes : List ℕ) : Type 0 where
  ascii : IsAscii bytes

one : (byte : ℕ) → byte < 128 → Ascii (byte ∷ [])
one byte h = record { ascii = IsAscii-cons byte [] h IsAscii-nil }

joined : {a b : List ℕ} → Ascii a → Ascii b → Ascii (a ++ b)
joined {a} {b} h k = record { ascii = IsAscii-append a b h.ascii k.ascii }

two : (n : ℕ) → n < 100 → Ascii (two_digits n)
two n h = joined (one (48 + n / 10) (omega arith)) (one (48 + n % 10) (omega arith))

four : (n : ℕ) → n < 10_000 → Ascii (four_digits n)
four n h = joined (two (n / 100) (omega arith)) (two (n % 100) (omega arith))

pub date_ascii : (year month day : ℕ) → AreDateNumbers year month day → IsAscii (date_text_of year month day)
date_ascii year month day fits =
    (joined (joined (four year fits.year_fits) (two month fits.month_fits)) (two day fits.day_fits)).ascii

pub start_ascii : (start : ℕ) → start < 360_000 → IsAscii (start_text_of start)
start_ascii start h =
    (joined (joined (two (start / 3600) (omega arith)) (two (start / 60 % 60) (omega arith))) (two (start % 60) (omega arith))).ascii

clock_ascii : (seconds : ℕ) → seconds < 360_000 → Ascii (clock_text_of seconds)
clock_ascii seconds h =
    let colon = one 58 (omega arith) in
    let hours = two (seconds / 3600) (omega arith) in
    let minutes = two (seconds / 60 % 60) (omega arith) in
    joined (joined (joined (joined hours colon) minutes) colon) (two (seconds % 60) (omega arith))

day_ascii : (days : ℕ) → days < 2_932_897 → Ascii (day_text_of (day_at days))
day_ascii days h =
    let dash = one 45 (omega arith) in
    let fits = day_fits days h in
    let year = four (day_at days).year fits.year_fits in
    joined (joined (joined (joined year dash) (two (day_at days).month fits.month_fits)) dash) (two (day_at days).day fits.day_fits)

pub iso_ascii : (moment : ℕ) → moment < 253_402_128_000 → IsAscii (iso_text_of moment)
iso_ascii moment h =
    let day = day_ascii (moment / 86_400) (omega arith) in
    let clock = clock_ascii (moment % 86_400) (omega arith) in
    let zero = one 48 (omega arith) in
    let end = joined (one 46 (omega arith)) (joined zero (joined zero (joined zero (one 90 (omega arith))))) in
    (joined (joined (joined day (one 84 (omega arith))) clock) end).ascii
