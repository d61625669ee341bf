-- The bytes of a moment's text.
use Rattle.std.proofs.Common.{◌≡◌, ℕ, ◌+◌, ◌/◌, ◌%◌, ◌<◌, Bool, true, ◌&&◌, ◌||◌, leb, List, [], ◌∷◌, ◌++◌, All, refl, arith}
use Rattle.std.specs.Prelude.{◌==◌}
use Rattle.std.proofs.lemmas.Bool.Decides.{nat_tests}
use Rattle.std.proofs.lemmas.List.Elements.{All-nil, All-cons, All-append}
use Rattle.lc_time.specs.Calendar.{day_at}
use Rattle.lc_time.specs.Clock.{clock_text_of}
use Rattle.lc_time.specs.Digits.{two_digits, four_digits}
use Rattle.lc_time.specs.Iso.{day_text_of, iso_text_of}
use Rattle.lc_time.proofs.DateLemmas.{day_fits}

-- `-` to `:`, which has the digits, and `T` and `Z`
abbrev pub is_moment_byte : ℕ → Bool
is_moment_byte b = (leb 45 b && leb b 58) || (b == 84) || (b == 90)

abbrev pub IsMomentByte : ℕ → Type 0
IsMomentByte b = is_moment_byte b ≡ true

-- such bytes alone
record Written (bytes : List ℕ) : Type 0 where
  all : All IsMomentByte bytes

one : (byte : ℕ) → IsMomentByte byte → Written (byte ∷ [])
one byte h = record { all = All-cons IsMomentByte byte [] h (All-nil IsMomentByte) }

joined : {a b : List ℕ} → Written a → Written b → Written (a ++ b)
joined {a} {b} h k = record { all = All-append IsMomentByte a b h.all k.all }

digit : (n : ℕ) → n < 10 → Written ((48 + n) ∷ [])
digit n h = one (48 + n) (grind (arith, nat_tests))

two : (n : ℕ) → n < 100 → Written (two_digits n)
two n h = joined (digit (n / 10) (omega arith)) (digit (n % 10) (omega arith))

four : (n : ℕ) → n < 10_000 → Written (four_digits n)
four n h = joined (two (n / 100) (omega arith)) (two (n % 100) (omega arith))

clock : (seconds : ℕ) → seconds < 360_000 → Written (clock_text_of seconds)
clock seconds h =
    let colon = one 58 refl in
    let hours = two (seconds / 3600) (omega arith) in
    let minutes = two (seconds / 60 % 60) (omega arith) in
    joined (joined (joined (joined hours colon) minutes) colon) (two (seconds % 60) (omega arith))

day : (days : ℕ) → days < 2_932_897 → Written (day_text_of (day_at days))
day days h =
    let dash = one 45 refl in
    let fits = day_fits days h in
    let year = four (day_at days).year fits.year_fits in
    joined (joined (joined (joined year dash) (two (day_at days).month fits.month_fits)) dash) (two (day_at days).day fits.day_fits)

pub moment_bytes : (moment : ℕ) → moment < 253_402_128_000 → All IsMomentByte (iso_text_of moment)
moment_bytes moment h =
    let date = day (moment / 86_400) (omega arith) in
    let time = clock (moment % 86_400) (omega arith) in
    let zero = one 48 refl in
    let end = joined (one 46 refl) (joined zero (joined zero (joined zero (one 90 refl)))) in
    (joined (joined (joined date (one 84 refl)) time) end).all
