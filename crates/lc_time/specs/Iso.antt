-- Moments as texts of ISO 8601, in UTC.
use Rattle.std.specs.Prelude.{◌≡◌, ℕ, ◌/◌, ◌%◌, ◌<◌, ◌⊎◌, List, ◌∷◌, ◌++◌, codes}
use Rattle.std.specs.Char.{IsAsciiDigit}
use Rattle.lc_time.specs.Calendar.{Day, day_at}
use Rattle.lc_time.specs.Clock.{clock_text_of}
use Rattle.lc_time.specs.Digits.{two_digits, four_digits}

-- YYYY-MM-DD
abbrev pub day_text_of : Day → List ℕ
day_text_of d = four_digits d.year ++ codes "-" ++ two_digits d.month ++ codes "-" ++ two_digits d.day

-- YYYY-MM-DDTHH:MM:SS, the second that begins at the moment
abbrev pub second_text_of : ℕ → List ℕ
second_text_of moment =
    day_text_of (day_at (moment / 86_400)) ++ codes "T" ++ clock_text_of (moment % 86_400)

-- YYYY-MM-DDTHH:MM:SS.000Z
abbrev pub iso_text_of : ℕ → List ℕ
iso_text_of moment = second_text_of moment ++ codes ".000Z"

-- a fraction of three digits, and Z
pub record IsFraction (rest : List ℕ) : Type 0 where
  pub tenths : ℕ
  pub hundredths : ℕ
  pub thousandths : ℕ
  pub tenths_digit : IsAsciiDigit tenths
  pub hundredths_digit : IsAsciiDigit hundredths
  pub thousandths_digit : IsAsciiDigit thousandths
  pub written : rest ≡ codes "." ++ tenths ∷ hundredths ∷ thousandths ∷ codes "Z"

-- The text is YYYY-MM-DDTHH:MM:SSZ of this moment, or the same with a fraction of three digits before the Z, which
-- says nothing.
pub record SaysMoment (text : List ℕ) (moment : ℕ) : Type 0 where
  pub rest : List ℕ
  pub in_range : moment < 253_402_128_000
  pub written : text ≡ second_text_of moment ++ rest
  pub ended : (rest ≡ codes "Z") ⊎ IsFraction rest
