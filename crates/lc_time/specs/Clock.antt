-- Times of a day, in seconds from its start.
use Rattle.std.specs.Prelude.{◌≡◌, ℕ, ◌+◌, ◌*◌, ◌/◌, ◌%◌, ◌<◌, nat_lt, ◌==◌, ◌⊎◌, Bool, ◌&&◌, if◌then◌else◌, List, [], ◌∷◌, ◌++◌, length, codes, Option, Some, None}
use Rattle.std.specs.List.{list_all}
use Rattle.std.specs.Char.{is_ascii_digit}
use Rattle.lc_time.specs.Digits.{two_digits, number_of}

-- HH:MM:SS, of fewer than 100 hours
abbrev pub clock_text_of : ℕ → List ℕ
clock_text_of seconds =
    two_digits (seconds / 3600) ++ codes ":" ++ two_digits (seconds / 60 % 60) ++ codes ":"
    ++ two_digits (seconds % 60)

-- The text is a time of GTFS Schedule Reference, field type Time: HH:MM:SS, or H:MM:SS, in which a zero before the
-- hours is left out.
pub record SaysGtfsTime (text : List ℕ) (seconds : ℕ) : Type 0 where
  pub in_range : seconds < 360_000
  pub written : (text ≡ clock_text_of seconds) ⊎ (48 ∷ text ≡ clock_text_of seconds)

-- HHMMSS, a start of fewer than 100 hours
abbrev pub start_text_of : ℕ → List ℕ
start_text_of start = two_digits (start / 3600) ++ two_digits (start / 60 % 60) ++ two_digits (start % 60)

-- two digits of hours, and two of minutes and of seconds up to 59
abbrev pub are_clock_digits : (h h' m m' s s' : ℕ) → Bool
are_clock_digits h h' m m' s s' =
    list_all is_ascii_digit (h ∷ h' ∷ m ∷ m' ∷ s ∷ s' ∷ []) && (nat_lt (number_of m m') 60 && nat_lt (number_of s s') 60)

-- the seconds that a text says, HH:MM:SS
abbrev pub clock_said : List ℕ → Option ℕ
clock_said (h ∷ h' ∷ colon ∷ m ∷ m' ∷ colon' ∷ s ∷ s' ∷ []) =
    if ((colon == 58) && (colon' == 58)) && are_clock_digits h h' m m' s s'
    then Some (number_of h h' * 3600 + number_of m m' * 60 + number_of s s')
    else None
clock_said _ = None

-- the seconds that a time of GTFS says, in which a zero before the hours may be left out
abbrev pub gtfs_time_said : List ℕ → Option ℕ
gtfs_time_said text = clock_said (if length text == 7 then 48 ∷ text else text)
