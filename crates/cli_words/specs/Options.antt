-- What the values of options say.
use Rattle.std.specs.Prelude.{◌≡◌, ℕ, ◌==◌, ◌&&◌, nat_le, not, Bool, false, if◌then◌else◌, List, [], ◌∷◌, codes, Option, Some, None}
use Rattle.std.specs.Option.{option_and_then}
use Rattle.std.specs.Str.{bytes_eq}
use Rattle.clap.specs.Simple.{App}
use Rattle.lc_time.specs.Digits.{u32_said}
use Rattle.cli_words.specs.Line.{value_at}

-- the number, if it is between these
abbrev pub within : ℕ → ℕ → ℕ → Option ℕ
within low high number = if nat_le low number && nat_le number high then Some number else None

-- the number that a text says, if it is between these
abbrev pub bounded_said : ℕ → ℕ → List ℕ → Option ℕ
bounded_said low high text = option_and_then (within low high) (u32_said text)

-- the number that an option says, or its default where it is not there
abbrev pub number_said : ℕ → ℕ → ℕ → Option (List ℕ) → Option ℕ
number_said default low high None = Some default
number_said default low high (Some text) = bounded_said low high text

-- the number that an option says which has to be there
abbrev pub required_said : ℕ → ℕ → Option (List ℕ) → Option ℕ
required_said low high None = None
required_said low high (Some text) = bounded_said low high text

-- an option without a value is there
abbrev pub flag_said : Option (List ℕ) → Bool
flag_said None = false
flag_said (Some text) = bytes_eq text (codes "true")

-- the text that an option says, or its default where it is not there
abbrev pub text_said : List ℕ → Option (List ℕ) → List ℕ
text_said default None = default
text_said default (Some text) = text

-- the text is a name: neither empty, nor does it begin with a dash
abbrev pub is_name : List ℕ → Bool
is_name [] = false
is_name (first ∷ rest) = not (first == 45)

-- the word of a zone that `--zone` says, a name; `utc` where it is not there
abbrev pub zone_said : Option (List ℕ) → Option (List ℕ)
zone_said None = Some (codes "utc")
zone_said (Some word) = if is_name word then Some word else None

-- The options of a window: `--days` from 1 to 62, `--zone`, and `--change` up to a day, 120 where it is not there.
pub record AreOptions (a : App) (words : List (List ℕ)) (default_days days : ℕ) (zone : List ℕ) (change : ℕ) : Type 0 where
  pub days_said : number_said default_days 1 62 (value_at a words (codes "days")) ≡ Some days
  pub zone_is : zone_said (value_at a words (codes "zone")) ≡ Some zone
  pub change_said : number_said 120 0 86_400 (value_at a words (codes "change")) ≡ Some change
