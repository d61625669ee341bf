-- Numbers in decimal. What digits write is `digits_value 10` of std, in which zeros may come first.
use Rattle.std.specs.Prelude.{ℕ, ◌+◌, ◌/◌, ◌%◌, ◌^◌, nat_lt, nat_le, Bool, ◌&&◌, if◌then◌else◌, List, [], ◌∷◌, ◌++◌, length, Option, Some, None}
use Rattle.std.specs.Char.{is_ascii_digit}
use Rattle.std.specs.List.{list_all}
use Rattle.std.specs.Option.{option_and_then}
use Rattle.std.specs.Str.Parse.{digits_value}

-- a number below 100
abbrev pub two_digits : ℕ → List ℕ
two_digits n = (48 + n / 10) ∷ (48 + n % 10) ∷ []

-- a number below 10,000
abbrev pub four_digits : ℕ → List ℕ
four_digits n = two_digits (n / 100) ++ two_digits (n % 100)

-- the number that two digits write
abbrev pub number_of : ℕ → ℕ → ℕ
number_of tens ones = digits_value 10 (tens ∷ ones ∷ [])

-- one to ten digits
abbrev pub is_decimal : List ℕ → Bool
is_decimal text = nat_lt 0 (length text) && nat_le (length text) 10 && list_all is_ascii_digit text

-- the number that a text of one to ten digits says
abbrev pub decimal_said : List ℕ → Option ℕ
decimal_said text = if is_decimal text then Some (digits_value 10 text) else None

-- the number below 2^32 that a text of one to ten digits says
abbrev pub u32_said : List ℕ → Option ℕ
u32_said text = option_and_then (λ number. if nat_lt number (2 ^ 32) then Some number else None) (decimal_said text)
