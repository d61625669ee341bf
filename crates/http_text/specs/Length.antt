-- The length of a body as the fields of a head say it (RFC 9110, section 8.6).
use Rattle.std.specs.Prelude.{ℕ, Bool, true, false, List, [], ◌∷◌, codes, if◌then◌else◌}
use Rattle.std.specs.Str.Parse.{digits_value}
use Rattle.lc_time.specs.Digits.{is_decimal}
use Rattle.http_text.specs.declared.length.Length.{Length}
use Rattle.http_text.specs.declared.length.Length.TheVariants.{Missing, Said, Wrong}
use Rattle.http_text.specs.Fields.{FieldText, values_of}

-- the number that the value writes, in one to ten digits
abbrev pub length_at : List ℕ → Length
length_at value = if is_decimal value then Said (digits_value 10 value) else Wrong

-- what the values of the Content-Length fields say: one length, and no second one, even an equal one
abbrev pub length_in : List (List ℕ) → Length
length_in [] = Missing
length_in (value ∷ []) = length_at value
length_in (value ∷ second ∷ values) = Wrong

-- the length that the fields of a head say
abbrev pub length_of : List FieldText → Length
length_of fields = length_in (values_of (codes "content-length") fields)

-- two lengths, or one that is no number
abbrev pub is_wrong : Length → Bool
is_wrong Missing = false
is_wrong (Said n) = false
is_wrong Wrong = true

-- the length, or this one where none is said
abbrev pub said_or : Length → ℕ → ℕ
said_or Missing default = default
said_or (Said n) default = n
said_or Wrong default = default
