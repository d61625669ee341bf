-- Percent-encoding of ids (RFC 3986, sections 2.1 and 2.3).
use Rattle.std.specs.Prelude.{ℕ, Bool, ◌||◌, ◌==◌, List, [], ◌∷◌, if◌then◌else◌}
use Rattle.std.specs.List.{flat_map}
use Rattle.std.specs.Char.{is_ascii_alphanumeric}
use Rattle.percent_encoding.specs.Percent.{percent_encode_byte}

-- a letter, a digit, or one of `-`, `.`, `_` and `~`
abbrev pub is_unreserved : ℕ → Bool
is_unreserved byte = is_ascii_alphanumeric byte || (byte == 45) || (byte == 46) || (byte == 95) || (byte == 126)

-- an unreserved byte as it is, and another as `%` with two digits, of which letters are capitals
abbrev pub encoded_byte : ℕ → List ℕ
encoded_byte byte = if is_unreserved byte then byte ∷ [] else percent_encode_byte byte

-- the bytes, each encoded
unfoldable pub encoded : List ℕ → List ℕ
encoded bytes = flat_map encoded_byte bytes
