-- Request targets (RFC 9112, section 3.2): origin form, and absolute form of http.
use Rattle.std.specs.Prelude.{ℕ, Bool, false, ◌||◌, ◌==◌, List, [], ◌∷◌, take, drop, map, codes, if◌then◌else◌}
use Rattle.std.specs.List.{before_first, after_first}
use Rattle.std.specs.Str.{str_eq_ignore_ascii_case}
use Rattle.std.specs.Str.Lossy.{utf8_lossy}
use Rattle.form_urlencoded.specs.Form.{decode, raw_pairs}
use Rattle.http_text.specs.Bytes.{slash, question_mark}
use Rattle.http_text.specs.declared.member.Member.{Member}

-- the target begins with a slash
abbrev pub is_origin_form : List ℕ → Bool
is_origin_form [] = false
is_origin_form (byte ∷ rest) = byte == slash

-- the target begins with http://, without regard to case
abbrev pub is_absolute_form : List ℕ → Bool
is_absolute_form target = str_eq_ignore_ascii_case (take 7 target) (codes "http://")

-- what the target is from its path on: an authority ends at the first slash or question mark
abbrev pub ends_authority : ℕ → Bool
ends_authority byte = (byte == slash) || (byte == question_mark)

-- the bytes from the first one on that passes the test
abbrev pub from_first : (ℕ → Bool) → List ℕ → List ℕ
from_first test [] = []
from_first test (byte ∷ bytes) = if test byte then byte ∷ bytes else from_first test bytes

-- a target from its path on
abbrev pub behind_authority : List ℕ → List ℕ
behind_authority target = if is_absolute_form target then from_first ends_authority (drop 7 target) else target

-- a slash where there is nothing
abbrev pub or_slash : List ℕ → List ℕ
or_slash [] = codes "/"
or_slash (byte ∷ path) = byte ∷ path

-- the path, up to the first question mark and not decoded
abbrev pub path_of : List ℕ → List ℕ
path_of target = or_slash (before_first (λ b. b == question_mark) (behind_authority target))

-- what follows the first question mark
abbrev pub query_of : List ℕ → List ℕ
query_of target = after_first (λ b. b == question_mark) (behind_authority target)

-- A text of a query, decoded: `+` is a space, escapes are decoded, and what is no UTF-8 becomes U+FFFD.
abbrev pub decoded_text : List ℕ → List ℕ
decoded_text text = utf8_lossy (decode text)

-- a name and a value, decoded
abbrev pub member_of : List ℕ × List ℕ → Member
member_of pair = record { name = decoded_text pair.0; value = decoded_text pair.1 }

-- the members of a query, in order (URL Standard, section 5.1)
abbrev pub members_of : List ℕ → List Member
members_of query = map member_of (raw_pairs query)
