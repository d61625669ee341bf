-- Ids and runs as URLs have them.
use Rattle.std.proofs.Common.{◌≡◌, ℕ, ◌+◌, ◌/◌, ◌%◌, ◌^◌, ◌<◌, ◌≤◌, ◌++◌, ◌∙◌, Bool, true, cond, List, [], ◌∷◌, IsAscii, codes, decimal, refl, sym, ap, ap₂, append_assoc, arith}
use Rattle.std.specs.List.{list_all}
use Rattle.std.proofs.lemmas.Bool.{and_parts}
use Rattle.std.proofs.lemmas.Fmt.{IsAscii-decimal, decimal_digit, decimal_step}
use Rattle.std.proofs.lemmas.Str.{IsAscii-append}
use Rattle.std.proofs.lemmas.Str.Ascii.{IsAscii-nil, IsAscii-cons}
use Rattle.percent_encoding.specs.Percent.{percent_encode_byte}
use Rattle.connection_uri.specs.Encoding.{encoded, encoded_byte, is_unreserved}

as_it_is : (byte : ℕ) → is_unreserved byte ≡ true → encoded_byte byte ≡ byte ∷ []
as_it_is byte h = ap (λ (t : Bool). cond t (byte ∷ []) (percent_encode_byte byte)) h

-- unreserved bytes are encoded as they are
pub no_escape : (bytes : List ℕ) → list_all is_unreserved bytes ≡ true → encoded bytes ≡ bytes
unfolding encoded
no_escape [] h = refl
no_escape (byte ∷ bytes) h =
    let parts = and_parts (is_unreserved byte) (list_all is_unreserved bytes) h in
    ap₂ (λ (x y : List ℕ). x ++ y) (as_it_is byte parts.0) (no_escape bytes parts.1)

-- a text after a slash, and before another ASCII text
pub slashed : (text end : List ℕ) → IsAscii text → IsAscii end → IsAscii (codes "/" ++ (text ++ end))
slashed text end h k = IsAscii-cons 47 (text ++ end) (omega arith) (IsAscii-append text end h k)

-- what follows a date where a run has no start
pub dash : IsAscii (codes "/-")
dash = IsAscii-cons 47 (codes "-") (omega arith) (IsAscii-cons 45 [] (omega arith) IsAscii-nil)

-- a start after a slash
pub started : (text : List ℕ) → IsAscii text → IsAscii (codes "/" ++ text)
started text h = IsAscii-cons 47 text (omega arith) h

-- a number of one digit
pub one_digit_is : (n : ℕ) → n < 10 → (48 + n) ∷ [] ≡ decimal n
one_digit_is n h = sym (decimal_digit n h)

-- a number of two digits
pub two_digits_are : (n : ℕ) → 10 ≤ n → n < 100 → (48 + n / 10) ∷ (48 + n % 10) ∷ [] ≡ decimal n
two_digits_are n some few =
    let tens = decimal_digit (n / 10) (omega arith) in
    sym (decimal_step n some (omega arith) ∙ ap (λ (s : List ℕ). s ++ (48 + n % 10) ∷ []) tens)

-- a number after a slash
pub numbered : (n : ℕ) → n < 2 ^ 64 → IsAscii (codes "/" ++ decimal n)
numbered n h = started (decimal n) (IsAscii-decimal n h)

-- the parts of a run, grouped in two ways
pub run_is : (trip slash date dash start : List ℕ) → trip ++ (slash ++ (date ++ (dash ++ start))) ≡ trip ++ slash ++ date ++ dash ++ start
run_is trip slash date dash start = simp append_assoc
