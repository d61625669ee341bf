-- Bytes that are in a field's value, and what dropping blanks leaves of them.
use Rattle.std.proofs.Common.{◌≡◌, ℕ, ◌+◌, ◌%◌, ◌^◌, ◌<◌, Bool, true, false, List, [], ◌∷◌, ◌++◌, reverse, decimal, refl, arith}
use Rattle.std.specs.List.{list_all}
use Rattle.std.specs.Char.{is_ascii_digit}
use Rattle.std.specs.Str.Parse.{digits_value}
use Rattle.std.proofs.lemmas.Bool.{and_parts, le-leb, lt-ltb}
use Rattle.std.proofs.lemmas.List.{reverse-append, reverse-reverse}
use Rattle.std.proofs.lemmas.List.Folds.{list_all-append}
use Rattle.std.proofs.lemmas.List.Sums.{AllPass-from_list_all, list_all-from_AllPass}
use Rattle.std.proofs.lemmas.Fmt.{decimal_by_steps, decimal_is_IsNumeral, length-decimal-le, decimal_nonempty}
use Rattle.httparse.specs.Grammar.{AllPass, is_uri_byte, is_value_byte, is_ows, skip_ows, trim_ows}
use Rattle.connection_uri.specs.Base.{is_visible}
use Rattle.lc_time.specs.Digits.{is_decimal}

-- ---- dropping blanks

both : (p : ℕ → Bool) (xs ys : List ℕ) → list_all p xs ≡ true → list_all p ys ≡ true → list_all p (xs ++ ys) ≡ true
both p xs ys h k = rw (list_all-append, h, k) refl

reversed : (p : ℕ → Bool) (xs : List ℕ) → list_all p xs ≡ true → list_all p (reverse xs) ≡ true
reversed p [] h = refl
reversed p (x ∷ xs) h =
    let parts = and_parts (p x) (list_all p xs) h in
    let one : list_all p (x ∷ []) ≡ true = rw parts.0 refl in
    rw (reverse-append (x ∷ []) xs) (both p (reverse xs) (x ∷ []) (reversed p xs parts.1) one)

no_blank : (b : ℕ) → is_uri_byte b ≡ true → is_ows b ≡ false
no_blank b h = grind arith

skip_visible : (xs : List ℕ) → list_all is_uri_byte xs ≡ true → skip_ows xs ≡ xs
skip_visible [] h = refl
skip_visible (x ∷ xs) h = let parts = and_parts (is_uri_byte x) (list_all is_uri_byte xs) h in rw (no_blank x parts.0) refl

-- the value of a field with visible bytes after a blank
pub trimmed : (xs : List ℕ) → AllPass is_uri_byte xs → trim_ows (32 ∷ xs) ≡ xs
unfolding trim_ows
trimmed xs is =
    let all = list_all-from_AllPass is_uri_byte xs is in
    rw (skip_visible xs all, skip_visible (reverse xs) (reversed is_uri_byte xs all)) (reverse-reverse xs)

visible_value : (b : ℕ) → is_uri_byte b ≡ true → is_value_byte b ≡ true
visible_value b h = grind arith

visible_values : (xs : List ℕ) → list_all is_uri_byte xs ≡ true → list_all is_value_byte xs ≡ true
visible_values [] h = refl
visible_values (x ∷ xs) h =
    let parts = and_parts (is_uri_byte x) (list_all is_uri_byte xs) h in
    rw (visible_value x parts.0) (visible_values xs parts.1)

pub value_bytes : (xs : List ℕ) → AllPass is_uri_byte xs → AllPass is_value_byte xs
value_bytes xs is = AllPass-from_list_all is_value_byte xs (visible_values xs (list_all-from_AllPass is_uri_byte xs is))

authority_value : (b : ℕ) → is_visible b ≡ true → is_value_byte b ≡ true
authority_value b h = grind arith

authority_values : (xs : List ℕ) → list_all is_visible xs ≡ true → list_all is_value_byte xs ≡ true
authority_values [] h = refl
authority_values (x ∷ xs) h =
    let parts = and_parts (is_visible x) (list_all is_visible xs) h in
    rw (authority_value x parts.0) (authority_values xs parts.1)

pub authority_bytes : (xs : List ℕ) → list_all is_visible xs ≡ true → AllPass is_value_byte xs
authority_bytes xs is = AllPass-from_list_all is_value_byte xs (authority_values xs is)

-- ---- decimal numbers

digit : (n : ℕ) → n < 10 → is_ascii_digit (48 + n) ≡ true
digit n h = grind arith

pub decimal_digits : (n : ℕ) → n < 2 ^ 64 → list_all is_ascii_digit (decimal n) ≡ true
decimal_digits n h =
    decimal_by_steps (λ n ds. list_all is_ascii_digit ds ≡ true)
    (λ n lt. rw (digit n lt) refl)
    (λ n ds le all. let last : list_all is_ascii_digit ((48 + n % 10) ∷ []) ≡ true = rw (digit (n % 10) (omega arith)) refl in both is_ascii_digit ds ((48 + n % 10) ∷ []) all last)
    n h

digit_visible : (b : ℕ) → is_ascii_digit b ≡ true → is_uri_byte b ≡ true
digit_visible b h = grind arith

digits_visible : (xs : List ℕ) → list_all is_ascii_digit xs ≡ true → list_all is_uri_byte xs ≡ true
digits_visible [] h = refl
digits_visible (x ∷ xs) h =
    let parts = and_parts (is_ascii_digit x) (list_all is_ascii_digit xs) h in
    rw (digit_visible x parts.0) (digits_visible xs parts.1)

pub decimal_visible : (n : ℕ) → n < 2 ^ 64 → AllPass is_uri_byte (decimal n)
decimal_visible n h = AllPass-from_list_all is_uri_byte (decimal n) (digits_visible (decimal n) (decimal_digits n h))

-- a number below 10,000,000,000 is a length
pub decimal_length : (n : ℕ) → n < 10 ^ 10 → (is_decimal (decimal n) ≡ true) × (digits_value 10 (decimal n) ≡ n)
decimal_length n h =
    let small : n < 2 ^ 64 = omega arith in
    let some = lt-ltb _ _ (decimal_nonempty n small) in
    let few = le-leb _ _ (length-decimal-le 10 n (omega arith) h small) in
    (rw (some, few, decimal_digits n small) refl, (decimal_is_IsNumeral n small).1)
