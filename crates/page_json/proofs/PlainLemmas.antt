-- Texts that JSON has as they are.
use Rattle.std.proofs.Common.{◌≡◌, ◌≢◌, ℕ, ◌+◌, ◌/◌, ◌%◌, ◌^◌, ◌<◌, ◌≤◌, Bool, true, false, List, [], ◌∷◌, ◌++◌, All, codes, decimal, Option, Some, None, refl, ap, ap₂, ◌∙◌, arith}
use Rattle.std.specs.Prelude.{if◌then◌else◌}
use Rattle.std.specs.List.{list_all}
use Rattle.std.specs.Option.{ForSome}
use Rattle.std.proofs.lemmas.Bool.Decides.{nat_tests}
use Rattle.std.proofs.lemmas.Fmt.{decimal_is_IsNumeral}
use Rattle.std.proofs.lemmas.Grind.{flat_map-append}
use Rattle.std.proofs.lemmas.List.Elements.{All-from_get_or, All-head, All-tail}
use Rattle.std.proofs.lemmas.List.Sums.{AllPass-from_list_all}
use Rattle.std.proofs.lemmas.Str.Parse.{digit_at}
use Rattle.json.specs.Print.{escape, escape_byte}
use Rattle.json.specs.Run.{is_plain}
use Rattle.json.proofs.Printed.Strings.{escape_byte_plain}
use Rattle.lc_model.specs.declared.date.ServiceDate.{ServiceDate}
use Rattle.lc_model.specs.declared.key.RunKey.{RunKey}
use Rattle.lc_time.specs.Date.{date_text_of}
use Rattle.lc_time.specs.Digits.{four_digits, two_digits}
use Rattle.lc_time.specs.Iso.{iso_text_of}
use Rattle.lc_time.proofs.DateLemmas.{fits}
use Rattle.percent_encoding.specs.Percent.{percent_encode_byte}
use Rattle.percent_encoding.proofs.PercentLemmas.{All-percent_encode_byte, IsEscapeByte}
use Rattle.connection_uri.specs.Encoding.{encoded, encoded_byte, is_unreserved}
use Rattle.connection_uri.specs.Name.{run_part_of, start_part_of}
use Rattle.connection_uri.proofs.MomentLemmas.{IsMomentByte, moment_bytes}

-- JSON has the text as it is
pub record Plain (text : List ℕ) : Type 0 where
  pub same : escape text ≡ text

pub both : {a b : List ℕ} → Plain a → Plain b → Plain (a ++ b)
both {a} {b} h k = record { same = flat_map-append escape_byte a b ∙ ap₂ (λ (x y : List ℕ). x ++ y) h.same k.same }

one : (byte : ℕ) → byte ≢ 34 → byte ≢ 92 → 32 ≤ byte → Plain (byte ∷ [])
one byte quote slash printed = record { same = ap (λ (x : List ℕ). x ++ []) (escape_byte_plain byte quote slash printed) }

each : (P : ℕ → Type 0) → ((byte : ℕ) → P byte → Plain (byte ∷ [])) → (text : List ℕ) → All P text → Plain text
each P plain [] all = record { same = refl }
each P plain (byte ∷ text) all = both (plain byte (All-head P byte text all)) (each P plain text (All-tail P byte text all))

passed : (byte : ℕ) → is_plain byte ≡ true → Plain (byte ∷ [])
passed byte h = one byte (grind (arith, nat_tests)) (grind (arith, nat_tests)) (grind (arith, nat_tests))

-- whether JSON has a text as it is, by its bytes
pub tested : (text : List ℕ) → list_all is_plain text ≡ true → Plain text
tested text h = each (λ byte. is_plain byte ≡ true) passed text (AllPass-from_list_all is_plain text h)

moment_byte : (byte : ℕ) → IsMomentByte byte → Plain (byte ∷ [])
moment_byte byte h = one byte (grind (arith, nat_tests)) (grind (arith, nat_tests)) (grind (arith, nat_tests))

pub moment : (m : ℕ) → m < 253_402_128_000 → Plain (iso_text_of m)
moment m h = each IsMomentByte moment_byte (iso_text_of m) (moment_bytes m h)

unreserved : (byte : ℕ) → is_unreserved byte ≡ true → Plain (byte ∷ [])
unreserved byte h = one byte (grind (arith, nat_tests)) (grind (arith, nat_tests)) (grind (arith, nat_tests))

escape_byte_is : (byte : ℕ) → IsEscapeByte byte → Plain (byte ∷ [])
escape_byte_is byte h = one byte (grind arith) (grind arith) (grind arith)

either : (test : Bool) (x y : List ℕ) → (test ≡ true → Plain x) → Plain y → Plain (if test then x else y)
either true x y h k = h refl
either false x y h k = k

encoded_one : (byte : ℕ) → Plain (encoded_byte byte)
encoded_one byte =
    either (is_unreserved byte) (byte ∷ []) (percent_encode_byte byte) (unreserved byte) (each IsEscapeByte escape_byte_is (percent_encode_byte byte) (All-percent_encode_byte byte))

pub id : (bytes : List ℕ) → Plain (encoded bytes)
unfolding encoded
id [] = record { same = refl }
id (byte ∷ bytes) = both (encoded_one byte) (id bytes)

digit : (n : ℕ) → n < 10 → Plain ((48 + n) ∷ [])
digit n h = one (48 + n) (λ e. omega arith) (λ e. omega arith) (omega arith)

two : (n : ℕ) → n < 100 → Plain (two_digits n)
two n h = both (digit (n / 10) (omega arith)) (digit (n % 10) (omega arith))

four : (n : ℕ) → n < 10_000 → Plain (four_digits n)
four n h = both (two (n / 100) (omega arith)) (two (n % 100) (omega arith))

date : (d : ServiceDate) → Plain (date_text_of d.year d.month d.day)
date d = let h = fits d in both (both (four d.year h.year_fits) (two d.month h.month_fits)) (two d.day h.day_fits)

start : (s : Option ℕ) → ForSome s (λ seconds. seconds < 360_000) → Plain (start_part_of s)
start None h = tested (codes "-") refl
start (Some s) h =
    let small : s < 360_000 = h s refl in
    both (both (two (s / 3600) (omega arith)) (two (s / 60 % 60) (omega arith))) (two (s % 60) (omega arith))

pub run : (key : RunKey) → Plain (run_part_of key)
run key =
    let slash = tested (codes "/") refl in
    both (both (both (both (id key.trip) slash) (date key.date)) slash) (start key.start key.start_in_range)

abbrev IsDigit : ℕ → Type 0
IsDigit byte = (48 ≤ byte) × (byte ≤ 57)

a_digit : (byte : ℕ) → IsDigit byte → Plain (byte ∷ [])
a_digit byte h = one byte (λ e. omega (arith, h.1)) (λ e. omega (arith, h.1)) (omega (arith, h.0))

pub number : (n : ℕ) → n < 2 ^ 64 → Plain (decimal n)
number n h =
    let digits = (decimal_is_IsNumeral n h).0.1 in
    each IsDigit a_digit (decimal n) (All-from_get_or IsDigit (decimal n) 0 (λ i inside. let d = digit_at (decimal n) i digits inside in (d.0, d.1)))
