-- The words of an answer have no blanks, and a text is parted at its blanks into them.
use Rattle.std.proofs.Common.{◌≡◌, ◌≢◌, ◌∙◌, ℕ, zero, suc, ◌/◌, ◌%◌, ◌<◌, ◌≤◌, Bool, true, false, cond, nat_le, ◌&&◌, ◌==◌, inl, inr, List, [], ◌∷◌, ◌++◌, Option, Some, None, All, refl, sym, ap, codes, decimal, get_or, arith}
use Rattle.std.specs.Fmt.{digit_glyph, digits, digits_onto}
use Rattle.std.specs.List.{slice_split}
use Rattle.std.proofs.lemmas.Bool.{agree_below_at, and_parts, cases_lt, eq-eqb, false≢true, leb-true}
use Rattle.std.proofs.lemmas.Bool.Decides.{nat_tests}
use Rattle.std.proofs.lemmas.List.Elements.{All-append, All-cons, All-nil, All-weaker}
use Rattle.std.proofs.lemmas.List.Splits.{slice_split_at}
use Rattle.lc_time.specs.Date.{date_text_of}
use Rattle.lc_time.specs.Clock.{start_text_of}
use Rattle.lc_time.specs.Iso.{iso_text_of}
use Rattle.percent_encoding.specs.Percent.{percent_encode_byte}
use Rattle.percent_encoding.proofs.PercentLemmas.{All-percent_encode_byte, IsEscapeByte}
use Rattle.connection_uri.specs.Encoding.{encoded, encoded_byte, is_unreserved}
use Rattle.connection_uri.specs.Name.{start_part_of}
use Rattle.connection_uri.proofs.MomentLemmas.{IsMomentByte, moment_bytes}
use Rattle.journey_text.specs.Words.{is_blank}

-- texts whose first bytes differ are not one
pub first_apart : (x y : List ℕ) → x ≡ y → (get_or x 0 0 == get_or y 0 0) ≡ false → ⊥
first_apart x y e differ = false≢true (sym differ ∙ eq-eqb (get_or x 0 0) (get_or y 0 0) (ap (λ (text : List ℕ). get_or text 0 0) e))

-- the byte is no blank
abbrev pub IsLetter : ℕ → Type 0
IsLetter byte = is_blank byte ≡ false

-- no byte of the text is a blank
abbrev pub IsWord : List ℕ → Type 0
IsWord text = All IsLetter text

-- what is above the space is no blank
above_space : (byte : ℕ) → 33 ≤ byte → IsLetter byte
above_space byte h = grind (arith, nat_tests)

letter : (byte : ℕ) (text : List ℕ) → 33 ≤ byte → IsWord text → IsWord (byte ∷ text)
letter byte text h is = All-cons IsLetter byte text (above_space byte h) is

no_letter : IsWord []
no_letter = All-nil IsLetter

-- each byte is above the space
abbrev pub is_above : List ℕ → Bool
is_above [] = true
is_above (byte ∷ text) = nat_le 33 byte && is_above text

-- what a literal is tested by
pub fixed_word : (text : List ℕ) → is_above text ≡ true → IsWord text
fixed_word [] e = no_letter
fixed_word (byte ∷ text) e =
    let parts = and_parts (nat_le 33 byte) (is_above text) e in
    letter byte text (leb-true 33 byte parts.0) (fixed_word text parts.1)

-- ---- ids

below_reserved : (byte : ℕ) → byte < 33 → is_unreserved byte ≡ false
below_reserved byte small = agree_below_at is_unreserved (λ b. false) 33 byte refl small

unreserved_letter : (byte : ℕ) → is_unreserved byte ≡ true → IsLetter byte
unreserved_letter byte is =
    elim (cases_lt byte 33) [
      | inl low ↦ absurd (false≢true (sym (below_reserved byte low) ∙ is))
      | inr high ↦ above_space byte high
    ]

escape_letter : (byte : ℕ) → IsEscapeByte byte → IsLetter byte
escape_letter byte is = let high : 33 ≤ byte = grind arith in above_space byte high

byte_word : (byte : ℕ) → IsWord (encoded_byte byte)
byte_word byte = by (is_unreserved byte) refl
  where
    by : (kept : Bool) → is_unreserved byte ≡ kept → IsWord (cond kept (byte ∷ []) (percent_encode_byte byte))
    by true is = All-cons IsLetter byte [] (unreserved_letter byte is) no_letter
    by false is = All-weaker IsEscapeByte IsLetter escape_letter (percent_encode_byte byte) (All-percent_encode_byte byte)

pub encoded_word : (id : List ℕ) → IsWord (encoded id)
unfolding encoded
encoded_word [] = no_letter
encoded_word (byte ∷ id) = All-append IsLetter (encoded_byte byte) (encoded id) (byte_word byte) (encoded_word id)

-- ---- dates, starts and moments

-- each byte is above the space
abbrev AreAbove : List ℕ → Type 0
AreAbove [] = Unit {0}
AreAbove (byte ∷ text) = (33 ≤ byte) × AreAbove text

from_above : (text : List ℕ) → AreAbove text → IsWord text
from_above [] are = no_letter
from_above (byte ∷ text) are = letter byte text are.0 (from_above text are.1)

pub date_word : (year month day : ℕ) → IsWord (date_text_of year month day)
date_word year month day =
    from_above (date_text_of year month day)
    (omega arith, (omega arith, (omega arith, (omega arith, (omega arith, (omega arith, (omega arith, (omega arith, tt))))))))

pub start_word : (start : Option ℕ) → IsWord (start_part_of start)
start_word None = from_above (codes "-") (omega arith, tt)
start_word (Some seconds) =
    from_above (start_text_of seconds) (omega arith, (omega arith, (omega arith, (omega arith, (omega arith, (omega arith, tt))))))

moment_letter : (byte : ℕ) → IsMomentByte byte → IsLetter byte
moment_letter byte is = let high : 33 ≤ byte = grind (arith, nat_tests) in above_space byte high

pub moment_word : (moment : ℕ) → moment < 253_402_128_000 → IsWord (iso_text_of moment)
moment_word moment small = All-weaker IsMomentByte IsLetter moment_letter (iso_text_of moment) (moment_bytes moment small)

-- ---- numbers

glyph_letter : (n : ℕ) → IsLetter (digit_glyph false n)
glyph_letter n = let high : 33 ≤ digit_glyph false n = grind (arith, nat_tests) in above_space _ high

digits_word : (k n : ℕ) (behind : List ℕ) → IsWord behind → IsWord (digits_onto k 10 false n behind)
digits_word zero n behind is = is
digits_word (suc k) n behind is = by (n / 10 == 0) (digits_word k (n / 10) (digit ∷ behind) more)
  where
    digit : ℕ
    digit = digit_glyph false (n % 10)

    more : IsWord (digit ∷ behind)
    more = All-cons IsLetter digit behind (glyph_letter (n % 10)) is

    by : (last : Bool) → IsWord (digits_onto k 10 false (n / 10) (digit ∷ behind)) → IsWord (cond last (digit ∷ behind) (digits_onto k 10 false (n / 10) (digit ∷ behind)))
    by true later = more
    by false later = later

pub decimal_word : (n : ℕ) → IsWord (decimal n)
unfolding digits
decimal_word n = digits_word 64 n [] no_letter

-- ---- lines

-- words with a space between each two, a line feed after the last, and more
unfoldable pub spaced : List (List ℕ) → List ℕ → List ℕ
spaced [] rest = rest
spaced (word ∷ []) rest = word ++ 10 ∷ rest
spaced (word ∷ next ∷ words) rest = word ++ 32 ∷ spaced (next ∷ words) rest

-- each of them is a word
abbrev pub AreWords : List (List ℕ) → Type 0
AreWords [] = Unit {0}
AreWords (word ∷ words) = IsWord word × AreWords words

-- a line is parted into its words
pub split_spaced : (words : List (List ℕ)) (rest : List ℕ) → AreWords words → words ≢ [] → slice_split is_blank (spaced words rest) ≡ words ++ slice_split is_blank rest
unfolding spaced
split_spaced [] rest are some = absurd (some refl)
split_spaced (word ∷ []) rest are some = slice_split_at is_blank word 10 rest are.0 refl
split_spaced (word ∷ next ∷ words) rest are some =
    slice_split_at is_blank word 32 (spaced (next ∷ words) rest) are.0 refl ∙ ap (λ (l : List (List ℕ)). word ∷ l) (split_spaced (next ∷ words) rest are.1 (λ e. absurd (cc e)))
