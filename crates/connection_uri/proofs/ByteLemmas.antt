-- The bytes of a text are bytes.
use Rattle.std.proofs.Common.{◌≡◌, ℕ, ◌+◌, ◌/◌, ◌<◌, inl, inr, true, List, [], ◌∷◌, All, subst, arith}
use Rattle.std.specs.Str.{IsUtf8}
use Rattle.std.proofs.lemmas.Bool.{cases_lt, lt-ltb, le-ltb, and_parts}
use Rattle.std.proofs.lemmas.List.Elements.{All-nil, All-cons, All-append}
use lib.Utf8.{encode, encodes, scalar, scalars, scalar_cases, next}

-- the number fits a byte
abbrev pub IsByte : ℕ → Type 0
IsByte b = b < 256

byte_of : (b : ℕ) (bs : List ℕ) → b < 256 → All IsByte bs → All IsByte (b ∷ bs)
byte_of b bs h hs = All-cons IsByte b bs h hs

small : (c : ℕ) → scalar c ≡ true → c < 1_114_112
small c e = elim (scalar_cases c e) [ inl low ↦ omega arith | inr high ↦ omega (arith, high.1) ]

encode_bytes : (c : ℕ) → c < 1_114_112 → All IsByte (encode c)
unfolding encode
encode_bytes c h =
    let none = All-nil IsByte in
    let last = byte_of (next c) [] (omega arith) none in
    let last_two = byte_of (next (c / 64)) (next c ∷ []) (omega arith) last in
    let last_three = byte_of (next (c / 4096)) (next (c / 64) ∷ next c ∷ []) (omega arith) last_two in
    elim (cases_lt c 128) [
      | inl one ↦ rw (lt-ltb c 128 one) (byte_of c [] (omega arith) none)
      | inr past ↦ elim (cases_lt c 2048) [
        | inl two ↦ rw (le-ltb c 128 past, lt-ltb c 2048 two) (byte_of (192 + c / 64) (next c ∷ []) (omega arith) last)
        | inr past' ↦ elim (cases_lt c 65536) [
          | inl three ↦ rw (le-ltb c 128 past, le-ltb c 2048 past', lt-ltb c 65536 three) (byte_of (224 + c / 4096) (next (c / 64) ∷ next c ∷ []) (omega arith) last_two)
          | inr four ↦ rw (le-ltb c 128 past, le-ltb c 2048 past', le-ltb c 65536 four) (byte_of (240 + c / 262144) (next (c / 4096) ∷ next (c / 64) ∷ next c ∷ []) (omega arith) last_three)
        ]
      ]
    ]

encodes_bytes : (cs : List ℕ) → scalars cs ≡ true → All IsByte (encodes cs)
encodes_bytes [] e = All-nil IsByte
encodes_bytes (c ∷ cs) e =
    let parts = and_parts (scalar c) (scalars cs) e in
    All-append IsByte (encode c) (encodes cs) (encode_bytes c (small c parts.0)) (encodes_bytes cs parts.1)

pub text_bytes : (bs : List ℕ) → IsUtf8 bs → All IsByte bs
text_bytes bs utf8 = subst (All IsByte) utf8.1.1 (encodes_bytes utf8.0 utf8.1.0)
