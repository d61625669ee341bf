-- What is written is what the grammar says, and nothing shorter is.
use Rattle.std.proofs.Common.{◌≡◌, ℕ, zero, suc, ◌+◌, ◌-◌, ◌*◌, ◌/◌, ◌%◌, ◌^◌, ◌<◌, ◌≤◌, List, [], ◌∷◌, length, refl, sym, arith, inl, inr}
use Rattle.std.specs.List.{AllByRecursion}
use Rattle.std.proofs.Math.Nat.{mod-eq_of_lt, pow-suc}
use Rattle.std.proofs.lemmas.Bool.{cases_lt, lt-ltb, le-ltb}
use Rattle.std.proofs.lemmas.Nat.{from_le_bytes-to_le_bytes_4, from_le_bytes-to_le_bytes_8}
use Rattle.rt_protobuf.specs.Varint.{IsVarint, Spells}
use Rattle.rt_protobuf.specs.Grammar.{Content, varint, eight, text, four, WireField, wire_type, IsContent, IsField, AreFields}
use Rattle.rt_protobuf.specs.Writing.{varint_within, varint_text, content_text, field_text, fields_text, IsWritable, IsWritableField}

-- a number of so many groups of seven bits is spelled
spells : (most n : ℕ) → n < 128 ^ suc most → Spells (varint_within (suc most) n) n
unfolding varint_within
spells zero n h = let lt : n < 128 = h in rw (lt-ltb n 128 lt) (inl (lt, refl, refl))
spells (suc most) n h = elim (cases_lt n 128) [
  | inl lt ↦ rw (lt-ltb n 128 lt) (inl (lt, refl, refl))
  | inr le ↦
      let less : n / 128 < 128 ^ suc most = omega (arith, pow-suc 128 (suc most), h) in
      rw (le-ltb n 128 le) (inr (omega arith, (n / 128, omega arith, spells most (n / 128) less)))
]

few : (most n : ℕ) → length (varint_within most n) ≤ most
unfolding varint_within
few zero n = omega arith
few (suc most) n = elim (cases_lt n 128) [
  | inl lt ↦ rw (lt-ltb n 128 lt) (omega arith)
  | inr le ↦ rw (le-ltb n 128 le) (omega (arith, few most (n / 128)))
]

pub at_most_ten : (n : ℕ) → length (varint_text n) ≤ 10
at_most_ten n = few 10 n

pub varint_is : (n : ℕ) → n < 2 ^ 64 → IsVarint (varint_text n) n
varint_is n h = (few 10 n, (n, spells 9 n (omega (arith, h)), sym (mod-eq_of_lt h)))

-- no bytes that spell a number as great are fewer
none_fewer : (most n whole : ℕ) (bytes : List ℕ) → n ≤ whole → AllByRecursion (λ b. b < 256) bytes → Spells bytes whole → length (varint_within most n) ≤ length bytes
unfolding varint_within
none_fewer zero n whole bytes le all s = omega arith
none_fewer (suc most) n whole [] le all s = absurd s
none_fewer (suc most) n whole (b ∷ bytes) le all s = elim (cases_lt n 128) [
  | inl lt ↦ rw (lt-ltb n 128 lt) (omega arith)
  | inr more ↦ elim s [
    | inl last ↦ absurd (omega (arith, last.0, last.2, more, le))
    | inr on ↦
        let less : n / 128 ≤ on.1.0 = omega (arith, on.1.1, all.0, le) in
        rw (le-ltb n 128 more) (omega (arith, none_fewer most (n / 128) on.1.0 bytes less all.1 on.1.2))
  ]
]

mod_le : (n whole : ℕ) → n ≡ whole % 2 ^ 64 → n ≤ whole
mod_le n whole e = omega (arith, e)

pub shortest : (n : ℕ) (bytes : List ℕ) → AllByRecursion (λ b. b < 256) bytes → IsVarint bytes n → length (varint_text n) ≤ length bytes
shortest n bytes all v = none_fewer 10 n v.1.0 bytes (mod_le n v.1.0 v.1.2) all v.1.1

wire_below : (c : Content) → wire_type c < 8
wire_below (varint n) = omega arith
wire_below (eight n) = omega arith
wire_below (text bytes) = omega arith
wire_below (four n) = omega arith

content_is : (c : Content) → IsWritable c → IsContent (content_text c) c
content_is (varint n) h = varint_is n h
content_is (eight n) h = (refl, sym (from_le_bytes-to_le_bytes_8 n h))
content_is (text bytes) h = (varint_text (length bytes), refl, varint_is (length bytes) h)
content_is (four n) h = (refl, sym (from_le_bytes-to_le_bytes_4 n h))

pub field_is : (f : WireField) → IsWritableField f → IsField (field_text f) f
field_is f w =
    let wire = wire_below f.content in
    let short : f.number * 8 + wire_type f.content < 2 ^ 64 = omega (arith, w.number.1, wire) in
    (varint_text (f.number * 8 + wire_type f.content), content_text f.content, refl, (wire, varint_is (f.number * 8 + wire_type f.content) short), w.number, content_is f.content w.content)

pub fields_are_written : (fields : List WireField) → AllByRecursion IsWritableField fields → AreFields (fields_text fields) fields
fields_are_written [] all = refl
fields_are_written (first ∷ others) all = (field_text first, fields_text others, refl, field_is first all.0, fields_are_written others all.1)

-- ---- the code

-- a number from 128 on has a byte more
pub one_more : (left n : ℕ) → 0 < left → 128 ≤ n → varint_within left n ≡ (n % 128 + 128) ∷ varint_within (left - 1) (n / 128)
unfolding varint_within
one_more zero n some more = absurd (omega (arith, some))
one_more (suc left) n some more =
    let less : suc left - 1 ≡ left = omega arith in
    rw (le-ltb n 128 more, less) refl

pub varint_field : (number n : ℕ) → 1 ≤ number → number ≤ 536_870_911 → n < 2 ^ 64 → IsField (field_text (record { number = number; content = varint n })) (record { number = number; content = varint n })
varint_field number n some most fits = field_is (record { number = number; content = varint n }) (record { number = (some, most); content = fits })

pub text_field : (number : ℕ) (bytes : List ℕ) → 1 ≤ number → number ≤ 536_870_911 → length bytes < 2 ^ 64 → IsField (field_text (record { number = number; content = text bytes })) (record { number = number; content = text bytes })
text_field number bytes some most fits = field_is (record { number = number; content = text bytes }) (record { number = (some, most); content = fits })
