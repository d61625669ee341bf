-- How fields are written, each varint in its shortest form.
use Rattle.std.specs.Prelude.{ℕ, zero, suc, ◌+◌, ◌*◌, ◌/◌, ◌%◌, ◌^◌, ◌<◌, ◌≡◌, List, [], ◌∷◌, ◌++◌, length, nat_lt, if◌then◌else◌}
use Rattle.std.specs.Int.{w32, w64, to_le_bytes}
use Rattle.rt_protobuf.specs.Grammar.{Content, varint, eight, text, four, WireField, IsNumber, wire_type}

-- A number below 128 is its one byte. Of another one the byte with its seven lowest bits comes first, and then the rest. At most so many bytes.
unfoldable pub varint_within : ℕ → ℕ → List ℕ
varint_within zero n = []
varint_within (suc most) n = if nat_lt n 128 then n ∷ [] else (n % 128 + 128) ∷ varint_within most (n / 128)

-- a number of 64 bits
abbrev pub varint_text : ℕ → List ℕ
varint_text n = varint_within 10 n

-- a content: a text has its length before it, numbers of a fixed size have the least byte first
abbrev pub content_text : Content → List ℕ
content_text (varint n) = varint_text n
content_text (eight n) = to_le_bytes w64 n
content_text (text bytes) = varint_text (length bytes) ++ bytes
content_text (four n) = to_le_bytes w32 n

-- a field: its tag, and then its content
abbrev pub field_text : WireField → List ℕ
field_text f = varint_text (f.number * 8 + wire_type f.content) ++ content_text f.content

-- fields, one after the other
abbrev pub fields_text : List WireField → List ℕ
fields_text [] = []
fields_text (first ∷ others) = field_text first ++ fields_text others

-- a number that has a varint or fits its size, or a text whose length has one
abbrev pub IsWritable : Content → Type 0
IsWritable (varint n) = n < 2 ^ 64
IsWritable (eight n) = n < 2 ^ 64
IsWritable (text bytes) = length bytes < 2 ^ 64
IsWritable (four n) = n < 2 ^ 32

-- a field that can be written
pub record IsWritableField (f : WireField) : Type 0 where
  pub number : IsNumber f.number
  pub content : IsWritable f.content

-- these bytes come after those before
abbrev pub AddsBytes : List ℕ → List ℕ → Type 0
AddsBytes old new = (added : List ℕ) × (new ≡ old ++ added)
