-- Fields, as the encoding of Protocol Buffers has them ("Message Structure"), and what a broken field is.
use Rattle.std.specs.Prelude.{◌≡◌, ℕ, ◌+◌, ◌*◌, ◌<◌, ◌≤◌, ◌⊎◌, List, ◌++◌, length, ◌∷◌, []}
use Rattle.std.specs.Int.{w32, w64, from_le_bytes}
use Rattle.rt_protobuf.specs.declared.fault.WireFault.{WireFault}
use Rattle.rt_protobuf.specs.declared.fault.WireFault.TheVariants.{Cut, LongVarint, Group, BadField}
use Rattle.rt_protobuf.specs.Varint.{IsVarint, IsCutVarint, IsLongVarint}

-- what a field holds: a varint, eight bytes, a text of any bytes, or four bytes
pub data Content : Type 0 where
  varint : (n : ℕ) → Content
  eight : (n : ℕ) → Content
  text : (bytes : List ℕ) → Content
  four : (n : ℕ) → Content

-- the number of a kind of content
abbrev pub wire_type : Content → ℕ
wire_type (varint n) = 0
wire_type (eight n) = 1
wire_type (text bytes) = 2
wire_type (four n) = 5

-- a field without its place
pub record WireField : Type 0 where
  pub number : ℕ
  pub content : Content

-- the number of a field
abbrev pub IsNumber : ℕ → Type 0
IsNumber number = (0 < number) × (number ≤ 536_870_911)

-- the bytes that stand for a content: numbers of a fixed size have the least byte first, a text has its length before it
abbrev pub IsContent : List ℕ → Content → Type 0
IsContent bytes (varint n) = IsVarint bytes n
IsContent bytes (eight n) = (length bytes ≡ 8) × (n ≡ from_le_bytes w64 bytes)
IsContent bytes (text inner) = (front : List ℕ) × (bytes ≡ front ++ inner) × IsVarint front (length inner)
IsContent bytes (four n) = (length bytes ≡ 4) × (n ≡ from_le_bytes w32 bytes)

-- the tag and, after it, the content
abbrev pub IsTag : List ℕ → ℕ → ℕ → Type 0
IsTag bytes number wire = (wire < 8) × IsVarint bytes (number * 8 + wire)

-- the bytes are the field: its tag and, after it, its content
abbrev pub IsField : List ℕ → WireField → Type 0
IsField bytes field = (tag : List ℕ) × (behind : List ℕ) × (bytes ≡ tag ++ behind) × IsTag tag field.number (wire_type field.content) × IsNumber field.number × IsContent behind field.content

-- the bytes are those of one field, and then those of the others
abbrev pub AreFields : List ℕ → List WireField → Type 0
AreFields bytes [] = bytes ≡ []
AreFields bytes (first ∷ others) = (front : List ℕ) × (behind : List ℕ) × (bytes ≡ front ++ behind) × IsField front first × AreFields behind others

-- the bytes begin with a tag, and this holds of its number, its wire type and the bytes after it
abbrev pub AtTag : List ℕ → (ℕ → ℕ → List ℕ → Type 0) → Type 0
AtTag bytes P = (number : ℕ) × (wire : ℕ) × (tag : List ℕ) × (behind : List ℕ) × (bytes ≡ tag ++ behind) × IsTag tag number wire × P number wire behind

-- the length of a text is whole, and fewer bytes than that come after it
abbrev pub IsCutText : List ℕ → Type 0
IsCutText bytes = (front : List ℕ) × (behind : List ℕ) × (n : ℕ) × (bytes ≡ front ++ behind) × IsVarint front n × (length behind < n)

-- the bytes end within the content of this wire type
abbrev pub IsCutContent : ℕ → List ℕ → Type 0
IsCutContent wire bytes = ((wire ≡ 0) × IsCutVarint bytes) ⊎ (((wire ≡ 1) × (length bytes < 8)) ⊎ (((wire ≡ 2) × (IsCutVarint bytes ⊎ IsCutText bytes)) ⊎ ((wire ≡ 5) × (length bytes < 4))))

-- The bytes begin with no field, and this is the first test that fails. The tests: the varint of the tag, the tag's number and wire
-- type, that it is no group, the content.
abbrev pub IsBroken : ℕ → List ℕ → WireFault → Type 0
IsBroken place bytes (Cut at) = (at ≡ place) × (IsCutVarint bytes ⊎ AtTag bytes (λ number wire behind. IsNumber number × IsCutContent wire behind))
IsBroken place bytes (LongVarint at) = (at ≡ place) × (IsLongVarint bytes ⊎ AtTag bytes (λ number wire behind. IsNumber number × ((wire ≡ 0) ⊎ (wire ≡ 2)) × IsLongVarint behind))
IsBroken place bytes (BadField at) = (at ≡ place) × AtTag bytes (λ number wire behind. (number ≡ 0) ⊎ ((536_870_911 < number) ⊎ (5 < wire)))
IsBroken place bytes (Group at) = (at ≡ place) × AtTag bytes (λ number wire behind. IsNumber number × ((wire ≡ 3) ⊎ (wire ≡ 4)))
