-- Fields by their places in a message.
use Rattle.std.specs.Prelude.{◌≡◌, ℕ, ◌<◌, ◌≤◌, List, Option, Some, None, Result, Ok, Err, slice_range}
use Rattle.rt_protobuf.specs.declared.fault.WireFault.{WireFault}
use Rattle.rt_protobuf.specs.declared.field.Field.{Field}
use Rattle.rt_protobuf.specs.declared.field.Value.{Value}
use Rattle.rt_protobuf.specs.declared.field.Value.TheVariants as values
use Rattle.rt_protobuf.specs.Grammar.{Content, varint, eight, text, four, WireField, IsField}
use Rattle.rt_protobuf.specs.Parts.{Parts, whole, broken, field}
use Rattle.rt_protobuf.specs.Reading.{parts_of}

-- what a value of this message holds
abbrev pub content_of : List ℕ → Value → Content
content_of message (values.Varint n) = varint n
content_of message (values.Eight n) = eight n
content_of message (values.Span from to) = text (slice_range message from to)
content_of message (values.Four n) = four n

-- the field at these places
abbrev pub field_of : List ℕ → Field → WireField
field_of message f = record { number = f.number; content = content_of message f.value }

-- a span is after the place of the tag, and ends where the field ends
abbrev pub EndsField : ℕ → ℕ → Value → Type 0
EndsField place next (values.Varint n) = Unit {0}
EndsField place next (values.Eight n) = Unit {0}
EndsField place next (values.Span from to) = (place < from) × (from ≤ to) × (to ≡ next)
EndsField place next (values.Four n) = Unit {0}

-- the field is in the message from this place on, and ends before the byte at `to`
pub record IsFieldAt (message : List ℕ) (place to : ℕ) (f : Field) : Type 0 where
  pub forward : place < f.next
  pub within : f.next ≤ to
  pub spelled : IsField (slice_range message place f.next) (field_of message f)
  pub span : EndsField place f.next f.value

-- the parts of the bytes from this place to `to`, of which a call answers the first
abbrev pub begun : List ℕ → ℕ → ℕ → Result (Option Field) WireFault → Parts
begun message place to (Ok None) = whole
begun message place to (Ok (Some f)) = field place f.next (field_of message f) (parts_of f.next (slice_range message f.next to))
begun message place to (Err fault) = broken fault
