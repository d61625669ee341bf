-- What is held of a field while it is read.
use Rattle.std.specs.Prelude.{ℕ, ◌-◌, ◌≤◌, length}
use Rattle.rt_protobuf.specs.declared.field.Value.{Value}
use Rattle.rt_protobuf.specs.declared.field.Value.TheVariants as values
use Rattle.rt_protobuf.specs.declared.reading.Held.{Held}
use Rattle.rt_protobuf.specs.declared.reading.Held.TheVariants as held
use Rattle.rt_protobuf.specs.Grammar.{Content, varint, eight, text, four}

-- the content that is held
abbrev pub held_content : Held → Content
held_content (held.Varint n) = varint n
held_content (held.Eight n) = eight n
held_content (held.Text bytes) = text bytes.now
held_content (held.Four n) = four n

-- the value of a content that ends before this place
abbrev pub value_before : ℕ → Content → Value
value_before next (varint n) = values.Varint n
value_before next (eight n) = values.Eight n
value_before next (text bytes) = values.Span (next - length bytes) next
value_before next (four n) = values.Four n

-- as many bytes are before the place
abbrev pub FitsBefore : ℕ → Content → Type 0
FitsBefore next (varint n) = Unit {0}
FitsBefore next (eight n) = Unit {0}
FitsBefore next (text bytes) = length bytes ≤ next
FitsBefore next (four n) = Unit {0}
