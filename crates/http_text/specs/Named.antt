-- The values of one name among the fields that are in bytes.
use Rattle.std.specs.Prelude.{◌≡◌, ℕ, List, [], ◌∷◌, map}
use Rattle.std.specs.Borrow.{Bor}
use Rattle.httparse.specs.declared.spans.HeaderSpan.{HeaderSpan}
use Rattle.httparse.specs.Spans.{header_bytes}
use Rattle.http_text.specs.declared.named.Values.{Values}
use Rattle.http_text.specs.declared.named.Values.TheVariants.{Absent, One, More}
use Rattle.http_text.specs.Fields.{FieldText}

-- the fields that these spans cover
abbrev pub texts_at : List ℕ → List HeaderSpan → List FieldText
texts_at bytes fields = map (header_bytes bytes) fields

-- these are all values: none, one, or more than one
abbrev pub AreValues : Values → List (List ℕ) → Type 0
AreValues Absent values = values ≡ []
AreValues (One value) values = values ≡ value.now ∷ []
AreValues (More value) values = (second : List ℕ) × (rest : List (List ℕ)) × (values ≡ value.now ∷ (second ∷ rest))

-- what was found, and one more value
abbrev pub after : Values → Bor (List ℕ) → Values
after Absent value = One value
after (One first) value = More first
after (More first) value = More first
