-- What a list of bytes parts into: field after field, up to the end or a fault.
use Rattle.std.specs.Prelude.{◌≡◌, ◌≢◌, ℕ, ◌+◌, List, [], ◌++◌, length, ◌∷◌, Option, Some, None, option_map}
use Rattle.rt_protobuf.specs.declared.fault.WireFault.{WireFault}
use Rattle.rt_protobuf.specs.Grammar.{WireField, IsField, IsBroken}

-- no bytes, bytes that are broken at their front, or a field with the places of its tag and after it, and then the others
pub data Parts : Type 0 where
  whole : Parts
  broken : (fault : WireFault) → Parts
  field : (place : ℕ) (next : ℕ) (first : WireField) (others : Parts) → Parts

-- the bytes, of which the first is at this place, are these parts
abbrev pub PartsInto : ℕ → List ℕ → Parts → Type 0
PartsInto place bytes whole = bytes ≡ []
PartsInto place bytes (broken fault) = (bytes ≢ []) × IsBroken place bytes fault
PartsInto place bytes (field at next first others) = (at ≡ place) × (front : List ℕ) × (behind : List ℕ) × (bytes ≡ front ++ behind) × IsField front first × (next ≡ place + length front) × PartsInto next behind others

-- the fields alone, where no fault comes after them
abbrev pub fields_in : Parts → Option (List WireField)
fields_in whole = Some []
fields_in (broken fault) = None
fields_in (field place next first others) = option_map (λ fields. first ∷ fields) (fields_in others)
