-- Which version of a timetable is meant (RFC 7089, section 4.5.3: datetime negotiation). A version is known by its moment.
use Rattle.std.specs.Prelude.{ℕ, List, [], ◌∷◌, filter, nat_le, Bool, true, Option, Some, None}

-- the last of these moments, or this one where there is none
abbrev pub last_of : ℕ → List ℕ → ℕ
last_of moment [] = moment
last_of moment (next ∷ rest) = last_of next rest

-- the version is at or before the known moment, if there is one
abbrev pub is_by : Option ℕ → ℕ → Bool
is_by None version = true
is_by (Some known) version = nat_le version known

-- The version of a known moment, of a base version and the later ones in their order. It is the last one at or before it, or
-- the base where none is. Where no moment is known it is the newest.
abbrev pub version_named : ℕ → List ℕ → Option ℕ → ℕ
version_named base later known = last_of base (filter (is_by known) later)

-- the version of a known moment, of a list of versions, the first of which is the base
abbrev pub version_among : List ℕ → Option ℕ → Option ℕ
version_among [] known = None
version_among (base ∷ later) known = Some (version_named base later known)
