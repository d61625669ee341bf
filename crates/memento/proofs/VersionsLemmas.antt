-- The version that a walk over the versions names.
use Rattle.std.proofs.Common.{◌≡◌, ℕ, ◌≤◌, List, [], ◌∷◌, length, filter, Bool, true, false, if◌then◌else◌, Option, Some, refl, ap, sym, arith}
use Rattle.lc_model.specs.Versions.Named.{is_by, last_of, version_among}

-- the first version
abbrev pub base_of : List ℕ → ℕ
base_of [] = 0
base_of (base ∷ later) = base

step : (named version : ℕ) (rest : List ℕ) (t : Bool) → last_of (if t then version else named) rest ≡ last_of named (if t then version ∷ rest else rest)
step named version rest true = refl
step named version rest false = refl

-- a version more
pub meant_then : (known : Option ℕ) (named version : ℕ) (rest : List ℕ) →
    last_of (if is_by known version then version else named) (filter (is_by known) rest) ≡ last_of named (filter (is_by known) (version ∷ rest))
meant_then known named version rest = step named version (filter (is_by known) rest) (is_by known version)

base_too : (base : ℕ) (rest : List ℕ) (t : Bool) → last_of base (if t then base ∷ rest else rest) ≡ last_of base rest
base_too base rest true = refl
base_too base rest false = refl

-- the walk begins at the base
pub named_is : (known : Option ℕ) (versions : List ℕ) → 1 ≤ length versions → version_among versions known ≡ Some (last_of (base_of versions) (filter (is_by known) versions))
named_is known [] lt = absurd (omega (arith, lt))
named_is known (base ∷ later) lt = ap Some (sym (base_too base (filter (is_by known) later) (is_by known base)))
