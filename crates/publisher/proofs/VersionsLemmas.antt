-- Versions that a side has.
use Rattle.std.proofs.Common.{◌≡◌, ℕ, List, [], ◌∷◌, Bool, true, false, ◌||◌, cond, Option, Some, None, refl, ap}
use Rattle.std.specs.Prelude.{◌==◌}
use Rattle.std.specs.List.{Contains, filter, list_any}
use Rattle.std.proofs.lemmas.Bool.{eq-eqb}
use Rattle.std.proofs.lemmas.List.Folds.{list_any-from_Any}
use Rattle.lc_model.specs.Versions.Named.{is_by, last_of, version_among}
use Rattle.memento.specs.Negotiation.{Negotiates}
use Rattle.lc_world.proofs.SidesLemmas.VersionLemmas.{contains_found}

-- one of these is the version
abbrev pub has : ℕ → List ℕ → Bool
has v versions = list_any (λ (w : ℕ). w == v) versions

or_right : (a b : Bool) → b ≡ true → (a || b) ≡ true
or_right true b is = refl
or_right false b is = is

or_more : (a b c : Bool) → (b ≡ true → c ≡ true) → (a || b) ≡ true → (a || c) ≡ true
or_more true b c more is = refl
or_more false b c more is = more is

-- what is found among some is found among all
found_by : (test keep : ℕ → Bool) (x : ℕ) (xs : List ℕ) (kept : Bool) → (list_any test (filter keep xs) ≡ true → list_any test xs ≡ true)
    → list_any test (cond kept (x ∷ filter keep xs) (filter keep xs)) ≡ true → (test x || list_any test xs) ≡ true
found_by test keep x xs true rest found = or_more (test x) (list_any test (filter keep xs)) (list_any test xs) rest found
found_by test keep x xs false rest found = or_right (test x) (list_any test xs) (rest found)

found_among : (test keep : ℕ → Bool) (xs : List ℕ) → list_any test (filter keep xs) ≡ true → list_any test xs ≡ true
found_among test keep [] found = found
found_among test keep (x ∷ xs) found = found_by test keep x xs (keep x) (found_among test keep xs) found

-- the last one is there
last_is_there : (v base : ℕ) (xs : List ℕ) → last_of base xs ≡ v → has v (base ∷ xs) ≡ true
last_is_there v base [] is = ap (λ (b : Bool). b || false) (eq-eqb base v is)
last_is_there v base (x ∷ xs) is = or_right (base == v) (has v (x ∷ xs)) (last_is_there v x xs is)

among_is_there : (versions : List ℕ) (known : Option ℕ) (v : ℕ) → version_among versions known ≡ Some v → has v versions ≡ true
among_is_there [] known v is = absurd (let clash : None ≡ Some v = is in cc)
among_is_there (base ∷ later) known v is =
    let last : last_of base (filter (is_by known) later) ≡ v = cc in
    or_more (base == v) (has v (filter (is_by known) later)) (has v later) (found_among (λ (w : ℕ). w == v) (is_by known) later)
    (last_is_there v base (filter (is_by known) later) last)

-- the version that is negotiated is there
pub negotiated_is_there : (versions : List ℕ) (said : Option (List ℕ)) (v : ℕ) → Negotiates versions said v → has v versions ≡ true
negotiated_is_there versions None v is = among_is_there versions None v is
negotiated_is_there versions (Some text) v (known, says, is) = among_is_there versions (Some known) v is

-- a version is there where it is contained
pub contained_is_there : (versions : List ℕ) (v : ℕ) → Contains versions v → has v versions ≡ true
contained_is_there versions v (k, inside, at) = list_any-from_Any (λ (w : ℕ). w == v) versions (k, v, inside, at, eq-eqb v v refl)

pub there_is_contained : (versions : List ℕ) (v : ℕ) → has v versions ≡ true → Contains versions v
there_is_contained versions v found = contains_found versions v found

not_there_by : (versions : List ℕ) (v : ℕ) (found : Bool) → has v versions ≡ found → (Contains versions v → ⊥) → has v versions ≡ false
not_there_by versions v true is not = absurd (not (contains_found versions v is))
not_there_by versions v false is not = is

pub not_there : (versions : List ℕ) (v : ℕ) → (Contains versions v → ⊥) → has v versions ≡ false
not_there versions v not = not_there_by versions v (has v versions) refl not
