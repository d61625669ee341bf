-- The rules of the rows of a table, and the first row that breaks one.
use Rattle.std.specs.Prelude.{◌≡◌, ℕ, ◌<◌, Bool, if◌then◌else◌, List, [], ◌∷◌, Option, Some, None}

-- Of rules in their order, each with whether it is broken, the number of the first that is broken.
abbrev pub first_of : List (ℕ × Bool) → Option ℕ
first_of [] = None
first_of (rule ∷ rest) = if rule.1 then Some rule.0 else first_of rest

-- Of so many places, counted from 0, this is the first at which something is broken, and this is what is broken there.
pub record IsFirstBroken {What : Type 0} (broken_at : ℕ → Option What) (count place : ℕ) (what : What) : Type 0 where
  pub there : place < count
  pub broken : broken_at place ≡ Some what
  pub before : (earlier : ℕ) → earlier < place → broken_at earlier ≡ None

-- at none of so many places something is broken
abbrev pub IsUnbroken : {What : Type 0} → (ℕ → Option What) → ℕ → Type 0
IsUnbroken broken_at count = (place : ℕ) → place < count → broken_at place ≡ None
