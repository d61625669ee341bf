-- Cuts of a list of departures into pages.
use Rattle.std.specs.Prelude.{◌≡◌, ℕ, ◌<◌, ◌≤◌, List, [], ◌∷◌, Option, Some, None}
use Rattle.std.specs.List.{All, AllPairs, Contains}

-- no departure is before an earlier one
abbrev pub NeverFalls : List ℕ → Type 0
NeverFalls departures = AllPairs (λ (x y : ℕ). x ≤ y) departures

-- the first one, if there is one
abbrev pub first_of : List ℕ → Option ℕ
first_of [] = None
first_of (first ∷ rest) = Some first

-- The cuts strictly increase, each is one of the departures, and they begin with the first; there are none exactly where
-- there are no departures.
pub record AreCuts (departures cuts : List ℕ) : Type 0 where
  pub rising : AllPairs (λ (x y : ℕ). x < y) cuts
  pub members : All (λ (cut : ℕ). Contains departures cut) cuts
  pub begin : first_of cuts ≡ first_of departures
