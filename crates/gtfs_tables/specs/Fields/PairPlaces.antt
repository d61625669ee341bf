-- The first places of pairs of texts, as a map has them.
use Rattle.std.specs.Prelude.{◌≡◌, ℕ, ◌&&◌, Bool, List}
use Rattle.std.specs.BTreeMap.{BTreeMap, get}
use Rattle.std.specs.Borrow.{Bor}
use Rattle.std.specs.Cmp.Lexicographic.{slice_cmp}
use Rattle.std.specs.Ordering.{nat_cmp, ordering_then}
use Rattle.std.specs.Str.{bytes_eq}
use Rattle.gtfs_tables.specs.Fields.Places.{first_place}

-- two pairs of texts are the same
abbrev pub is_same_pair : List ℕ × List ℕ → List ℕ × List ℕ → Bool
is_same_pair x y = bytes_eq x.0 y.0 && bytes_eq x.1 y.1

-- two texts that are lent, as the texts that they are
abbrev pub lent_pair : Bor (List ℕ) × Bor (List ℕ) → List ℕ × List ℕ
lent_pair pair = (pair.0.now, pair.1.now)

-- the map has the first place of each of these pairs, and nothing for another pair
pub record HavePairPlaces (pairs : List (List ℕ × List ℕ)) (places : BTreeMap (Bor (List ℕ) × Bor (List ℕ)) ℕ) : Type 0 where
  pub at : (pair : Bor (List ℕ) × Bor (List ℕ))
      → get (λ x y. ordering_then (slice_cmp nat_cmp x.0.now y.0.now) (slice_cmp nat_cmp x.1.now y.1.now)) places pair ≡ first_place is_same_pair pairs (lent_pair pair)
