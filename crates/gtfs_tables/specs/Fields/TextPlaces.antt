-- The first places of texts, as a map has them.
use Rattle.std.specs.Prelude.{◌≡◌, ℕ, List}
use Rattle.std.specs.BTreeMap.{BTreeMap, get}
use Rattle.std.specs.Borrow.{Bor}
use Rattle.std.specs.Cmp.Lexicographic.{slice_cmp}
use Rattle.std.specs.Ordering.{nat_cmp}
use Rattle.std.specs.Str.{bytes_eq}
use Rattle.gtfs_tables.specs.Fields.Places.{first_place}

-- the map has the first place of each of these texts, and nothing for another text
pub record HavePlaces (texts : List (List ℕ)) (places : BTreeMap (Bor (List ℕ)) ℕ) : Type 0 where
  pub at : (text : Bor (List ℕ)) → get (λ x y. slice_cmp nat_cmp x.now y.now) places text ≡ first_place bytes_eq texts text.now
