-- The places of a set: those from the start, and those that came later.
use Rattle.std.specs.Prelude.{List, ◌++◌}
use Rattle.std.specs.List.{Contains}
use Rattle.std.specs.List.Sorted.{IsStrictlySortedBy}
use Rattle.lc_model.specs.Order.{IsStrict}
use Rattle.version_store.specs.Index.Places.{place_cmp}
use Rattle.version_store.specs.declared.index.place.Place.{Place}
use Rattle.version_store.specs.declared.index.place_set.PlaceSet.TheInside.{Inside}

-- all places, those from the start before the others
abbrev pub all_of : Inside → List Place
all_of set = set.first.items ++ set.later.keys

-- both are strictly in departure order, and none of those from the start came later too
pub record AreOnce (set : Inside) : Type 0 where
  pub first : IsStrict place_cmp set.first.items
  pub later : IsStrictlySortedBy place_cmp set.later.keys
  pub apart : (p : Place) → Contains set.first.items p → Contains set.later.keys p → ⊥
