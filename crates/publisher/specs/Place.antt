-- Where a moment is among the cuts of a version.
use Rattle.std.specs.Prelude.{ℕ, zero, suc, ◌+◌, ◌<◌, nat_le, List, [], ◌∷◌, Option, Some, None, if◌then◌else◌, slice_get, slice_index}
use Rattle.std.specs.List.{AllPairs}
use Rattle.publisher.specs.declared.place.Place.{Place}

-- the cuts strictly increase
abbrev pub AreRising : List ℕ → Type 0
AreRising cuts = AllPairs (λ (x y : ℕ). x < y) cuts

-- After these two cuts, of which the first may be missing: the last cut at or before the moment, with its neighbours. Where there is
-- none, the second one.
abbrev pub place_behind : Option ℕ → ℕ → List ℕ → ℕ → Place
place_behind previous cut [] moment = record { previous = previous; cut = cut; next = None }
place_behind previous cut (next ∷ rest) moment =
    if nat_le next moment then place_behind (Some cut) next rest moment else record { previous = previous; cut = cut; next = Some next }

-- the cut of the page for a moment, with its neighbours; without cuts it is 0
abbrev pub place_of : List ℕ → ℕ → Place
place_of [] moment = record { previous = None; cut = 0; next = None }
place_of (first ∷ rest) moment = place_behind None first rest moment

-- the cut before a place among the cuts, where there is one
abbrev pub cut_before : List ℕ → ℕ → Option ℕ
cut_before cuts zero = None
cut_before cuts (suc before) = slice_get cuts before

-- the cut at a place, or 0 where there is none, with its neighbours
abbrev pub place_at : List ℕ → ℕ → Place
place_at cuts at = record { previous = cut_before cuts at; cut = slice_index cuts at; next = slice_get cuts (at + 1) }
