-- Places of stops, and which of them some ids name.
use Rattle.std.specs.Prelude.{◌≡◌, ℕ, suc, ◌↔◌, ◌⊎◌, List, [], ◌∷◌, ◌++◌, Option, Some, option_map, map, slice_index_or}
use Rattle.std.specs.List.{Any, Contains, slice_get}
use Rattle.std.specs.Option.{option_and_then, option_to_list}
use Rattle.std.specs.Ordering.{on}
use Rattle.std.specs.declared.cmp.Ordering.{Ordering}
use Rattle.lc_model.specs.Text.{id_cmp}
use Rattle.lc_model.specs.declared.stop.Stop.{Stop}
use Rattle.change_table.specs.Rows.{target}
use Rattle.change_table.specs.declared.children.Child.{Child}
use Rattle.change_table.specs.declared.rows.Row.{Row}

-- the id of the stop at a place
abbrev pub id_at : List Stop → ℕ → Option (List ℕ)
id_at stops place = option_map (λ (s : Stop). s.id) (slice_get stops place)

-- the parent of the stop at a place
abbrev pub parent_at : List Stop → ℕ → Option (List ℕ)
parent_at stops place = option_and_then (λ (s : Stop). s.parent) (slice_get stops place)

-- at the place is the stop of this id, or a child of it
abbrev pub IsOf : List Stop → ℕ → List ℕ → Type 0
IsOf stops place id = (id_at stops place ≡ Some id) ⊎ (parent_at stops place ≡ Some id)

-- children by their parents
abbrev pub child_cmp : Child → Child → Ordering
child_cmp = on (λ (c : Child). c.parent.now) id_cmp

-- parents and the places of their children
abbrev pub shown : List Child → List (List ℕ × ℕ)
shown children = map (λ (c : Child). (c.parent.now, c.place)) children

-- the parent of a stop that is at a place
abbrev pub shown_at : ℕ → Stop → List (List ℕ × ℕ)
shown_at place stop = option_to_list (option_map (λ (parent : List ℕ). (parent, place)) stop.parent)

-- the parents of all stops, of which the first is at a place
abbrev pub all_shown : ℕ → List Stop → List (List ℕ × ℕ)
all_shown place [] = []
all_shown place (stop ∷ rest) = shown_at place stop ++ all_shown (suc place) rest

-- these are the children of all stops
abbrev pub AreChildren : List Stop → List Child → Type 0
AreChildren stops children =
    (id : List ℕ) (place : ℕ) → Contains (shown children) (id, place) ↔ (parent_at stops place ≡ Some id)

-- the places of these children
abbrev pub places_of : List Child → List ℕ
places_of children = map (λ (c : Child). c.place) children

-- the new places are the old ones and those that an id names
abbrev pub Gains : List Stop → List (List ℕ) → List ℕ → List ℕ → Type 0
Gains stops ids old new = (place : ℕ) → Contains new place ↔ (Contains old place ⊎ Any (IsOf stops place) ids)

-- what may be changed to from a stop: what it, its parent, its rows and those of its parent name
abbrev pub named_ids : Stop → List Row → List Row → List (List ℕ)
named_ids from own of_parent =
    ((from.id ∷ []) ++ option_to_list from.parent) ++ (map target own ++ map target of_parent)

-- the stops at some places; at a place that there is not, this stop
abbrev pub stops_at : List Stop → Stop → List ℕ → List Stop
stops_at stops other places = map (λ place. slice_index_or stops place other) places
