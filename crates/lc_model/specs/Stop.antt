-- Stops and stations (GTFS Schedule Reference, stops.txt: stop_id, parent_station).
use Rattle.std.specs.Prelude.{◌≡◌, ℕ, List, Some}
use Rattle.std.specs.List.{Any}
use Rattle.std.specs.Ordering.{on}
use Rattle.lc_model.specs.Order.{IsStrict}
use Rattle.lc_model.specs.Text.{id_cmp}
use Rattle.lc_model.specs.declared.stop.Stop.{Stop}

-- stops are strictly in the order of their ids
abbrev pub InStopOrder : List Stop → Type 0
InStopOrder stops = IsStrict (on (λ (s : Stop). s.id) id_cmp) stops

-- the list has a stop of this id
abbrev pub HasStop : List Stop → List ℕ → Type 0
HasStop stops id = Any (λ (s : Stop). s.id ≡ id) stops

-- the list has the child as a stop of this parent
abbrev pub IsChildOf : List Stop → List ℕ → List ℕ → Type 0
IsChildOf stops parent child = Any (λ (s : Stop). (s.id ≡ child) × (s.parent ≡ Some parent)) stops
