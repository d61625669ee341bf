-- Worked values of the changes: a station of two stops, and the six stops of the small feed.
use Rattle.std.specs.Prelude.{ℕ, List, [], ◌∷◌, Option, Some, None, map, codes}
use Rattle.lc_model.specs.declared.change.Change.{Change}
use Rattle.lc_model.specs.declared.stop.Stop.{Stop}
use Rattle.gtfs_tables.specs.declared.calendars.transfer.Transfer.{Transfer}
use Rattle.change_table.specs.ChangeRule.{change_of}
use Rattle.change_table.specs.Pairs.{timed_change}

-- a stop by the name of its id, with this parent
abbrev pub stop_within : Option (List ℕ) → List ℕ → Stop
stop_within parent id = record { id = id; name = id; parent = parent }

-- the station P and its children P1 and P2
abbrev pub station : List Stop
station = stop_within None (codes "P") ∷ stop_within (Some (codes "P")) (codes "P1") ∷ stop_within (Some (codes "P")) (codes "P2") ∷ []

-- a row from one stop or station to another
abbrev pub row_of : List ℕ → List ℕ → ℕ → Option ℕ → Transfer
row_of from to kind seconds = record { from = from; to = to; kind = kind; seconds = seconds }

-- within the station it takes 300 seconds
abbrev pub within_station : Transfer
within_station = row_of (codes "P") (codes "P") 2 (Some 300)

-- from P1 to P2 there is no change
abbrev pub no_change : Transfer
no_change = row_of (codes "P1") (codes "P2") 3 None

-- from P1 to P2 it takes 60 seconds
abbrev pub one_minute : Transfer
one_minute = row_of (codes "P1") (codes "P2") 2 (Some 60)

-- the change between two stops of the station, by these rows and a default of 120 seconds
abbrev pub seconds_at_station : List Transfer → List ℕ → List ℕ → Option ℕ
seconds_at_station rows from to = change_of station rows 120 from to

-- the six stops of the small feed, none of which has a parent
abbrev pub six_ids : List (List ℕ)
six_ids = codes "A" ∷ codes "B" ∷ codes "C" ∷ codes "D" ∷ codes "E" ∷ codes "F" ∷ []

-- the six stops of these ids
abbrev pub six_stops : List Stop
six_stops = map (stop_within None) six_ids

-- a change at each of the six stops, which takes these seconds
abbrev pub six_changes : ℕ → List Change
six_changes seconds = map (λ (id : List ℕ). timed_change id id seconds) six_ids

-- a change at each of the six stops but the last
abbrev pub five_changes : List Change
five_changes = map (λ (id : List ℕ). timed_change id id 120) (codes "A" ∷ codes "B" ∷ codes "C" ∷ codes "D" ∷ codes "E" ∷ [])
