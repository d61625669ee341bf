-- What stops.txt says, and the rules of its rows (GTFS Schedule Reference, stops.txt).
use Rattle.std.specs.Prelude.{ℕ, ◌==◌, Bool, List, [], ◌∷◌, Option, Some, None, if◌then◌else◌, map, codes, length}
use Rattle.std.specs.List.{All}
use Rattle.std.specs.List.Sorted.{IsPermutation}
use Rattle.std.specs.Option.{IfSome}
use Rattle.std.specs.Str.{bytes_eq}
use Rattle.gtfs_rows.specs.Sheet.{Sheet}
use Rattle.lc_model.specs.Stop.{HasStop, InStopOrder}
use Rattle.lc_model.specs.declared.stop.Stop.{Stop}
use Rattle.gtfs_tables.specs.Fields.Columns.{row_at, text_at}
use Rattle.gtfs_tables.specs.Fields.Places.{is_unknown, stands_twice}
use Rattle.gtfs_tables.specs.Fields.Rules.{first_of}
use Rattle.gtfs_tables.specs.Fields.Table.{IsFileFault, IsSound}
use Rattle.gtfs_tables.specs.declared.fields.fault.FileFault.{FileFault}

-- the columns that the file has to have
abbrev pub stops_columns : List (List ℕ)
stops_columns = codes "stop_id" ∷ []

-- the most rows that are read
abbrev pub most_stops : ℕ
most_stops = 100_000

-- the stop_id of a row
abbrev pub stop_id_of : Sheet → List (List ℕ) → List ℕ
stop_id_of sheet row = text_at sheet row (codes "stop_id")

-- the parent_station of a row
abbrev pub parent_of : Sheet → List (List ℕ) → List ℕ
parent_of sheet row = text_at sheet row (codes "parent_station")

-- the ids of the rows, in the order of the file
abbrev pub stop_ids : Sheet → List (List ℕ)
stop_ids sheet = map (stop_id_of sheet) sheet.rows

-- The rules of the row at a place. 6: its id is empty; 7: its id came before; 10: its parent is not in the file.
abbrev pub stop_rules : Sheet → ℕ → List (ℕ × Bool)
stop_rules sheet place =
    let id = stop_id_of sheet (row_at sheet place) in
    let parent = parent_of sheet (row_at sheet place) in
    (6, length id == 0)
    ∷ (7, stands_twice bytes_eq (stop_ids sheet) place id)
    ∷ (10, is_unknown (stop_ids sheet) parent)
    ∷ []

-- the first rule that the row at a place breaks
abbrev pub stop_rule_at : Sheet → ℕ → Option ℕ
stop_rule_at sheet place = first_of (stop_rules sheet place)

-- the stop of a row
abbrev pub stop_of : Sheet → List (List ℕ) → Stop
stop_of sheet row = record {
  id = stop_id_of sheet row;
  name = text_at sheet row (codes "stop_name");
  parent = if length (parent_of sheet row) == 0 then None else Some (parent_of sheet row);
}

-- each parent is one of the stops
abbrev pub HaveKnownParents : List Stop → Type 0
HaveKnownParents stops = All (λ (s : Stop). IfSome s.parent (HasStop stops)) stops

-- no rule is broken, and these are the stops of the rows, by their ids
pub record AreStopsOf (bytes : List ℕ) (stops : List Stop) : Type 0 where
  pub sheet : Sheet
  pub sound : IsSound stops_columns most_stops stop_rule_at bytes sheet
  pub are : IsPermutation (map (stop_of sheet) sheet.rows) stops
  pub in_order : InStopOrder stops

-- what is wrong first with the file
abbrev pub IsStopsFault : List ℕ → FileFault → Type 0
IsStopsFault bytes fault = IsFileFault stops_columns most_stops stop_rule_at bytes fault
