-- The rows of transfers.txt, sorted by the stops that they name.
use Rattle.std.specs.Prelude.{◌≡◌, ℕ, List, [], Option, Some, None, map, filter, find, ◌&&◌}
use Rattle.std.specs.List.Sorted.{IsSorted}
use Rattle.std.specs.Option.{option_map_or, option_or}
use Rattle.std.specs.Ordering.{on, then_cmp}
use Rattle.std.specs.declared.cmp.Ordering.{Ordering}
use Rattle.lc_model.specs.Change.{is_same_id}
use Rattle.lc_model.specs.Text.{id_cmp}
use Rattle.lc_model.specs.declared.stop.Stop.{Stop}
use Rattle.gtfs_tables.specs.declared.calendars.transfer.Transfer.{Transfer}
use Rattle.change_table.specs.ChangeRule.{are_together, has_known_kind, is_between, said_seconds, usual_seconds}
use Rattle.change_table.specs.declared.rows.Row.{Row}

-- the rows themselves
abbrev pub recorded : List Row → List Transfer
recorded rows = map (λ (r : Row). r.transfer.now) rows

-- where a row goes
abbrev pub target : Row → List ℕ
target r = r.transfer.now.to

-- by the stop that one leaves, then by the stop that one reaches
abbrev pub row_cmp : Row → Row → Ordering
row_cmp = then_cmp (on (λ r. r.transfer.now.from) id_cmp) (on target id_cmp)

-- the rows are sorted, and of those from one stop to another the first is the first in the file
pub record AreSortedRows (transfers : List Transfer) (rows : List Row) : Type 0 where
  pub sorted : IsSorted row_cmp rows
  pub first : (from to : List ℕ) → find (is_between from to) (recorded rows)
      ≡ find (λ row. is_between from to row && has_known_kind row) transfers

-- the first of the rows that goes there
abbrev pub row_to : List Row → Option (List ℕ) → Option Transfer
row_to rows None = None
row_to rows (Some to) = find (λ (t : Transfer). is_same_id t.to to) (recorded rows)

-- the first of the rows to a stop, else the first to its parent
abbrev pub row_for : List Row → Stop → Option Transfer
row_for rows to = option_or (row_to rows (Some to.id)) (row_to rows to.parent)

-- what the rows from a stop and those from its parent say of a change
unfoldable pub seconds_by : List Row → List Row → ℕ → Stop → Stop → Option ℕ
seconds_by own of_parent default from to =
    option_map_or (said_seconds default) (option_or (row_for own to) (row_for of_parent to)) (usual_seconds default (are_together from to))

-- the rows from a stop or station; there is none where there is no such station
abbrev pub rows_from : List Row → Option (List ℕ) → List Row
rows_from rows None = []
rows_from rows (Some from) = filter (λ (r : Row). is_same_id r.transfer.now.from from) rows
