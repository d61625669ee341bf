-- The rows of stop_times.txt as what they say, by trip and sequence.
use Rattle.std.specs.Prelude.{ℕ, ◌+◌, ◌==◌, Bool, if◌then◌else◌, not, List, Some, None, codes, length, map, unwrap_or}
use Rattle.std.specs.List.{range_with_len}
use Rattle.std.specs.List.Sorted.{IsPermutation}
use Rattle.std.specs.Ordering.{nat_cmp, on, then_cmp}
use Rattle.std.specs.Str.{bytes_eq}
use Rattle.std.specs.declared.cmp.Ordering.{Ordering}
use Rattle.gtfs_rows.specs.Sheet.{Sheet}
use Rattle.lc_model.specs.Order.{IsStrict}
use Rattle.lc_model.specs.Text.{id_cmp}
use Rattle.lc_time.specs.Clock.{gtfs_time_said}
use Rattle.gtfs_tables.specs.Fields.Columns.{row_at, text_at}
use Rattle.gtfs_tables.specs.Trips.Stops.{stop_id_of}
use Rattle.gtfs_tables.specs.Trips.StopTimeRows.{sequence_of}
use Rattle.gtfs_tables.specs.Trips.Trips.{trip_id_of}
use Rattle.gtfs_tables.specs.declared.trips.visits.Visit.{Visit}

-- a pickup_type or drop_off_type of 1 forbids, anything else allows
abbrev pub allows : List ℕ → Bool
allows text = not (bytes_eq text (codes "1"))

-- the visit of a row: its trip, its stop, its number, its times, where the texts say them, and the row counted from 1
abbrev pub visit_of : Sheet → List (List ℕ) → ℕ → Visit
visit_of sheet row number = record {
  trip = trip_id_of sheet row;
  stop = if length (stop_id_of sheet row) == 0 then None else Some (stop_id_of sheet row);
  seq = unwrap_or (sequence_of sheet row) 0;
  arr = gtfs_time_said (text_at sheet row (codes "arrival_time"));
  dep = gtfs_time_said (text_at sheet row (codes "departure_time"));
  board = allows (text_at sheet row (codes "pickup_type"));
  alight = allows (text_at sheet row (codes "drop_off_type"));
  row = number;
}

-- the visit of the row at a place
abbrev pub visit_at : Sheet → ℕ → Visit
visit_at sheet place = visit_of sheet (row_at sheet place) (place + 1)

-- the visits of the rows, in the order of the file
abbrev pub visits_of_rows : Sheet → List Visit
visits_of_rows sheet = map (visit_at sheet) (range_with_len 0 (length sheet.rows))

-- visits by trip, then by number
abbrev pub visit_cmp : Visit → Visit → Ordering
visit_cmp = then_cmp (on (λ v. v.trip) id_cmp) (on (λ v. v.seq) nat_cmp)

-- these are the visits of the rows, strictly by trip and number
pub record AreVisits (sheet : Sheet) (visits : List Visit) : Type 0 where
  pub are : IsPermutation (visits_of_rows sheet) visits
  pub in_order : IsStrict visit_cmp visits
