-- Rows of stop_times.txt that break no rule, found without a look at whether a key is there twice.
use Rattle.std.specs.Prelude.{◌≡◌, ℕ, ◌+◌, ◌<◌, ◌≢◌, ◌==◌, ◌&&◌, ◌||◌, not, false, List, is_none, codes, length, slice_index_or}
use Rattle.std.specs.List.Sorted.{IsPermutation, IsSorted}
use Rattle.std.specs.Str.{bytes_eq}
use Rattle.std.specs.declared.cmp.Ordering.TheVariants.{Less, Equal}
use Rattle.gtfs_rows.specs.Sheet.{Sheet}
use Rattle.lc_model.specs.declared.stop.Stop.{Stop}
use Rattle.gtfs_tables.specs.Fields.Columns.{row_at, text_at}
use Rattle.gtfs_tables.specs.Fields.Places.{first_place, is_unknown}
use Rattle.gtfs_tables.specs.Fields.Rules.{IsUnbroken}
use Rattle.gtfs_tables.specs.Fields.Times.{is_wrong_time}
use Rattle.gtfs_tables.specs.declared.fields.trip_rows.TripRow.{TripRow}
use Rattle.gtfs_tables.specs.Trips.Stops.{stop_id_of}
use Rattle.gtfs_tables.specs.Trips.StopTimeRows.{ids_of_stops, ids_of_trips, sequence_of, stop_time_rule_at}
use Rattle.gtfs_tables.specs.Trips.Trips.{trip_id_of}
use Rattle.gtfs_tables.specs.Trips.Visits.{AreVisits, visit_at, visit_cmp}
use Rattle.gtfs_tables.specs.declared.trips.visits.Visit.{Visit}

-- the row at a place breaks no rule, but for the one that a trip and its number are there once
pub record IsSoundAlone (stops : List Stop) (trips : List TripRow) (sheet : Sheet) (place : ℕ) : Type 0 where
  pub named : (length (trip_id_of sheet (row_at sheet place)) == 0) ≡ false
  pub stop_known : is_unknown (ids_of_stops stops) (stop_id_of sheet (row_at sheet place)) ≡ false
  pub trip_known : is_none (first_place bytes_eq (ids_of_trips trips) (trip_id_of sheet (row_at sheet place))) ≡ false
  pub numbered : is_none (sequence_of sheet (row_at sheet place)) ≡ false
  pub timed : (not (length (stop_id_of sheet (row_at sheet place)) == 0)
      && (is_wrong_time (text_at sheet (row_at sheet place) (codes "arrival_time")) || is_wrong_time (text_at sheet (row_at sheet place) (codes "departure_time")))) ≡ false

-- the row at a place is so, and this is its visit
pub record SaysVisit (stops : List Stop) (trips : List TripRow) (sheet : Sheet) (place : ℕ) (visit : Visit) : Type 0 where
  pub said : visit ≡ visit_at sheet place
  pub sound : IsSoundAlone stops trips sheet place

-- all rows are so
abbrev pub AreSoundAlone : List Stop → List TripRow → Sheet → Type 0
AreSoundAlone stops trips sheet = (place : ℕ) → place < length sheet.rows → IsSoundAlone stops trips sheet place

-- no row breaks a rule, and these are the visits of the rows, by trip and number
pub record AreSoundVisits (stops : List Stop) (trips : List TripRow) (sheet : Sheet) (visits : List Visit) : Type 0 where
  pub unbroken : IsUnbroken (stop_time_rule_at stops trips sheet) (length sheet.rows)
  pub are : AreVisits sheet visits

-- the visits are strictly in the order of trip and number
abbrev pub AreRising : List Visit → Type 0
AreRising visits = (k : ℕ) (d : Visit) → k + 1 < length visits → visit_cmp (slice_index_or visits k d) (slice_index_or visits (k + 1) d) ≡ Less

-- no two visits side by side have one trip and one number
abbrev pub AreNeighboursApart : List Visit → Type 0
AreNeighboursApart visits = (k : ℕ) (d : Visit) → k + 1 < length visits → visit_cmp (slice_index_or visits k d) (slice_index_or visits (k + 1) d) ≢ Equal

-- the second are the first by trip and number, of which no two have one trip and one number
pub record AreSortedApart (visits sorted : List Visit) : Type 0 where
  pub moved : IsPermutation visits sorted
  pub sorted_up : IsSorted visit_cmp sorted
  pub apart : AreNeighboursApart sorted
