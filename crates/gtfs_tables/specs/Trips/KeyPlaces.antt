-- The first places of the keys of stop times, as a map has them, and what is known while the rows are tested.
use Rattle.std.specs.Prelude.{◌≡◌, ℕ, List, Option}
use Rattle.std.specs.BTreeMap.{BTreeMap, get}
use Rattle.std.specs.Borrow.{Bor}
use Rattle.std.specs.Cmp.Lexicographic.{slice_cmp}
use Rattle.std.specs.Option.{option_cmp}
use Rattle.std.specs.Ordering.{nat_cmp, ordering_then}
use Rattle.std.specs.declared.cmp.Ordering.{Ordering}
use Rattle.gtfs_rows.specs.Sheet.{Sheet}
use Rattle.lc_model.specs.declared.stop.Stop.{Stop}
use Rattle.gtfs_tables.specs.Fields.Places.{first_place}
use Rattle.gtfs_tables.specs.Fields.TextPlaces.{HavePlaces}
use Rattle.gtfs_tables.specs.declared.fields.trip_rows.TripRow.{TripRow}
use Rattle.gtfs_tables.specs.Trips.StopTimeRows.{ids_of_stops, ids_of_trips, same_key, stop_time_keys}
use Rattle.gtfs_tables.specs.declared.trips.stop_time_rows.Known.{Known}

-- a key of which the text is lent, as the value that it is
abbrev pub lent_key : Bor (List ℕ) × Option ℕ → List ℕ × Option ℕ
lent_key key = (key.0.now, key.1)

-- first by trip, then by number
abbrev pub lent_key_cmp : Bor (List ℕ) × Option ℕ → Bor (List ℕ) × Option ℕ → Ordering
lent_key_cmp x y = ordering_then (slice_cmp nat_cmp x.0.now y.0.now) (option_cmp nat_cmp x.1 y.1)

-- the map has the first place of each of these keys, and nothing for another key
pub record HaveKeyPlaces (keys : List (List ℕ × Option ℕ)) (places : BTreeMap (Bor (List ℕ) × Option ℕ) ℕ) : Type 0 where
  pub at : (key : Bor (List ℕ) × Option ℕ) → get lent_key_cmp places key ≡ first_place same_key keys (lent_key key)

-- these maps have the keys of a sheet and the ids of stops and trips
pub record IsKnown (all_stops : List Stop) (all_trips : List TripRow) (sheet : Sheet) (known : Known) : Type 0 where
  pub keys : HaveKeyPlaces (stop_time_keys sheet) known.keys
  pub stops : HavePlaces (ids_of_stops all_stops) known.stops
  pub trips : HavePlaces (ids_of_trips all_trips) known.trips
