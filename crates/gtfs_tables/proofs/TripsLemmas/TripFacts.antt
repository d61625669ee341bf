-- What is known of the trips of a file in which no rule is broken.
use Rattle.std.proofs.Common.{◌≡◌, ◌≢◌, ◌∙◌, ℕ, ◌<◌, false, ◌||◌, List, [], ◌==◌, None, ap, arith, get_or, length, map, sym, subst}
use Rattle.std.proofs.lemmas.List.{get_or-map, length-map}
use Rattle.std.specs.List.{AllPairs}
use Rattle.std.specs.Str.{bytes_eq}
use Rattle.gtfs_rows.specs.Sheet.{Sheet}
use Rattle.gtfs_tables.specs.Fields.Columns.{row_at}
use Rattle.gtfs_tables.specs.Fields.Places.{stands_twice}
use Rattle.gtfs_tables.specs.Fields.Rules.{IsUnbroken}
use Rattle.gtfs_tables.specs.Fields.TripRows.{HaveOneRowATrip}
use Rattle.gtfs_tables.specs.declared.fields.trip_rows.TripRow.{TripRow}
use Rattle.gtfs_tables.proofs.FieldsLemmas.RuleFacts.{bytes_eq_itself, keys_differ, none_broken}
use Rattle.gtfs_tables.specs.Trips.Trips.{service_of, trip_id_of, trip_ids, trip_of, trip_rule_at, trip_rules}
use Rattle.gtfs_tables.proofs.TripsLemmas.Keys.{map-map, pairs_of_items}

-- what a row that breaks no rule is
pub record IsTripRow (sheet : Sheet) (place : ℕ) : Type 0 where
  pub named : ((length (trip_id_of sheet (row_at sheet place)) == 0) || (length (service_of sheet (row_at sheet place)) == 0)) ≡ false
  pub once : stands_twice bytes_eq (trip_ids sheet) place (trip_id_of sheet (row_at sheet place)) ≡ false

pub trip_row : (sheet : Sheet) (place : ℕ) → trip_rule_at sheet place ≡ None → IsTripRow sheet place
trip_row sheet place h = let none = none_broken (trip_rules sheet place) h in record { named = none.0; once = none.1.0 }

-- no two trips have one id
pub trips_differ : (sheet : Sheet) → IsUnbroken (trip_rule_at sheet) (length sheet.rows) → HaveOneRowATrip (map (trip_of sheet) sheet.rows)
trips_differ sheet unbroken =
    let Differ : List (List ℕ) → Type 0 = λ ids. AllPairs (λ x y. x ≢ y) ids in
    let ids : Differ (trip_ids sheet) = keys_differ bytes_eq bytes_eq_itself (trip_ids sheet) once in
    pairs_of_items (λ x y. x ≢ y) (λ (t : TripRow). t.trip) (map (trip_of sheet) sheet.rows)
    (subst Differ (sym (map-map (λ (t : TripRow). t.trip) (trip_of sheet) sheet.rows)) ids)
  where
    once : (place : ℕ) (d : List ℕ) → place < length (trip_ids sheet) → stands_twice bytes_eq (trip_ids sheet) place (get_or (trip_ids sheet) place d) ≡ false
    once place d inside =
        let size = length-map sheet.rows (trip_id_of sheet) in
        let there : place < length sheet.rows = omega arith in
        let at : get_or (trip_ids sheet) place d ≡ trip_id_of sheet (row_at sheet place) = get_or-map (trip_id_of sheet) sheet.rows place [] d there in
        ap (stands_twice bytes_eq (trip_ids sheet) place) at ∙ (trip_row sheet place (unbroken place there)).once
