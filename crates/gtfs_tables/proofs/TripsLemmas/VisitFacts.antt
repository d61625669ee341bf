-- The visits of rows that break no rule by themselves.
use Rattle.std.proofs.Common.{◌≡◌, ◌≢◌, ◌∙◌, ℕ, ◌<◌, Bool, true, false, ◌&&◌, ◌==◌, List, [], Option, Some, None, ap, ap₂, arith, get_or, is_none, is_some, length, nat_eq, refl, sym, unwrap_or}
use Rattle.std.proofs.lemmas.Bool.{false≢true}
use Rattle.std.proofs.lemmas.Bool.Decides.{nat_tests}
use Rattle.std.proofs.lemmas.Cmp.{nat_cmp_total, nat_list_cmp_total, on_total, ranked, then_total}
use Rattle.std.proofs.lemmas.List.{get_or-map, length-map}
use Rattle.std.proofs.lemmas.List.FromFn.{get_or-map-range_with_len, length-map-range_with_len}
use Rattle.std.specs.Cmp.{IsTotalOrder}
use Rattle.std.specs.List.{AllPairs}
use Rattle.std.specs.List.Sorted.{IsPermutation, IsSorted}
use Rattle.std.specs.Option.{option_eq}
use Rattle.std.specs.Ordering.{is_eq, nat_cmp, ordering_then}
use Rattle.std.specs.declared.cmp.Ordering.{Ordering}
use Rattle.std.specs.declared.cmp.Ordering.TheVariants.{Less, Equal, Greater}
use Rattle.gtfs_rows.specs.Sheet.{Sheet}
use Rattle.lc_model.specs.Order.{AreApart, IsStrict}
use Rattle.lc_model.specs.Text.{id_cmp}
use Rattle.lc_model.specs.declared.stop.Stop.{Stop}
use Rattle.lc_model.proofs.OrdersLemmas.{apart_permuted, strict_from_sorted}
use Rattle.lc_model.proofs.SearchLemmas.{both_tie, id_tie}
use Rattle.gtfs_tables.specs.Fields.Columns.{row_at}
use Rattle.gtfs_tables.specs.Fields.Places.{stands_twice}
use Rattle.gtfs_tables.specs.declared.fields.trip_rows.TripRow.{TripRow}
use Rattle.gtfs_tables.proofs.FieldsLemmas.RuleFacts.{bytes_eq_itself, keys_differ, none_broken}
use Rattle.gtfs_tables.specs.Trips.StopTimeRows.{key_of, same_key, sequence_of, stop_time_keys, stop_time_rule_at, stop_time_rules}
use Rattle.gtfs_tables.specs.Trips.Trips.{trip_id_of}
use Rattle.gtfs_tables.specs.Trips.Visits.{visit_at, visit_cmp, visits_of_rows}
use Rattle.gtfs_tables.specs.declared.trips.visits.Visit.{Visit}

-- of two orders the second decides where the first ties, and else the first does
pub then_tied : (o p : Ordering) → is_eq o ≡ true → ordering_then o p ≡ p
then_tied Equal p tied = refl
then_tied Less p tied = absurd (false≢true tied)
then_tied Greater p tied = absurd (false≢true tied)

pub then_apart : (o p : Ordering) → is_eq o ≡ false → ordering_then o p ≡ o
then_apart Equal p apart = absurd (false≢true (sym apart))
then_apart Less p apart = refl
then_apart Greater p apart = refl

pub visit_total : IsTotalOrder visit_cmp
visit_total = then_total (on_total (λ (v : Visit). v.trip) nat_list_cmp_total) (on_total (λ (v : Visit). v.seq) nat_cmp_total)

-- what is used of a row that breaks no rule
pub record IsTimedRow (sheet : Sheet) (place : ℕ) : Type 0 where
  pub named : (length (trip_id_of sheet (row_at sheet place)) == 0) ≡ false
  pub once : (is_some (sequence_of sheet (row_at sheet place)) && stands_twice same_key (stop_time_keys sheet) place (key_of sheet (row_at sheet place))) ≡ false
  pub numbered : is_none (sequence_of sheet (row_at sheet place)) ≡ false

pub timed_row : (stops : List Stop) (trips : List TripRow) (sheet : Sheet) (place : ℕ) → stop_time_rule_at stops trips sheet place ≡ None → IsTimedRow sheet place
unfolding stop_time_rules
timed_row stops trips sheet place h =
    let none = none_broken (stop_time_rules stops trips sheet place) h in
    record { named = none.0; once = none.1.0; numbered = none.1.1.1.1.0 }

not_empty : (text : List ℕ) → (length text == 0) ≡ false → text ≢ []
not_empty text h e = false≢true (sym h ∙ ap (λ (t : List ℕ). length t == 0) e)

pub is_named : (sheet : Sheet) (place : ℕ) → IsTimedRow sheet place → trip_id_of sheet (row_at sheet place) ≢ []
is_named sheet place row = not_empty (trip_id_of sheet (row_at sheet place)) row.named

-- a number that is there is a number
with_number : (o : Option ℕ) → is_none o ≡ false → o ≡ Some (unwrap_or o 0)
with_number None h = absurd (false≢true (sym h))
with_number (Some n) h = refl

option_itself : (o : Option ℕ) → option_eq nat_eq o o ≡ true
option_itself None = refl
option_itself (Some n) = number_itself n
  where
    number_itself : (m : ℕ) → nat_eq m m ≡ true
    number_itself m = grind (arith, nat_tests)

key_itself : (key : List ℕ × Option ℕ) → same_key key key ≡ true
key_itself key = ap₂ (λ a b. a && b) (bytes_eq_itself key.0) (option_itself key.1)

not_twice : (o : Option ℕ) (twice : Bool) → is_none o ≡ false → (is_some o && twice) ≡ false → twice ≡ false
not_twice None twice there h = absurd (false≢true (sym there))
not_twice (Some n) twice there h = h

number_tie : (x y : ℕ) → nat_cmp x y ≡ Equal → x ≡ y
number_tie x y e = ranked x y Equal (sym e)

module _ (sheet : Sheet) (rows : (place : ℕ) → place < length sheet.rows → IsTimedRow sheet place) where
  keys_apart : AllPairs (λ x y. x ≢ y) (stop_time_keys sheet)
  keys_apart = keys_differ same_key key_itself (stop_time_keys sheet) once
    where
      once : (place : ℕ) (d : List ℕ × Option ℕ) → place < length (stop_time_keys sheet) → stands_twice same_key (stop_time_keys sheet) place (get_or (stop_time_keys sheet) place d) ≡ false
      once place d inside =
          let size = length-map sheet.rows (key_of sheet) in
          let there : place < length sheet.rows = omega arith in
          let at : get_or (stop_time_keys sheet) place d ≡ key_of sheet (row_at sheet place) = get_or-map (key_of sheet) sheet.rows place [] d there in
          let row = rows place there in
          ap (stands_twice same_key (stop_time_keys sheet) place) at ∙ not_twice (sequence_of sheet (row_at sheet place)) _ row.numbered row.once

  keys_from_tie : (i j : ℕ) → i < length sheet.rows → j < length sheet.rows → visit_cmp (visit_at sheet i) (visit_at sheet j) ≡ Equal
      → key_of sheet (row_at sheet i) ≡ key_of sheet (row_at sheet j)
  keys_from_tie i j at_i at_j ties =
      let both = both_tie (id_cmp (trip_id_of sheet (row_at sheet i)) (trip_id_of sheet (row_at sheet j))) (nat_cmp (unwrap_or (sequence_of sheet (row_at sheet i)) 0) (unwrap_or (sequence_of sheet (row_at sheet j)) 0)) ties in
      let trip = id_tie _ _ both.0 in
      let number = number_tie _ _ both.1 in
      let pair : List ℕ → Option ℕ → List ℕ × Option ℕ = λ t n. (t, n) in
      ap₂ pair trip (with_number _ (rows i at_i).numbered ∙ ap (λ (n : ℕ). Some n) number ∙ sym (with_number _ (rows j at_j).numbered))

  visits_apart : AreApart visit_cmp (visits_of_rows sheet)
  visits_apart i j d before inside ties =
      let count = length sheet.rows in
      let size : length (visits_of_rows sheet) ≡ count = length-map-range_with_len (visit_at sheet) 0 count in
      let sizes = length-map sheet.rows (key_of sheet) in
      let there_j : j < count = omega arith in
      let there_i : i < count = omega arith in
      let at_i : get_or (visits_of_rows sheet) i d ≡ visit_at sheet i = get_or-map-range_with_len (visit_at sheet) 0 count i i d there_i (omega arith) in
      let at_j : get_or (visits_of_rows sheet) j d ≡ visit_at sheet j = get_or-map-range_with_len (visit_at sheet) 0 count j j d there_j (omega arith) in
      let same = keys_from_tie i j there_i there_j (sym (ap₂ visit_cmp at_i at_j) ∙ ties) in
      let key = key_of sheet (row_at sheet i) in
      let k_i : get_or (stop_time_keys sheet) i key ≡ key_of sheet (row_at sheet i) = get_or-map (key_of sheet) sheet.rows i [] key there_i in
      let k_j : get_or (stop_time_keys sheet) j key ≡ key_of sheet (row_at sheet j) = get_or-map (key_of sheet) sheet.rows j [] key there_j in
      let within : j < length (stop_time_keys sheet) = omega arith in
      keys_apart i j key before within (k_i ∙ same ∙ sym k_j)

  -- sorted, they are strictly in order
  pub visits_strict : (visits : List Visit) → IsPermutation (visits_of_rows sheet) visits → IsSorted visit_cmp visits → IsStrict visit_cmp visits
  visits_strict visits moved sorted =
      strict_from_sorted visit_cmp visit_total visits sorted (apart_permuted visit_cmp visit_total (visits_of_rows sheet) visits moved visits_apart)
