-- Rows that break no rule, found from their visits once these are sorted.
use Rattle.std.proofs.Common.{◌≡◌, ◌∙◌, ℕ, ◌+◌, ◌<◌, Bool, true, false, ◌&&◌, List, [], ◌∷◌, Option, Some, None, Result, Ok, Err, IfOk, IfSome, ap, ap₂, arith, get_or, is_none, is_some, length, map, nat_eq, nat_lt, refl, subst, sym, unwrap_or}
use Rattle.std.proofs.lemmas.Bool.{false≢true}
use Rattle.std.proofs.lemmas.Bool.Decides.{nat_tests}
use Rattle.std.proofs.lemmas.Cmp.{nat_cmp_total, tied_itself}
use Rattle.std.proofs.lemmas.List.{get_or-map, length-map}
use Rattle.std.proofs.lemmas.List.FromFn.{get_or-map-range_with_len, length-map-range_with_len}
use Rattle.std.proofs.lemmas.List.Sorted.{IsPermutation-refl, IsPermutation-sym}
use Rattle.std.proofs.lemmas.Slice.Eq.{bytes_eq-Decides}
use Rattle.std.specs.List.{HoldsAt}
use Rattle.std.specs.List.Sorted.{IsPermutation, IsSorted}
use Rattle.std.specs.Option.{option_eq}
use Rattle.std.specs.Ordering.{is_lt, nat_cmp, ordering_reverse, ordering_then}
use Rattle.std.specs.Str.{bytes_eq}
use Rattle.std.specs.declared.cmp.Ordering.TheVariants.{Less, Equal}
use Rattle.gtfs_rows.specs.Sheet.{Sheet}
use Rattle.lc_model.specs.Order.{AreApart}
use Rattle.lc_model.specs.declared.stop.Stop.{Stop}
use Rattle.lc_model.proofs.OrdersLemmas.{apart_from_neighbours, apart_permuted, strict_from_neighbours}
use Rattle.lc_model.proofs.SearchLemmas.{same_id}
use Rattle.gtfs_tables.specs.Fields.Columns.{row_at}
use Rattle.gtfs_tables.specs.Fields.Places.{first_place, is_before, stands_twice}
use Rattle.gtfs_tables.specs.declared.fields.trip_rows.TripRow.{TripRow}
use Rattle.gtfs_tables.proofs.FieldsLemmas.PlaceFacts.{place_at_most, place_passes}
use Rattle.gtfs_tables.specs.Trips.SoundRows.{AreNeighboursApart, AreRising, AreSortedApart, AreSoundAlone, AreSoundVisits}
use Rattle.gtfs_tables.specs.Trips.StopTimeRows.{key_of, same_key, sequence_of, stop_time_keys, stop_time_rule_at}
use Rattle.gtfs_tables.specs.Trips.Trips.{trip_id_of}
use Rattle.gtfs_tables.specs.Trips.Visits.{visit_at, visit_cmp, visits_of_rows}
use Rattle.gtfs_tables.specs.declared.trips.visits.Visit.{Visit}
use Rattle.gtfs_tables.proofs.TripsLemmas.StopTimeRuleFacts.{rules_are}
use Rattle.gtfs_tables.proofs.TripsLemmas.VisitFacts.{visit_total}

-- a text that is the key of an item is among the keys
pub key_is_known : {X : Type 0} (key : X → List ℕ) (xs : List X) (place : ℕ) (text : List ℕ) → place < length xs → HoldsAt (λ x. key x ≡ text) xs place
    → is_none (first_place bytes_eq (map key xs) text) ≡ false
key_is_known key [] place text inside at = absurd (omega arith)
key_is_known key (x ∷ xs) place text inside at =
    let size = length-map (x ∷ xs) key in
    let here : get_or (map key (x ∷ xs)) place [] ≡ text = get_or-map key (x ∷ xs) place x [] inside ∙ at x in
    let first = place_at_most (λ other. bytes_eq other text) (map key (x ∷ xs)) place 0 [] (omega arith) ((bytes_eq-Decides _ text).1 here) in
    ap (λ o. is_none o) first.1

-- where a text has a first place among the keys, an item there has it as its key
pub record IsKeyAt {X : Type 0} (key : X → List ℕ) (xs : List X) (place : ℕ) (text : List ℕ) : Type 0 where
  pub within : place < length xs
  pub same : HoldsAt (λ x. key x ≡ text) xs place

pub key_is_found : {X : Type 0} (key : X → List ℕ) (xs : List X) (place : ℕ) (text : List ℕ) → first_place bytes_eq (map key xs) text ≡ Some place → IsKeyAt key xs place text
key_is_found key xs place text is =
    let at = place_passes (λ other. bytes_eq other text) (map key xs) 0 place [] is in
    let size = length-map xs key in
    let there : at.0 < length (map key xs) = at.2 in
    let same : place ≡ 0 + at.0 = at.1 in
    let inside : place < length xs = omega arith in
    record {
      within = inside;
      same = λ d. sym (get_or-map key xs place d [] inside) ∙ ap (λ n. get_or (map key xs) n []) (let e : place ≡ at.0 = omega arith in e) ∙ (bytes_eq-Decides _ text).0 at.3;
    }

pub found_within : {X : Type 0} (key : X → List ℕ) (xs : List X) (text : List ℕ) (o : Option ℕ) → o ≡ first_place bytes_eq (map key xs) text → IfSome o (λ place. place < length xs)
found_within key xs text None is = tt
found_within key xs text (Some place) is = (key_is_found key xs place text (sym is)).within

pub found_same : {X : Type 0} (key : X → List ℕ) (xs : List X) (text : List ℕ) (o : Option ℕ) → o ≡ first_place bytes_eq (map key xs) text → IfSome o (HoldsAt (λ x. key x ≡ text) xs)
found_same key xs text None is = tt
found_same key xs text (Some place) is = (key_is_found key xs place text (sym is)).same

-- what holds of what an option holds
pub at_some : {A : Type 0} (P : A → Type 0) (o : Option A) (x : A) → o ≡ Some x → IfSome o P → P x
at_some P o x is h = subst (λ p. IfSome p P) is h

pub never : (x y : Bool) → y ≡ false → (x && y) ≡ false
never true y e = e
never false y e = refl

abbrev made : ℕ → List ℕ → Option (List ℕ) → ℕ → Option ℕ → Option ℕ → Bool → Bool → Visit
made row trip stop seq arr dep board alight = record { trip = trip; stop = stop; seq = seq; arr = arr; dep = dep; board = board; alight = alight; row = row }

-- a visit is that of its row where its parts are
pub visit_is : (row : ℕ) (trip trip' : List ℕ) (stop stop' : Option (List ℕ)) (seq seq' : ℕ) (arr arr' dep dep' : Option ℕ) (board board' alight alight' : Bool)
    → trip ≡ trip' → stop ≡ stop' → seq ≡ seq' → arr ≡ arr' → dep ≡ dep' → board ≡ board' → alight ≡ alight' → made row trip stop seq arr dep board alight ≡ made row trip' stop' seq' arr' dep' board' alight'
visit_is row trip trip' stop stop' seq seq' arr arr' dep dep' board board' alight alight' e f g h i j k =
    ap (λ v. made row v stop seq arr dep board alight) e ∙ ap (λ v. made row trip' v seq arr dep board alight) f ∙ ap (λ v. made row trip' stop' v arr dep board alight) g
    ∙ ap (λ v. made row trip' stop' seq' v dep board alight) h ∙ ap (λ v. made row trip' stop' seq' arr' v board alight) i ∙ ap (λ v. made row trip' stop' seq' arr' dep' v alight) j
    ∙ ap (λ v. made row trip' stop' seq' arr' dep' board' v) k

-- keys that are one have one trip and one number
keys_same : (a b : List ℕ) (m n : Option ℕ) → same_key (a, m) (b, n) ≡ true → (bytes_eq a b ≡ true) × (option_eq nat_eq m n ≡ true)
keys_same a b m n h = both (bytes_eq a b) (option_eq nat_eq m n) h
  where
    both : (x y : Bool) → (x && y) ≡ true → (x ≡ true) × (y ≡ true)
    both true y e = (refl, e)
    both false y e = absurd (false≢true e)

numbers_same : (m n : ℕ) → nat_eq m n ≡ true → m ≡ n
numbers_same m n h = grind (arith, nat_tests)

some_same : (m n : Option ℕ) → is_none m ≡ false → option_eq nat_eq m n ≡ true → unwrap_or m 0 ≡ unwrap_or n 0
some_same None n there h = absurd (false≢true (sym there))
some_same (Some m) None there h = absurd (false≢true h)
some_same (Some m) (Some n) there h = numbers_same m n h

twice_is : (o : Option ℕ) (place : ℕ) → is_before o place ≡ true → (first : ℕ) × (o ≡ Some first) × (first < place)
twice_is None place h = absurd (false≢true h)
twice_is (Some first) place h = (first, refl, less first place h)
  where
    less : (m n : ℕ) → nat_lt m n ≡ true → m < n
    less m n e = grind (arith, nat_tests)

module _ (stops : List Stop) (trips : List TripRow) (sheet : Sheet) (sound : AreSoundAlone stops trips sheet) (apart : AreApart visit_cmp (visits_of_rows sheet)) where
  rows_tie : (i j : ℕ) → j < length sheet.rows → i < j → same_key (key_of sheet (row_at sheet i)) (key_of sheet (row_at sheet j)) ≡ true → visit_cmp (visit_at sheet i) (visit_at sheet j) ≡ Equal
  rows_tie i j inside before same =
      let both = keys_same (trip_id_of sheet (row_at sheet i)) (trip_id_of sheet (row_at sheet j)) (sequence_of sheet (row_at sheet i)) (sequence_of sheet (row_at sheet j)) same in
      let trip = same_id _ _ ((bytes_eq-Decides (trip_id_of sheet (row_at sheet i)) (trip_id_of sheet (row_at sheet j))).0 both.0) in
      let number = some_same (sequence_of sheet (row_at sheet i)) (sequence_of sheet (row_at sheet j)) (sound i (omega arith)).numbered both.1 in
      let tie : nat_cmp (unwrap_or (sequence_of sheet (row_at sheet i)) 0) (unwrap_or (sequence_of sheet (row_at sheet j)) 0) ≡ Equal =
      ap (λ n. nat_cmp (unwrap_or (sequence_of sheet (row_at sheet i)) 0) n) (sym number) ∙ tied_itself nat_cmp_total (unwrap_or (sequence_of sheet (row_at sheet i)) 0) in
      ap₂ ordering_then trip tie

  -- no trip and number of a row are there twice
  once : (place : ℕ) → place < length sheet.rows → stands_twice same_key (stop_time_keys sheet) place (key_of sheet (row_at sheet place)) ≡ false
  once place inside = by_test (stands_twice same_key (stop_time_keys sheet) place (key_of sheet (row_at sheet place))) refl
    where
      not_twice : stands_twice same_key (stop_time_keys sheet) place (key_of sheet (row_at sheet place)) ≡ true → ⊥
      not_twice h =
          let key = key_of sheet (row_at sheet place) in
          let found = twice_is (first_place same_key (stop_time_keys sheet) key) place h in
          let at = place_passes (λ other. same_key other key) (stop_time_keys sheet) 0 found.0 key found.1 in
          let size = length-map sheet.rows (key_of sheet) in
          let there : at.0 < length (stop_time_keys sheet) = at.2 in
          let same : found.0 ≡ 0 + at.0 = at.1 in
          let earlier : found.0 < place = found.2 in
          let lower : at.0 < place = omega arith in
          let within : at.0 < length sheet.rows = omega arith in
          let read : get_or (stop_time_keys sheet) at.0 key ≡ key_of sheet (row_at sheet at.0) = get_or-map (key_of sheet) sheet.rows at.0 [] key within in
          let tie = rows_tie at.0 place inside lower (ap (λ k. same_key k key) (sym read) ∙ at.3) in
          let count = length sheet.rows in
          let d = visit_at sheet 0 in
          let sizes : length (visits_of_rows sheet) ≡ count = length-map-range_with_len (visit_at sheet) 0 count in
          let at_i : get_or (visits_of_rows sheet) at.0 d ≡ visit_at sheet at.0 = get_or-map-range_with_len (visit_at sheet) 0 count at.0 at.0 d within (omega arith) in
          let at_j : get_or (visits_of_rows sheet) place d ≡ visit_at sheet place = get_or-map-range_with_len (visit_at sheet) 0 count place place d inside (omega arith) in
          apart at.0 place d lower (omega arith) (ap₂ visit_cmp at_i at_j ∙ tie)

      by_test : (b : Bool) → stands_twice same_key (stop_time_keys sheet) place (key_of sheet (row_at sheet place)) ≡ b → b ≡ false
      by_test false e = refl
      by_test true e = absurd (not_twice e)

  unbroken : (place : ℕ) → place < length sheet.rows → stop_time_rule_at stops trips sheet place ≡ None
  unbroken place inside =
      let row = sound place inside in
      let seventh : (is_some (sequence_of sheet (row_at sheet place)) && stands_twice same_key (stop_time_keys sheet) place (key_of sheet (row_at sheet place))) ≡ false =
      never (is_some (sequence_of sheet (row_at sheet place))) _ (once place inside) in
      sym (rules_are stops trips sheet place false false false false false false (sym row.named) (sym seventh) (sym row.stop_known) (sym row.trip_known) (sym row.numbered) (sym row.timed))

-- the visits, once they are sorted, of which no two side by side tie
pub sound_from_sorted : (stops : List Stop) (trips : List TripRow) (sheet : Sheet) (visits : List Visit) → AreSoundAlone stops trips sheet → IsPermutation (visits_of_rows sheet) visits
    → IsSorted visit_cmp visits → AreNeighboursApart visits → AreSoundVisits stops trips sheet visits
sound_from_sorted stops trips sheet visits sound moved sorted apart =
    let all_apart = apart_from_neighbours visit_cmp visit_total visits sorted apart in
    let as_rows = apart_permuted visit_cmp visit_total visits (visits_of_rows sheet) (IsPermutation-sym (visits_of_rows sheet) visits moved) all_apart in
    record {
      unbroken = unbroken stops trips sheet sound as_rows;
      are = record { are = moved; in_order = strict_from_neighbours visit_cmp visit_total visits sorted apart };
    }

-- visits that increase are sorted
rising_sorted : (visits : List Visit) → AreRising visits → IsSorted visit_cmp visits
rising_sorted visits rising k d low inside =
    ap is_lt (visit_total.antisymm (get_or visits (k + 1) d) (get_or visits k d) ∙ ap ordering_reverse (rising k d inside))

rising_apart : (visits : List Visit) → AreRising visits → AreNeighboursApart visits
rising_apart visits rising k d inside ties = let less : visit_cmp (get_or visits k d) (get_or visits (k + 1) d) ≡ Less = rising k d inside in cc

-- the visits of the rows, if they increase
pub sound_if_rising : (stops : List Stop) (trips : List TripRow) (sheet : Sheet) (visits : List Visit) → AreSoundAlone stops trips sheet → visits ≡ visits_of_rows sheet → AreRising visits
    → AreSoundVisits stops trips sheet visits
sound_if_rising stops trips sheet visits sound said rising =
    let same : IsPermutation (visits_of_rows sheet) visits = subst (λ (l : List Visit). IsPermutation l visits) said (IsPermutation-refl visits) in
    sound_from_sorted stops trips sheet visits sound same (rising_sorted visits rising) (rising_apart visits rising)

pub sorted_if_apart : {A : Type 0} (o : Option A) (items_of : A → List Visit) (visits sorted : List Visit) → IfSome o (λ v. items_of v ≡ sorted) → IfSome o (λ _. AreNeighboursApart sorted)
    → IsPermutation visits sorted → IsSorted visit_cmp sorted → IfSome o (λ v. AreSortedApart visits (items_of v))
sorted_if_apart None items_of visits sorted same apart moved up = tt
sorted_if_apart (Some v) items_of visits sorted same apart moved up =
    subst (AreSortedApart visits) (sym same) (record { moved = moved; sorted_up = up; apart = apart })

-- the visits of the rows, once they are sorted
pub sound_if_sorted : {A E : Type 0} (r : Result (Option A) E) (items_of : A → List Visit) (stops : List Stop) (trips : List TripRow) (sheet : Sheet) (visits : List Visit)
    → IfOk r (λ found. IfSome found (λ v. AreSortedApart visits (items_of v))) → AreSoundAlone stops trips sheet → visits ≡ visits_of_rows sheet
    → IfOk r (λ found. IfSome found (λ v. AreSoundVisits stops trips sheet (items_of v)))
sound_if_sorted (Err e) items_of stops trips sheet visits h sound said = tt
sound_if_sorted (Ok None) items_of stops trips sheet visits h sound said = tt
sound_if_sorted (Ok (Some v)) items_of stops trips sheet visits h sound said =
    sound_from_sorted stops trips sheet (items_of v) sound (subst (λ (l : List Visit). IsPermutation l (items_of v)) said h.moved) h.sorted_up h.apart
