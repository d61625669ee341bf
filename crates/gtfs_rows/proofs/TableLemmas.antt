-- How the tests of a table find the first missing column and the first ragged row.
use Rattle.std.proofs.Common.{Bor, ◌≡◌, ◌≢◌, ◌∙◌, ℕ, ◌+◌, ◌-◌, ◌<◌, ◌≤◌, true, false, List, [], Option, Some, None, ap, arith, drop, eq-eqb, get_or, inl, inr, length, refl, sym}
use Rattle.std.specs.Prelude.{All, IsSome, option_map, ◌==◌, is_none, is_some, not, position}
use Rattle.std.proofs.lemmas.Bool.{ne_eqb}
use Rattle.std.proofs.lemmas.Bool.Decides.{eqb_tells}
use Rattle.std.proofs.lemmas.List.{get_or-drop, get_or-map, length-drop, length-map}
use Rattle.gtfs_rows.specs.Sheet.{Sheet, column_of, missing_column, names_of, ragged_row}
use Rattle.gtfs_rows.specs.Store.{sheet_of}
use Rattle.gtfs_rows.proofs.PlaceLemmas.{find-found, find-none_all, find-none_each, find-passed, position-found, position-none, position-none_each}

none_is : (o : Option ℕ) → is_some o ≡ false → is_none o ≡ true
none_is None h = refl
none_is (Some x) h = cc h

some_is : (o : Option ℕ) → is_some o ≡ true → is_none o ≡ false
some_is None h = cc h
some_is (Some x) h = refl

pub missing-found : (sheet : Sheet) (columns : List (Bor (List ℕ))) (i : ℕ) (d : Bor (List ℕ)) → i < length columns
    → is_some (column_of sheet (get_or columns i d).now) ≡ false
    → missing_column sheet (drop i (names_of columns)) ≡ missing_column sheet (names_of columns)
    → Some (get_or columns i d).now ≡ missing_column sheet (names_of columns)
missing-found sheet columns i d inside out so_far =
    let size = length-map columns (λ (name : Bor (List ℕ)). name.now) in
    let there : i < length (names_of columns) = omega arith in
    let name : get_or (names_of columns) i [] ≡ (get_or columns i d).now = get_or-map (λ (name : Bor (List ℕ)). name.now) columns i d [] inside in
    let hit : is_none (column_of sheet (get_or (names_of columns) i [])) ≡ true = rw name (none_is _ out) in
    ap Some (sym name) ∙ sym (find-found (λ column. is_none (column_of sheet column)) (names_of columns) i [] there hit) ∙ so_far

pub missing-passed : (sheet : Sheet) (columns : List (Bor (List ℕ))) (i : ℕ) (d : Bor (List ℕ)) → i < length columns
    → is_some (column_of sheet (get_or columns i d).now) ≡ true
    → missing_column sheet (drop (i + 1) (names_of columns)) ≡ missing_column sheet (drop i (names_of columns))
missing-passed sheet columns i d inside there_is =
    let size = length-map columns (λ (name : Bor (List ℕ)). name.now) in
    let there : i < length (names_of columns) = omega arith in
    let name : get_or (names_of columns) i [] ≡ (get_or columns i d).now = get_or-map (λ (name : Bor (List ℕ)). name.now) columns i d [] inside in
    let out : is_none (column_of sheet (get_or (names_of columns) i [])) ≡ false = rw name (some_is _ there_is) in
    find-passed (λ column. is_none (column_of sheet column)) (names_of columns) i [] there out

even_test : (a b : ℕ) → a ≡ b → not (a == b) ≡ false
even_test a b e = rw (eq-eqb a b e) refl

ragged_test : (a b : ℕ) → a ≢ b → not (a == b) ≡ true
ragged_test a b n = rw (ne_eqb a b n) refl

-- the rows below this one are as wide as the header
abbrev pub IsEvenBelow : List (List (List ℕ)) → ℕ → Type 0
IsEvenBelow records row = (k : ℕ) → k < row → length (get_or records k []) ≡ length (get_or records 0 [])

even_passes : (records : List (List (List ℕ))) (row k : ℕ) → IsEvenBelow records row → 1 + k < row
    → not (length (get_or (drop 1 records) k []) == length (get_or records 0 [])) ≡ false
even_passes records row k even h = rw (get_or-drop 1 records k []) (even_test _ _ (even (1 + k) h))

pub ragged-found : (records : List (List (List ℕ))) (row : ℕ) → 1 ≤ row → row < length records → IsEvenBelow records row
    → length (get_or records row []) ≢ length (get_or records 0 []) → Some row ≡ ragged_row (sheet_of records)
ragged-found records row from inside even wide =
    let size = length-drop 1 records in
    let there : row - 1 < length (drop 1 records) = omega arith in
    let back : 1 + (row - 1) ≡ row = omega arith in
    let same : row - 1 + 1 ≡ row = omega arith in
    let here : not (length (get_or (drop 1 records) (row - 1) []) == length (get_or records 0 [])) ≡ true =
    rw (get_or-drop 1 records (row - 1) [], back) (ragged_test _ _ wide) in
    let place : position (λ r. not (length r == length (get_or records 0 []))) (drop 1 records) ≡ Some (row - 1) =
    position-found (λ r. not (length r == length (get_or records 0 []))) (drop 1 records) (row - 1) [] there (λ k h. even_passes records row k even (omega arith)) here in
    sym (rw place (ap Some same))

pub ragged-none : (records : List (List (List ℕ))) (row : ℕ) → length records ≤ row → IsEvenBelow records row → None ≡ ragged_row (sheet_of records)
ragged-none records row past even =
    let size = length-drop 1 records in
    let place : position (λ r. not (length r == length (get_or records 0 []))) (drop 1 records) ≡ None =
    position-none (λ r. not (length r == length (get_or records 0 []))) (drop 1 records) [] (λ k h. even_passes records row k even (omega arith)) in
    sym (rw place refl)

is_some_from : (o : Option ℕ) → is_none o ≡ false → is_some o ≡ true
is_some_from None h = cc h
is_some_from (Some x) h = refl

-- nothing is missing exactly where each column is there
pub complete_from : (sheet : Sheet) (columns : List (List ℕ)) → missing_column sheet columns ≡ None → All (λ column. IsSome (column_of sheet column)) columns
complete_from sheet columns h k d inside = is_some_from _ (find-none_each (λ column. is_none (column_of sheet column)) columns h k d inside)

pub complete_to : (sheet : Sheet) (columns : List (List ℕ)) → All (λ column. IsSome (column_of sheet column)) columns → missing_column sheet columns ≡ None
complete_to sheet columns h = find-none_all (λ column. is_none (column_of sheet column)) columns (λ k d inside. some_is _ (h k d inside))

none_mapped : (o : Option ℕ) → option_map (λ place. place + 1) o ≡ None → o ≡ None
none_mapped None h = refl
none_mapped (Some x) h = cc h

same_from : (a b : ℕ) → not (a == b) ≡ false → a ≡ b
same_from a b h = elim (eqb_tells a b) [ inl p ↦ p.1 | inr p ↦ let no : true ≡ false = rw p.0 at h in cc ]

-- no row is ragged exactly where each is as wide as the header
pub even_from : (sheet : Sheet) → ragged_row sheet ≡ None → All (λ row. length row ≡ length sheet.names) sheet.rows
even_from sheet h k d inside =
    same_from _ _ (position-none_each (λ row. not (length row == length sheet.names)) sheet.rows (none_mapped _ h) k d inside)

pub even_to : (sheet : Sheet) → All (λ row. length row ≡ length sheet.names) sheet.rows → ragged_row sheet ≡ None
even_to sheet h =
    let place : position (λ row. not (length row == length sheet.names)) sheet.rows ≡ None =
    position-none (λ row. not (length row == length sheet.names)) sheet.rows [] (λ k inside. even_test _ _ (h k [] inside)) in
    rw place refl
