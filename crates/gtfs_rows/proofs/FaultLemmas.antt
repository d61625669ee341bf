-- The bytes break at most one rule, and none where they are a table.
use Rattle.std.proofs.Common.{◌≡◌, ◌∙◌, ℕ, suc, ◌<◌, ◌⊎◌, List, [], ◌∷◌, Err, Option, Result, Some, None, ap, arith, get_or, drop, inl, length, map, refl, sym}
use Rattle.std.specs.Str.{IsUtf8}
use Rattle.gtfs_rows.specs.Fault.{Breaks}
use Rattle.gtfs_rows.specs.Sheet.{AreRecordsOf, AreTrimmedRecordsOf, IsSheetOf, IsTable, Sheet, missing_column, ragged_row}
use Rattle.gtfs_rows.specs.Spaces.{without_spaces}
use Rattle.gtfs_rows.specs.Store.{sheet_of}
use Rattle.gtfs_rows.specs.declared.fault.RowFault.{RowFault}
use Rattle.gtfs_rows.specs.declared.fault.RowFault.TheVariants.{NotUtf8, NoHeader, NoColumn, Ragged, NoMemory}
use Rattle.gtfs_rows.proofs.TableLemmas.{complete_from, complete_to, even_from, even_to}
use Rattle.gtfs_rows.proofs.SheetLemmas.{records_of_are_one, sheets_are_one}

-- a text with a sheet has a record
has_header : (bytes : List ℕ) (sheet : Sheet) → IsSheetOf bytes sheet → AreRecordsOf bytes [] → ⊥
has_header bytes sheet is none = let same : is.header ∷ is.records ≡ [] = records_of_are_one bytes _ _ is.read none in cc

-- what is missing, or ragged, is so in each reading
one_missing : (bytes : List ℕ) (columns : List (List ℕ)) (a b : Sheet) (x y : Option (List ℕ)) → IsSheetOf bytes a → IsSheetOf bytes b
    → missing_column a columns ≡ x → missing_column b columns ≡ y → x ≡ y
one_missing bytes columns a b x y h k p q = sym p ∙ ap (λ s. missing_column s columns) (sheets_are_one bytes a b h k) ∙ q

one_ragged : (bytes : List ℕ) (a b : Sheet) (x y : Option ℕ) → IsSheetOf bytes a → IsSheetOf bytes b → ragged_row a ≡ x → ragged_row b ≡ y → x ≡ y
one_ragged bytes a b x y h k p q = sym p ∙ ap ragged_row (sheets_are_one bytes a b h k) ∙ q

pub table_breaks_none : (bytes : List ℕ) (columns : List (List ℕ)) (sheet : Sheet) (fault : RowFault) → IsTable bytes columns sheet → Breaks bytes columns fault → ⊥
table_breaks_none bytes columns sheet NotUtf8 t b = b t.read.utf8
table_breaks_none bytes columns sheet NoHeader t b = has_header bytes sheet t.read b.1
table_breaks_none bytes columns sheet (NoColumn name) t (other, is, missing) =
    let e : None ≡ Some name = one_missing bytes columns sheet other None (Some name) t.read is (complete_to sheet columns t.complete) missing in cc
table_breaks_none bytes columns sheet (Ragged row) t (other, is, complete, ragged) =
    let e : None ≡ Some row = one_ragged bytes sheet other None (Some row) t.read is (even_to sheet t.even) ragged in cc
table_breaks_none bytes columns sheet NoMemory t b = b

not_utf8_is_one : (bytes : List ℕ) (columns : List (List ℕ)) (b : RowFault) → ¬ (IsUtf8 bytes) → Breaks bytes columns b → NotUtf8 ≡ b
not_utf8_is_one bytes columns NotUtf8 h k = refl
not_utf8_is_one bytes columns NoHeader h k = absurd (h k.0)
not_utf8_is_one bytes columns (NoColumn name) h (sheet, is, missing) = absurd (h is.utf8)
not_utf8_is_one bytes columns (Ragged row) h (sheet, is, complete, ragged) = absurd (h is.utf8)
not_utf8_is_one bytes columns NoMemory h k = absurd k

no_header_is_one : (bytes : List ℕ) (columns : List (List ℕ)) (b : RowFault) → Breaks bytes columns NoHeader → Breaks bytes columns b → NoHeader ≡ b
no_header_is_one bytes columns NotUtf8 h k = absurd (k h.0)
no_header_is_one bytes columns NoHeader h k = refl
no_header_is_one bytes columns (NoColumn name) h (sheet, is, missing) = absurd (has_header bytes sheet is h.1)
no_header_is_one bytes columns (Ragged row) h (sheet, is, complete, ragged) = absurd (has_header bytes sheet is h.1)
no_header_is_one bytes columns NoMemory h k = absurd k

no_column_is_one : (bytes : List ℕ) (columns : List (List ℕ)) (name : List ℕ) (b : RowFault) → Breaks bytes columns (NoColumn name) → Breaks bytes columns b → NoColumn name ≡ b
no_column_is_one bytes columns name NotUtf8 (sheet, is, missing) k = absurd (k is.utf8)
no_column_is_one bytes columns name NoHeader (sheet, is, missing) k = absurd (has_header bytes sheet is k.1)
no_column_is_one bytes columns name (NoColumn other) (sheet, is, missing) (sheet2, is2, missing2) =
    let e : Some name ≡ Some other = one_missing bytes columns sheet sheet2 (Some name) (Some other) is is2 missing missing2 in cc
no_column_is_one bytes columns name (Ragged row) (sheet, is, missing) (sheet2, is2, complete, ragged) =
    let e : Some name ≡ None = one_missing bytes columns sheet sheet2 (Some name) None is is2 missing complete in cc
no_column_is_one bytes columns name NoMemory (sheet, is, missing) k = absurd k

ragged_is_one : (bytes : List ℕ) (columns : List (List ℕ)) (row : ℕ) (b : RowFault) → Breaks bytes columns (Ragged row) → Breaks bytes columns b → Ragged row ≡ b
ragged_is_one bytes columns row NotUtf8 (sheet, is, complete, ragged) k = absurd (k is.utf8)
ragged_is_one bytes columns row NoHeader (sheet, is, complete, ragged) k = absurd (has_header bytes sheet is k.1)
ragged_is_one bytes columns row (NoColumn name) (sheet, is, complete, ragged) (sheet2, is2, missing) =
    let e : None ≡ Some name = one_missing bytes columns sheet sheet2 None (Some name) is is2 complete missing in cc
ragged_is_one bytes columns row (Ragged other) (sheet, is, complete, ragged) (sheet2, is2, complete2, ragged2) =
    let e : Some row ≡ Some other = one_ragged bytes sheet sheet2 (Some row) (Some other) is is2 ragged ragged2 in cc
ragged_is_one bytes columns row NoMemory (sheet, is, complete, ragged) k = absurd k

pub faults_are_one : (bytes : List ℕ) (columns : List (List ℕ)) (a b : RowFault) → Breaks bytes columns a → Breaks bytes columns b → a ≡ b
faults_are_one bytes columns NotUtf8 b h k = not_utf8_is_one bytes columns b h k
faults_are_one bytes columns NoHeader b h k = no_header_is_one bytes columns b h k
faults_are_one bytes columns (NoColumn name) b h k = no_column_is_one bytes columns name b h k
faults_are_one bytes columns (Ragged row) b h k = ragged_is_one bytes columns row b h k
faults_are_one bytes columns NoMemory b h k = absurd h

-- trimmed records are a sheet, where there is one
pub sheet_read : (bytes : List ℕ) (records : List (List (List ℕ))) → IsUtf8 bytes → AreTrimmedRecordsOf bytes records → 0 < length records → IsSheetOf bytes (sheet_of records)
sheet_read bytes records utf8 ([], are, same) some =
    let size : length records ≡ 0 = ap length same in
    absurd (omega arith)
sheet_read bytes records utf8 (header ∷ rest, are, same) some = record {
  utf8 = utf8;
  header = header;
  records = rest;
  read = are;
  names = ap (λ (r : List (List (List ℕ))). get_or r 0 []) same;
  rows = ap (λ (r : List (List (List ℕ))). drop 1 r) same;
}

pub none_read : (bytes : List ℕ) (records : List (List (List ℕ))) → AreTrimmedRecordsOf bytes records → length records ≡ 0 → AreRecordsOf bytes []
none_read bytes records ([], are, same) none = are
none_read bytes records (header ∷ rest, are, same) none =
    let size : length records ≡ suc (length (map (map without_spaces) rest)) = ap length same in
    absurd (omega arith)

pub no_column_here : (bytes : List ℕ) (columns : List (List ℕ)) (records : List (List (List ℕ))) (name : List ℕ) → IsUtf8 bytes → AreTrimmedRecordsOf bytes records
    → (length records ≡ 0 → ⊥) → Some name ≡ missing_column (sheet_of records) columns → Breaks bytes columns (NoColumn name)
no_column_here bytes columns records name utf8 are some missing = (sheet_of records, sheet_read bytes records utf8 are (omega arith), sym missing)

pub ragged_here : (bytes : List ℕ) (columns : List (List ℕ)) (records : List (List (List ℕ))) (row : ℕ) → IsUtf8 bytes → AreTrimmedRecordsOf bytes records
    → (length records ≡ 0 → ⊥) → None ≡ missing_column (sheet_of records) columns → Some row ≡ ragged_row (sheet_of records) → Breaks bytes columns (Ragged row)
ragged_here bytes columns records row utf8 are some complete ragged =
    (sheet_of records, sheet_read bytes records utf8 are (omega arith), sym complete, sym ragged)

pub table_here : (bytes : List ℕ) (columns : List (List ℕ)) (records : List (List (List ℕ))) → IsUtf8 bytes → AreTrimmedRecordsOf bytes records
    → (length records ≡ 0 → ⊥) → None ≡ missing_column (sheet_of records) columns → None ≡ ragged_row (sheet_of records) → IsTable bytes columns (sheet_of records)
table_here bytes columns records utf8 are some complete even =
    record { read = sheet_read bytes records utf8 are (omega arith); complete = complete_from (sheet_of records) columns (sym complete); even = even_from (sheet_of records) (sym even) }

pub only_fault : {A : Type 0} (bytes : List ℕ) (columns : List (List ℕ)) (a b : RowFault) → Breaks bytes columns a → Breaks bytes columns b
    → (◌≡◌ {A = Result A RowFault} (Err a) (Err b)) ⊎ (◌≡◌ {A = Result A RowFault} (Err a) (Err NoMemory))
only_fault {A} bytes columns a b h k = let same : a ≡ b = faults_are_one bytes columns a b h k in inl (ap (λ (x : RowFault). Err x) same)
