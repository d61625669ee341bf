-- What the bytes of a CSV text say as a table (GTFS Schedule Reference, "File requirements").
use Rattle.std.specs.Prelude.{All, IsSome, ℕ, ◌+◌, ◌-◌, ◌≡◌, ◌==◌, List, [], ◌∷◌, Option, option_map, map, length, not, is_none, slice_index_or, position}
use Rattle.std.specs.Borrow.{Bor}
use Rattle.std.specs.List.{find}
use Rattle.std.specs.Str.{IsUtf8, bytes_eq}
use Rattle.csv.specs.Reading.{AreRecords, default_config, strip_bom}
use Rattle.csv.specs.declared.parser.State.TheVariants as st
use Rattle.gtfs_rows.specs.Spaces.{without_spaces}

-- a table as its reader sees it: the names of its columns, and its rows of fields
pub record Sheet : Type 0 where
  pub names : List (List ℕ)
  pub rows : List (List (List ℕ))

-- The records of the bytes, as `csv` has them with its default settings. Fields are parted by commas and may be quoted.
-- Records end with CR, LF or CRLF. Empty lines are passed over. A byte-order mark at the start is dropped.
abbrev pub AreRecordsOf : List ℕ → List (List (List ℕ)) → Type 0
AreRecordsOf bytes records = AreRecords default_config st.StartRecord (strip_bom bytes) records

-- the records of the bytes, without the spaces at both ends of each field
abbrev pub AreTrimmedRecordsOf : List ℕ → List (List (List ℕ)) → Type 0
AreTrimmedRecordsOf bytes records = (read : List (List (List ℕ))) × AreRecordsOf bytes read × (records ≡ map (map without_spaces) read)

-- The bytes are UTF-8, their first record is the header, and this is their sheet. The spaces at both ends of a name
-- or a field are dropped.
pub record IsSheetOf (bytes : List ℕ) (sheet : Sheet) : Type 0 where
  pub utf8 : IsUtf8 bytes
  pub header : List (List ℕ)
  pub records : List (List (List ℕ))
  pub read : AreRecordsOf bytes (header ∷ records)
  pub names : sheet.names ≡ map without_spaces header
  pub rows : sheet.rows ≡ map (map without_spaces) records

-- the place, from 0, of the first column with this name
abbrev pub column_of : Sheet → List ℕ → Option ℕ
column_of sheet name = position (λ column. bytes_eq column name) sheet.names

-- the field at a place of the rows and a place of the columns, both from 0
abbrev pub field_at : Sheet → ℕ → ℕ → List ℕ
field_at sheet place column = slice_index_or (slice_index_or sheet.rows place []) column []

-- the field of a row, counted from 1, in the column of this name; none where there is no such column
abbrev pub field_of : Sheet → ℕ → List ℕ → Option (List ℕ)
field_of sheet row name = option_map (λ column. field_at sheet (row - 1) column) (column_of sheet name)

-- the names that references point to
abbrev pub names_of : List (Bor (List ℕ)) → List (List ℕ)
names_of columns = map (λ (name : Bor (List ℕ)). name.now) columns

-- the first of these columns that the sheet does not have
abbrev pub missing_column : Sheet → List (List ℕ) → Option (List ℕ)
missing_column sheet columns = find (λ column. is_none (column_of sheet column)) columns

-- the first row, counted from 1, that has another number of fields than the header
abbrev pub ragged_row : Sheet → Option ℕ
ragged_row sheet = option_map (λ place. place + 1) (position (λ row. not (length row == length sheet.names)) sheet.rows)

-- The bytes are a table with these columns, and this is its sheet. Each column is there, and each row has as many
-- fields as there are columns.
pub record IsTable (bytes : List ℕ) (columns : List (List ℕ)) (sheet : Sheet) : Type 0 where
  pub read : IsSheetOf bytes sheet
  pub complete : All (λ column. IsSome (column_of sheet column)) columns
  pub even : All (λ row. length row ≡ length sheet.names) sheet.rows
