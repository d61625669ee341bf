-- The columns of a table, by their names and by their places.
use Rattle.std.specs.Prelude.{◌≡◌, ℕ, ◌<◌, List, [], Option, IfSome, length, slice_index_or, unwrap_or, option_map}
use Rattle.gtfs_rows.specs.Sheet.{Sheet, column_of}

-- this is the place of the first column of this name, where there is one
pub record IsColumn (sheet : Sheet) (name : List ℕ) (column : Option ℕ) : Type 0 where
  pub place : column ≡ column_of sheet name
  pub within : IfSome column (λ c. c < length sheet.names)

-- the row at a place, counted from 0
abbrev pub row_at : Sheet → ℕ → List (List ℕ)
row_at sheet place = slice_index_or sheet.rows place []

-- the field of a row at the place of a column, empty where there is no such column
abbrev pub text_in : List (List ℕ) → Option ℕ → List ℕ
text_in row column = unwrap_or (option_map (λ c. slice_index_or row c []) column) []

-- the field of a row in the first column of this name, empty where there is no such column
abbrev pub text_at : Sheet → List (List ℕ) → List ℕ → List ℕ
text_at sheet row name = text_in row (column_of sheet name)
