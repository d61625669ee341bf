-- A file as a table with rules for its rows: what holds where no rule is broken, and where one is.
use Rattle.std.specs.Prelude.{◌≡◌, ℕ, ◌+◌, ◌<◌, ◌≤◌, ◌⊎◌, List, Option, Some, None, length}
use Rattle.gtfs_rows.specs.Fault.{Breaks}
use Rattle.gtfs_rows.specs.Sheet.{IsTable, Sheet}
use Rattle.gtfs_rows.specs.declared.fault.RowFault.{RowFault}
use Rattle.gtfs_rows.specs.declared.fault.RowFault.TheVariants as row_faults
use Rattle.gtfs_tables.specs.Fields.Rules.{IsFirstBroken, IsUnbroken}
use Rattle.gtfs_tables.specs.declared.fields.fault.FileFault.{FileFault}
use Rattle.gtfs_tables.specs.declared.fields.fault.FileFault.TheVariants.{Broken, TooMany, NoMemory}

-- the bytes are a table with these columns, of at most so many rows
pub record IsSmallTable (columns : List (List ℕ)) (most : ℕ) (bytes : List ℕ) (sheet : Sheet) : Type 0 where
  pub table : IsTable bytes columns sheet
  pub small : length sheet.rows ≤ most

-- The rule that a fault of the rows breaks, and its row. It is 2 where the bytes are not UTF-8, 3 without a header, 4 where a
-- column is missing. It is 5 where a row has another number of fields than the header. Row 0 is the file as a whole.
abbrev pub rule_of_fault : RowFault → Option (ℕ × ℕ)
rule_of_fault row_faults.NotUtf8 = Some (2, 0)
rule_of_fault row_faults.NoHeader = Some (3, 0)
rule_of_fault (row_faults.NoColumn name) = Some (4, 0)
rule_of_fault (row_faults.Ragged row) = Some (5, row)
rule_of_fault row_faults.NoMemory = None

-- how a fault of the rows is reported
abbrev pub IsFaultOf : RowFault → FileFault → Type 0
IsFaultOf found (Broken rule row) = rule_of_fault found ≡ Some (rule, row)
IsFaultOf found (TooMany count) = ⊥
IsFaultOf found NoMemory = found ≡ row_faults.NoMemory

-- the bytes are no table with these columns, and this is the first rule of a table that they break
pub record BreaksTable (columns : List (List ℕ)) (bytes : List ℕ) (rule row : ℕ) : Type 0 where
  pub fault : RowFault
  pub breaks : Breaks bytes columns fault
  pub numbered : rule_of_fault fault ≡ Some (rule, row)

-- the bytes are a table with these columns, but this is the number of its rows, which is above the limit
pub record IsTooLong (columns : List (List ℕ)) (most : ℕ) (bytes : List ℕ) (count : ℕ) : Type 0 where
  pub sheet : Sheet
  pub table : IsTable bytes columns sheet
  pub long : most < length sheet.rows
  pub counted : count ≡ length sheet.rows

-- The bytes are no table with these columns of at most so many rows, and this is why. Running out of memory is no cause.
abbrev pub IsTableFault : List (List ℕ) → ℕ → List ℕ → FileFault → Type 0
IsTableFault columns most bytes (Broken rule row) = BreaksTable columns bytes rule row
IsTableFault columns most bytes (TooMany count) = IsTooLong columns most bytes count
IsTableFault columns most bytes NoMemory = ⊥

-- Of the rows of a sheet, each of which breaks a rule or none, the first that breaks one is reported, counted from 1.
abbrev pub IsRowFault : (ℕ → Option ℕ) → ℕ → FileFault → Type 0
IsRowFault rule_at count (Broken rule row) = (place : ℕ) × IsFirstBroken rule_at count place rule × (row ≡ place + 1)
IsRowFault rule_at count (TooMany rows) = ⊥
IsRowFault rule_at count NoMemory = ⊥

-- The bytes are a table with these columns of at most so many rows, but a row breaks a rule, and the first is reported.
pub record BreaksRow (columns : List (List ℕ)) (most : ℕ) (rule_at : Sheet → ℕ → Option ℕ) (bytes : List ℕ) (fault : FileFault) : Type 0 where
  pub sheet : Sheet
  pub table : IsSmallTable columns most bytes sheet
  pub first : IsRowFault (rule_at sheet) (length sheet.rows) fault

-- What is wrong first with a file: it is no such table, or one of its rows breaks a rule.
abbrev pub IsFileFault : List (List ℕ) → ℕ → (Sheet → ℕ → Option ℕ) → List ℕ → FileFault → Type 0
IsFileFault columns most rule_at bytes fault = IsTableFault columns most bytes fault ⊎ BreaksRow columns most rule_at bytes fault

-- the bytes are a table with these columns of at most so many rows, and none of its rows breaks a rule
pub record IsSound (columns : List (List ℕ)) (most : ℕ) (rule_at : Sheet → ℕ → Option ℕ) (bytes : List ℕ) (sheet : Sheet) : Type 0 where
  pub table : IsSmallTable columns most bytes sheet
  pub unbroken : IsUnbroken (rule_at sheet) (length sheet.rows)
