-- A file whose rows have no limit, as a table with rules for its rows. What holds where no rule is broken, and where one
-- is.
use Rattle.std.specs.Prelude.{ℕ, ◌⊎◌, List, Option, length}
use Rattle.gtfs_rows.specs.Sheet.{IsTable, Sheet}
use Rattle.gtfs_tables.specs.Fields.Rules.{IsUnbroken}
use Rattle.gtfs_tables.specs.Fields.Table.{BreaksTable, IsRowFault}
use Rattle.gtfs_tables.specs.declared.fields.fault.FileFault.{FileFault}
use Rattle.gtfs_tables.specs.declared.fields.fault.FileFault.TheVariants.{Broken, TooMany, NoMemory}

-- the bytes are a table with these columns, and none of its rows breaks a rule
pub record IsSoundTable (columns : List (List ℕ)) (rule_at : Sheet → ℕ → Option ℕ) (bytes : List ℕ) (sheet : Sheet) : Type 0 where
  pub table : IsTable bytes columns sheet
  pub unbroken : IsUnbroken (rule_at sheet) (length sheet.rows)

-- The bytes are no table with these columns, and this is why. Running out of memory is no cause.
abbrev pub IsNoTable : List (List ℕ) → List ℕ → FileFault → Type 0
IsNoTable columns bytes (Broken rule row) = BreaksTable columns bytes rule row
IsNoTable columns bytes (TooMany count) = ⊥
IsNoTable columns bytes NoMemory = ⊥

-- the bytes are a table with these columns, but a row breaks a rule, and the first is reported
pub record HasBrokenRow (columns : List (List ℕ)) (rule_at : Sheet → ℕ → Option ℕ) (bytes : List ℕ) (fault : FileFault) : Type 0 where
  pub sheet : Sheet
  pub table : IsTable bytes columns sheet
  pub first : IsRowFault (rule_at sheet) (length sheet.rows) fault

-- what is wrong first with a file: it is no such table, or one of its rows breaks a rule
abbrev pub IsFirstFault : List (List ℕ) → (Sheet → ℕ → Option ℕ) → List ℕ → FileFault → Type 0
IsFirstFault columns rule_at bytes fault = IsNoTable columns bytes fault ⊎ HasBrokenRow columns rule_at bytes fault
