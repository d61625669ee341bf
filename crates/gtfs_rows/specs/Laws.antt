-- Bytes say one table, or break one rule first.
use Rattle.std.specs.Prelude.{◌≡◌, ℕ, List}
use Rattle.gtfs_rows.specs.Fault.{Breaks}
use Rattle.gtfs_rows.specs.Sheet.{IsSheetOf, IsTable, Sheet}
use Rattle.gtfs_rows.specs.declared.fault.RowFault.{RowFault}

-- two sheets of the same bytes are one
abbrev pub OneSheet : Type 0
OneSheet = (bytes : List ℕ) (a b : Sheet) → IsSheetOf bytes a → IsSheetOf bytes b → a ≡ b

-- two first faults of the same bytes are one
abbrev pub OneFault : Type 0
OneFault = (bytes : List ℕ) (columns : List (List ℕ)) (a b : RowFault) → Breaks bytes columns a → Breaks bytes columns b → a ≡ b

-- bytes that are a table have no fault
abbrev pub NeverBoth : Type 0
NeverBoth = (bytes : List ℕ) (columns : List (List ℕ)) (sheet : Sheet) (fault : RowFault) → IsTable bytes columns sheet → Breaks bytes columns fault → ⊥
