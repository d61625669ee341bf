-- Where the bytes of a file are no table with the columns that are asked for. The faults come in order, each where the
-- tests before it pass and its own does not.
use Rattle.std.specs.Prelude.{◌≡◌, ℕ, List, [], Some, None}
use Rattle.std.specs.Str.{IsUtf8}
use Rattle.gtfs_rows.specs.Sheet.{AreRecordsOf, IsSheetOf, Sheet, missing_column, ragged_row}
use Rattle.gtfs_rows.specs.declared.fault.RowFault.{RowFault}
use Rattle.gtfs_rows.specs.declared.fault.RowFault.TheVariants.{NotUtf8, NoHeader, NoColumn, Ragged, NoMemory}

-- the bytes break this rule of a table with these columns, and none before it. Running out of memory is no rule
abbrev pub Breaks : List ℕ → List (List ℕ) → RowFault → Type 0
Breaks bytes columns NotUtf8 = ¬ (IsUtf8 bytes)
Breaks bytes columns NoHeader = IsUtf8 bytes × AreRecordsOf bytes []
Breaks bytes columns (NoColumn name) = (sheet : Sheet) × IsSheetOf bytes sheet × (missing_column sheet columns ≡ Some name)
Breaks bytes columns (Ragged row) =
    (sheet : Sheet) × IsSheetOf bytes sheet × (missing_column sheet columns ≡ None) × (ragged_row sheet ≡ Some row)
Breaks bytes columns NoMemory = ⊥
