use Rattle.std.proofs.Common.{◌≡◌, drop}
use Rattle.gtfs_rows.specs.Sheet.{missing_column, names_of}
use Rattle.gtfs_rows.specs.Store.{sheet_of}
use Rattle.gtfs_rows.proofs.records.Records.missing.Given as goal

abbrev pub invariant-columns : goal.invariant-columns
invariant-columns l =
    missing_column (sheet_of l.self) (drop l.name-index (names_of l.columns)) ≡ missing_column (sheet_of l.self) (names_of l.columns)
