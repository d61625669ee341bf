-- What a fault is printed as.
use Rattle.std.specs.Prelude.{ℕ, List, ◌++◌, codes}
use Rattle.std.specs.Fmt.{decimal}
use Rattle.gtfs_tables.specs.declared.fields.fault.FileFault.{FileFault}
use Rattle.gtfs_tables.specs.declared.fields.fault.FileFault.TheVariants as faults

-- the text of a fault
abbrev pub fault_text : FileFault → List ℕ
fault_text (faults.Broken rule row) = codes "rule " ++ decimal rule ++ codes " in row " ++ decimal row
fault_text (faults.TooMany count) = codes "too many rows: " ++ decimal count
fault_text faults.NoMemory = codes "no memory"
