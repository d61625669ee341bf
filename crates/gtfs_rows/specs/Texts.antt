-- What a fault is printed as.
use Rattle.std.specs.Prelude.{ℕ, List, ◌++◌, codes}
use Rattle.std.specs.Fmt.{decimal}
use Rattle.gtfs_rows.specs.declared.fault.RowFault.{RowFault}
use Rattle.gtfs_rows.specs.declared.fault.RowFault.TheVariants as faults

-- the text of a fault
abbrev pub fault_text : RowFault → List ℕ
fault_text faults.NotUtf8 = codes "not UTF-8"
fault_text faults.NoHeader = codes "no header"
fault_text (faults.NoColumn name) = codes "no column " ++ name
fault_text (faults.Ragged row) = codes "row " ++ decimal row ++ codes " is ragged"
fault_text faults.NoMemory = codes "no memory"
