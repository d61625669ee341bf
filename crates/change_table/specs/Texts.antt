-- What the faults are printed as.
use Rattle.std.specs.Prelude.{ℕ, List, ◌++◌, codes}
use Rattle.std.specs.Fmt.{decimal}
use Rattle.change_table.specs.declared.fault.ChangeFault.{ChangeFault}
use Rattle.change_table.specs.declared.fault.ChangeFault.TheVariants as faults

-- the text of a fault
abbrev pub fault_text : ChangeFault → List ℕ
fault_text (faults.TooManyChanges count) = decimal count ++ codes " changes are too many"
fault_text faults.NoMemory = codes "no memory"
