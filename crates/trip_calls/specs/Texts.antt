-- What the faults are printed as.
use Rattle.std.specs.Prelude.{ℕ, List, ◌++◌, codes}
use Rattle.std.specs.Fmt.{decimal}
use Rattle.trip_calls.specs.declared.load_fault.LoadFault.{LoadFault}
use Rattle.trip_calls.specs.declared.load_fault.LoadFault.TheVariants as faults

-- the text of a fault
abbrev pub fault_text : LoadFault → List ℕ
fault_text (faults.TooManyConnections count) = decimal count ++ codes " connections are too many"
fault_text faults.NoMemory = codes "no memory"
