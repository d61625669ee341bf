-- What a fault is printed as.
use Rattle.std.specs.Prelude.{ℕ, List, codes}
use Rattle.csa_scan.specs.declared.fault.BeginFault.{BeginFault}
use Rattle.csa_scan.specs.declared.fault.BeginFault.TheVariants as faults

-- the text of a fault
abbrev pub fault_text : BeginFault → List ℕ
fault_text faults.UnknownFrom = codes "unknown from"
fault_text faults.UnknownTo = codes "unknown to"
fault_text faults.NoMemory = codes "no memory"
