-- What a fault is printed as.
use Rattle.std.specs.Prelude.{ℕ, List, ◌++◌, codes}
use Rattle.std.specs.Fmt.{decimal}
use Rattle.journey_text.specs.declared.script_fault.ScriptFault.{ScriptFault}
use Rattle.journey_text.specs.declared.script_fault.ScriptFault.TheVariants as faults

-- the text of a fault
abbrev pub fault_text : ScriptFault → List ℕ
fault_text (faults.Wrong row) = codes "row " ++ decimal row ++ codes " is no record"
fault_text faults.NoMemory = codes "no memory"
