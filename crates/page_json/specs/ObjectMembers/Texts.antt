-- What a fault is printed as.
use Rattle.std.specs.Prelude.{ℕ, List, ◌++◌, codes}
use Rattle.std.specs.Fmt.{decimal}
use Rattle.page_json.specs.declared.object_members.fault.PageFault.{PageFault}
use Rattle.page_json.specs.declared.object_members.fault.PageFault.TheVariants as faults

-- the text of a fault
abbrev pub fault_text : PageFault → List ℕ
fault_text faults.NotJson = codes "not JSON"
fault_text (faults.NoMember name) = codes "no member " ++ name
fault_text (faults.BadMember name) = codes "bad member " ++ name
fault_text (faults.NotOrdered place) = codes "item " ++ decimal place ++ codes " is not in order"
fault_text faults.NoMemory = codes "no memory"
