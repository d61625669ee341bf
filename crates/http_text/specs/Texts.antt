-- What a fault of a reply is printed as.
use Rattle.std.specs.Prelude.{ℕ, List, ◌++◌, codes}
use Rattle.std.specs.Fmt.{decimal}
use Rattle.http_text.specs.declared.reply_fault.ReplyFault.{ReplyFault}
use Rattle.http_text.specs.declared.reply_fault.ReplyFault.TheVariants as faults

-- the text of a fault
abbrev pub fault_text : ReplyFault → List ℕ
fault_text faults.Head = codes "no head of a reply"
fault_text faults.LongHead = codes "too long a head"
fault_text faults.Chunked = codes "a body in another encoding"
fault_text faults.BadLength = codes "a wrong length"
fault_text (faults.Cut wanted got) = decimal got ++ codes " bytes of a body of " ++ decimal wanted
fault_text faults.NoMemory = codes "no memory"
