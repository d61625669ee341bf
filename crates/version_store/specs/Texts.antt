-- What the faults of a store are printed as.
use Rattle.std.specs.Prelude.{ℕ, List, ◌++◌, codes}
use Rattle.std.specs.Fmt.{decimal}
use Rattle.lc_time.specs.Iso.{iso_text_of}
use Rattle.trip_updates.specs.Texts as messages
use Rattle.version_store.specs.declared.admission.AdmitFault.{AdmitFault}
use Rattle.version_store.specs.declared.admission.AdmitFault.TheVariants as faults

-- a fault in short, with its numbers; a broken message by its own fault
abbrev pub fault_text : AdmitFault → List ℕ
fault_text (faults.TooLong bytes) = codes "too large update " ++ decimal bytes
fault_text (faults.Broken fault) = messages.fault_text fault
fault_text (faults.NotNewer newest) = codes "ignored newest " ++ iso_text_of newest
fault_text (faults.Full messages bytes) = codes "ignored full " ++ decimal messages ++ codes " " ++ decimal bytes
fault_text faults.NoMemory = codes "no memory"
