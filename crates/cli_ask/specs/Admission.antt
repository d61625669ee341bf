-- What becomes of a realtime message that a publisher receives, and the line that says it.
use Rattle.std.specs.Prelude.{◌≡◌, ◌⊎◌, ◌<◌, ℕ, List, [], ◌++◌, length, Option, Some, None, codes, decimal}
use Rattle.lc_io.specs.declared.file.File.{File}
use Rattle.lc_time.specs.Iso.{iso_text_of}
use Rattle.trip_updates.specs.declared.fault.RtFault.{RtFault}
use Rattle.version_store.specs.Admission.{Admits, IsBroken, IsRefused}
use Rattle.version_store.specs.Store.{Stored}
use Rattle.version_store.specs.Texts.{fault_text}
use Rattle.version_store.specs.declared.admission.Admitted.{Admitted}
use Rattle.version_store.specs.declared.admission.AdmitFault.{AdmitFault}
use Rattle.version_store.specs.declared.admission.AdmitFault.TheVariants as faults
use Rattle.version_store.specs.declared.message_fault.MessageFault.{MessageFault}
use Rattle.version_store.specs.declared.message_fault.MessageFault.TheVariants as messages

-- `update {name} admitted {moment} passed {n}`
abbrev pub admitted_line_of : List ℕ → Admitted → List ℕ
admitted_line_of name admitted =
    codes "update " ++ name ++ codes " admitted " ++ iso_text_of admitted.moment ++ codes " passed " ++ decimal admitted.passed ++ codes "\n"

-- `update {name} ignored newest {moment}`, or `update {name} ignored full {messages} {bytes}`
abbrev pub ignored_line_of : List ℕ → AdmitFault → List ℕ
ignored_line_of name fault = codes "update " ++ name ++ codes " " ++ fault_text fault ++ codes "\n"

-- a message is ignored that is not newer, or for which there is no room; the other causes are faults of its file
abbrev pub IsIgnored : AdmitFault → Type 0
IsIgnored (faults.TooLong bytes) = ⊥
IsIgnored (faults.Broken fault) = ⊥
IsIgnored (faults.NotNewer newest) = Unit {0}
IsIgnored (faults.Full messages bytes) = Unit {0}
IsIgnored faults.NoMemory = ⊥

-- the message was admitted, and its line says so
pub record IsAdmitted (old new : Stored) (file : File) (line : List ℕ) : Type 0 where
  pub admitted : Admitted
  pub admits : Admits old new file.bytes admitted
  pub line_is : line ≡ admitted_line_of file.name admitted

-- the store refused the message and stays, and the line says why
pub record IsPassedOver (old new : Stored) (file : File) (line : List ℕ) : Type 0 where
  pub fault : AdmitFault
  pub refused : IsRefused old file.bytes fault
  pub ignored : IsIgnored fault
  pub same : new ≡ old
  pub line_is : line ≡ ignored_line_of file.name fault

-- the store and the line after the file of a message, or after none, of which no line is printed
abbrev pub IsBehind : Option File → Stored → Stored → List ℕ → Type 0
IsBehind None old new line = (new ≡ old) × (line ≡ [])
IsBehind (Some file) old new line = IsAdmitted old new file line ⊎ IsPassedOver old new file line

-- there is a file, and it has so many bytes, which are too many
pub record IsTooLong (file : Option File) (count : ℕ) : Type 0 where
  pub there : File
  pub is : file ≡ Some there
  pub long : 16_777_216 < length there.bytes
  pub counted : count ≡ length there.bytes

-- there is a file, which is no message, and this is the first fault in it
pub record IsNoMessage (file : Option File) (fault : RtFault) : Type 0 where
  pub there : File
  pub is : file ≡ Some there
  pub broken : IsBroken there.bytes fault

-- why a publisher does not receive a file as a message; memory may run out
abbrev pub IsFaulty : Option File → MessageFault → Type 0
IsFaulty file (messages.TooLong count) = IsTooLong file count
IsFaulty file (messages.Broken fault) = IsNoMessage file fault
IsFaulty file messages.NoMemory = Unit {0}

-- the fault of the file by which a message is refused, where it is not ignored; memory may run out
abbrev pub IsFaultBy : AdmitFault → MessageFault → Type 0
IsFaultBy refusal (messages.TooLong count) = refusal ≡ faults.TooLong count
IsFaultBy refusal (messages.Broken fault) = refusal ≡ faults.Broken fault
IsFaultBy refusal messages.NoMemory = Unit {0}
