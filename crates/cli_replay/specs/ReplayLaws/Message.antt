-- Which bytes are a message that a publisher may receive.
use Rattle.std.specs.Prelude.{◌≡◌, ◌<◌, ℕ, Bool, true, List, length, is_none}
use Rattle.trip_updates.specs.Faults.{fault_of}
use Rattle.version_store.specs.Admission.{IsBroken, IsShort}
use Rattle.version_store.specs.declared.message_fault.MessageFault.{MessageFault}
use Rattle.version_store.specs.declared.message_fault.MessageFault.TheVariants as messages

-- whether the bytes are a message
abbrev pub has_no_fault : List ℕ → Bool
has_no_fault bytes = is_none (fault_of bytes)

-- the bytes are a message, and not too many
pub record IsMessageText (bytes : List ℕ) : Type 0 where
  pub short : IsShort bytes
  pub whole : has_no_fault bytes ≡ true

-- why they are none; memory may run out
abbrev pub IsNoText : List ℕ → MessageFault → Type 0
IsNoText bytes (messages.TooLong count) = (16_777_216 < length bytes) × (count ≡ length bytes)
IsNoText bytes (messages.Broken fault) = IsBroken bytes fault
IsNoText bytes messages.NoMemory = Unit {0}
