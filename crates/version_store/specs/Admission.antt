-- Which messages a store takes, and why it refuses the others.
use Rattle.std.specs.Prelude.{◌≡◌, ◌⊎◌, ℕ, ◌+◌, ◌<◌, ◌≤◌, List, [], ◌∷◌, ◌++◌, length, Some}
use Rattle.lc_model.specs.Versions.History.{Entry}
use Rattle.lc_model.specs.declared.versions.update.Update.{Update}
use Rattle.trip_updates.specs.Faults.{fault_of}
use Rattle.trip_updates.specs.Message.{IsMessage}
use Rattle.trip_updates.specs.declared.fault.RtFault.{RtFault}
use Rattle.version_store.specs.Store.{Stored, bytes_of, entry_of, newest_of}
use Rattle.version_store.specs.declared.admission.Admitted.{Admitted}
use Rattle.version_store.specs.declared.admission.AdmitFault.{AdmitFault}
use Rattle.version_store.specs.declared.admission.AdmitFault.TheVariants as faults

-- 16 MiB, the most bytes of a message
abbrev pub IsShort : List ℕ → Type 0
IsShort bytes = length bytes ≤ 16_777_216

-- 10,000 messages are there, or with these bytes all have more than 256 MiB
abbrev pub IsFullFor : List Entry → ℕ → Type 0
IsFullFor history bytes = (10_000 ≤ length history) ⊎ (268_435_456 < bytes_of history + bytes)

-- there is room for one message more, and for its bytes
pub record HasRoom (history : List Entry) (bytes : ℕ) : Type 0 where
  pub for_one : length history < 10_000
  pub for_bytes : bytes_of history + bytes ≤ 268_435_456

-- the bytes are a message that the store takes
pub record IsTaken (store : Stored) (bytes : List ℕ) (update : Update) : Type 0 where
  pub short : IsShort bytes
  pub message : IsMessage bytes update
  pub newer : newest_of store < update.moment
  pub room : HasRoom store.history (length bytes)

-- the message is at the end of the history, and nothing else changed
pub record Admits (old new : Stored) (bytes : List ℕ) (admitted : Admitted) : Type 0 where
  pub update : Update
  pub taken : IsTaken old bytes update
  pub moment : admitted.moment ≡ update.moment
  pub passed : admitted.passed ≡ update.passed
  pub appended : new ≡ record old { history = old.history ++ entry_of update (length bytes) ∷ [] }

-- the bytes are no message, and this is the first fault in them
pub record IsBroken (bytes : List ℕ) (fault : RtFault) : Type 0 where
  pub short : IsShort bytes
  pub first : fault_of bytes ≡ Some fault

-- the message is of a moment at or before the newest version
pub record IsNotNewer (store : Stored) (bytes : List ℕ) (newest : ℕ) : Type 0 where
  pub short : IsShort bytes
  pub update : Update
  pub message : IsMessage bytes update
  pub not_newer : update.moment ≤ newest_of store
  pub newest_is : newest ≡ newest_of store

-- the message is newer, and there is no room for it
pub record HasNoRoom (store : Stored) (bytes : List ℕ) (messages kept : ℕ) : Type 0 where
  pub short : IsShort bytes
  pub update : Update
  pub message : IsMessage bytes update
  pub newer : newest_of store < update.moment
  pub full : IsFullFor store.history (length bytes)
  pub messages_are : messages ≡ length store.history
  pub bytes_are : kept ≡ bytes_of store.history

-- the cause of each refusal; none has running out of memory
abbrev pub IsRefused : Stored → List ℕ → AdmitFault → Type 0
IsRefused store bytes (faults.TooLong count) = (16_777_216 < length bytes) × (count ≡ length bytes)
IsRefused store bytes (faults.Broken fault) = IsBroken bytes fault
IsRefused store bytes (faults.NotNewer newest) = IsNotNewer store bytes newest
IsRefused store bytes (faults.Full messages kept) = HasNoRoom store bytes messages kept
IsRefused store bytes faults.NoMemory = ⊥

-- what reading the bytes answers: the first fault in them, or that memory ran out
abbrev pub IsReadFault : List ℕ → AdmitFault → Type 0
IsReadFault bytes (faults.TooLong count) = ⊥
IsReadFault bytes (faults.Broken fault) = fault_of bytes ≡ Some fault
IsReadFault bytes (faults.NotNewer newest) = ⊥
IsReadFault bytes (faults.Full messages kept) = ⊥
IsReadFault bytes faults.NoMemory = Unit {0}

-- there is no room for so many bytes more, and these are the messages and their bytes
pub record IsFull (store : Stored) (update : Update) (bytes messages kept : ℕ) : Type 0 where
  pub newer : newest_of store < update.moment
  pub full : IsFullFor store.history bytes
  pub messages_are : messages ≡ length store.history
  pub bytes_are : kept ≡ bytes_of store.history

-- the store refuses a message of so many bytes for this
abbrev pub Refuses : Stored → Update → ℕ → AdmitFault → Type 0
Refuses store update bytes (faults.TooLong count) = ⊥
Refuses store update bytes (faults.Broken fault) = ⊥
Refuses store update bytes (faults.NotNewer newest) = (update.moment ≤ newest_of store) × (newest ≡ newest_of store)
Refuses store update bytes (faults.Full messages kept) = IsFull store update bytes messages kept
Refuses store update bytes faults.NoMemory = ⊥
