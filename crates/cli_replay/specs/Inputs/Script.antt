-- What a command with a script reads. It is the script, then the timetable of its feed, and then the files of the messages that the script
-- names, in its order. Each is tested before the next one is asked for.
use Rattle.std.specs.Prelude.{◌≡◌, ◌⊎◌, ◌<◌, ℕ, ◌+◌, Bool, true, List, [], ◌∷◌, ◌++◌, Result, Ok, Err, length}
use Rattle.gtfs_tables.specs.Reading.{Keeps}
use Rattle.lc_io.specs.Counts.{Rose}
use Rattle.lc_io.specs.Folder.{FolderSeen}
use Rattle.lc_io.specs.declared.folder.FolderFail.{FolderFail}
use Rattle.lc_io.specs.declared.folder.FolderFail.TheVariants.{Absent, Failed}
use Rattle.cli_replay.specs.declared.replay_laws.event.Event.{Event}
use Rattle.cli_replay.specs.declared.replay_laws.event.Event.TheVariants as events
use Rattle.journey_text.specs.ScriptReading.{HasFault, SaysScript}
use Rattle.journey_text.specs.declared.script_fault.ScriptFault.TheVariants.{Wrong}
use Rattle.journey_text.specs.declared.script.Record.{Record}
use Rattle.journey_text.specs.declared.script.Record.TheVariants as records
use Rattle.timetable.specs.Loading.{FailsAt, Loads, LoadsSo}
use Rattle.timetable.specs.declared.fault.LoadFault.{LoadFault}
use Rattle.timetable.specs.declared.fault.LoadFault.TheVariants as fault
use Rattle.timetable.specs.declared.scope.Scope.{Scope}
use Rattle.timetable.specs.declared.timetable.Timetable.{Timetable}
use Rattle.version_store.specs.Admission.{IsBroken}
use Rattle.cli_replay.specs.Inputs.Inputs.{IsReadAs, ReadsFile}
use Rattle.cli_replay.specs.declared.inputs.refusal.Refusal.{Refusal}
use Rattle.cli_replay.specs.declared.inputs.refusal.Refusal.TheVariants.{Usage, Load, Script, Folder, LongUpdate, BrokenUpdate}

-- the file of this name was read, and says this script, where messages may be named or not
pub record ReadsScript (updates : Bool) (name : List ℕ) (old new : FolderSeen) (script : List Record) : Type 0 where
  pub bytes : List ℕ
  pub read : ReadsFile old new name (Ok bytes)
  pub says : SaysScript bytes updates script

-- what the record says as an event; the file of a message was read
abbrev pub IsEventOf : Record → FolderSeen → FolderSeen → Event → Type 0
IsEventOf (records.Ask query) old new (events.Ask asked) = (asked ≡ query) × (new ≡ old)
IsEventOf (records.Ask query) old new (events.Message message) = ⊥
IsEventOf (records.Ask query) old new (events.Turn client) = ⊥
IsEventOf (records.Update name) old new (events.Ask asked) = ⊥
IsEventOf (records.Update name) old new (events.Message message) = IsReadAs name old new message.file
IsEventOf (records.Update name) old new (events.Turn client) = ⊥
IsEventOf (records.Turn client) old new (events.Ask asked) = ⊥
IsEventOf (records.Turn client) old new (events.Message message) = ⊥
IsEventOf (records.Turn client) old new (events.Turn turned) = (turned ≡ client) × (new ≡ old)

-- the events are those of the records, one after the other
abbrev pub ReadsEvents : List Record → FolderSeen → FolderSeen → List Event → Type 0
ReadsEvents [] old new [] = new ≡ old
ReadsEvents [] old new (event ∷ all) = ⊥
ReadsEvents (said ∷ script) old new [] = ⊥
ReadsEvents (said ∷ script) old new (event ∷ more) = (between : FolderSeen) × IsEventOf said old between event × ReadsEvents script between new more

-- the script was read
pub record HasScript (name : List ℕ) (old new : FolderSeen) : Type 0 where
  pub script : List Record
  pub read : ReadsScript true name old new script
  pub kept : Keeps old new

-- the script was read, and then the timetable was loaded
pub record HasTimetable (scope : Scope) (name : List ℕ) (old new : FolderSeen) : Type 0 where
  pub between : FolderSeen
  pub script : HasScript name old between
  pub made : Timetable
  pub loaded : Loads scope between new made
  pub kept : Keeps between new

-- all was read
pub record ReadsReplay (scope : Scope) (name : List ℕ) (old new : FolderSeen) (made : Timetable) (all : List Event) : Type 0 where
  pub between : FolderSeen
  pub has : HasTimetable scope name old between
  pub made_is : made ≡ has.made
  pub read : ReadsEvents has.script.script between new all

-- a row of the script is no record, where messages may be named or not
pub record HasWrongRow (updates : Bool) (name : List ℕ) (old new : FolderSeen) (row : ℕ) : Type 0 where
  pub bytes : List ℕ
  pub read : ReadsFile old new name (Ok bytes)
  pub wrong : HasFault bytes updates (Wrong row)

-- the script is absent, which is reported as row 0
pub record LacksScript (name : List ℕ) (old new : FolderSeen) (row : ℕ) : Type 0 where
  pub read : ReadsFile old new name (Err Absent)
  pub row_is : row ≡ 0

-- the script was read, and then the loading of the timetable ended with this fault
pub record FailsToLoad (scope : Scope) (name : List ℕ) (old new : FolderSeen) (found : LoadFault) : Type 0 where
  pub between : FolderSeen
  pub script : HasScript name old between
  pub ended : LoadsSo scope between new (Err found)

-- the fault of a loading, where the directory's count was this at the start
abbrev pub fault_since : ℕ → LoadFault → LoadFault
fault_since count (fault.Broken rule file row) = fault.Broken rule file row
fault_since count (fault.TooLarge what many) = fault.TooLarge what many
fault_since count (fault.Folder before after) = fault.Folder count after
fault_since count fault.NoMemory = fault.NoMemory

-- the script was read, and then a file of the zone or of the feed could not be read
pub record FailsAtFeed (scope : Scope) (name : List ℕ) (old new : FolderSeen) : Type 0 where
  pub between : FolderSeen
  pub script : HasScript name old between
  pub fails : FailsAt scope between new

-- the event is the message of a file of this name with these bytes
abbrev pub IsMessageOf : List ℕ → List ℕ → Event → Type 0
IsMessageOf name bytes (events.Ask asked) = ⊥
IsMessageOf name bytes (events.Message message) = (message.file.name ≡ name) × (message.file.bytes ≡ bytes)
IsMessageOf name bytes (events.Turn client) = ⊥

-- the bytes of a file of this name are no message, for this cause; memory may run out
abbrev pub IsNone : List ℕ → List ℕ → Refusal → Type 0
IsNone name bytes Usage = ⊥
IsNone name bytes (Load (fault.Broken rule file at)) = ⊥
IsNone name bytes (Load (fault.TooLarge what many)) = ⊥
IsNone name bytes (Load (fault.Folder before after)) = ⊥
IsNone name bytes (Load fault.NoMemory) = Unit {0}
IsNone name bytes (Script at) = ⊥
IsNone name bytes (Folder before after) = ⊥
IsNone name bytes (LongUpdate many) = (16_777_216 < length bytes) × (many ≡ length bytes)
IsNone name bytes (BrokenUpdate broken found) = (broken ≡ name) × IsBroken bytes found

-- memory ran out at the record: the directory was not asked for its file, or it was, with this end
abbrev pub RunsOutAt : Record → FolderSeen → FolderSeen → Type 0
RunsOutAt said old new =
    (new ≡ old) ⊎ ((name : List ℕ) × (result : Result (List ℕ) FolderFail) × (said ≡ records.Update name) × ReadsFile old new name result)

-- The record in this row is no event, for this cause, where the count of faults was this at the start. It names a file that is absent or
-- cannot be read, or that is no message. Or memory ran out.
abbrev pub IsRefusedAt : ℕ → ℕ → Record → FolderSeen → FolderSeen → Refusal → Type 0
IsRefusedAt count row said old new Usage = ⊥
IsRefusedAt count row said old new (Load (fault.Broken rule file at)) = ⊥
IsRefusedAt count row said old new (Load (fault.TooLarge what many)) = ⊥
IsRefusedAt count row said old new (Load (fault.Folder before after)) = ⊥
IsRefusedAt count row said old new (Load fault.NoMemory) = RunsOutAt said old new
IsRefusedAt count row said old new (Script at) = (at ≡ row) × (name : List ℕ) × (said ≡ records.Update name) × ReadsFile old new name (Err Absent)
IsRefusedAt count row said old new (Folder before after) =
    (before ≡ count) × (after ≡ new.faults) × (name : List ℕ) × (said ≡ records.Update name) × ReadsFile old new name (Err Failed)
IsRefusedAt count row said old new (LongUpdate many) =
    (name : List ℕ) × (bytes : List ℕ) × (said ≡ records.Update name) × ReadsFile old new name (Ok bytes) × (16_777_216 < length bytes) × (many ≡ length bytes)
IsRefusedAt count row said old new (BrokenUpdate name found) =
    (bytes : List ℕ) × (said ≡ records.Update name) × ReadsFile old new name (Ok bytes) × IsBroken bytes found

-- the records before one are events, and this one is none, for this cause; rows are counted from 1
pub record StopsAt (count : ℕ) (script : List Record) (old new : FolderSeen) (refusal : Refusal) : Type 0 where
  pub before : List Record
  pub said : Record
  pub behind : List Record
  pub parts : script ≡ before ++ said ∷ behind
  pub at : FolderSeen
  pub done : List Event
  pub read : ReadsEvents before old at done
  pub kept : Keeps old at
  pub refused : IsRefusedAt count (length before + 1) said at new refusal

-- the script and the timetable were read, and then a record of the script is no event
pub record StopsAtRecord (scope : Scope) (name : List ℕ) (old new : FolderSeen) (refusal : Refusal) : Type 0 where
  pub between : FolderSeen
  pub has : HasTimetable scope name old between
  pub stops : StopsAt old.faults has.script.script between new refusal

-- the directory's count increased, from the one to the other
pub record IsFolderFault (old new : FolderSeen) (before after : ℕ) : Type 0 where
  pub before_is : before ≡ old.faults
  pub after_is : after ≡ new.faults
  pub rose : Rose before after

-- the script could not be read
abbrev pub FailsAtScript : List ℕ → FolderSeen → FolderSeen → Type 0
FailsAtScript name old new = ReadsFile old new name (Err Failed)

-- memory ran out at the script, which was asked for, with this end, or after it
abbrev pub RunsOutAtScript : List ℕ → FolderSeen → FolderSeen → Type 0
RunsOutAtScript name old new = (result : Result (List ℕ) FolderFail) × ReadsFile old new name result

-- why a script is refused: it is absent, a row of it is no record, or it could not be read; or memory ran out
abbrev pub IsScriptRefused : Bool → List ℕ → FolderSeen → FolderSeen → Refusal → Type 0
IsScriptRefused updates name old new Usage = ⊥
IsScriptRefused updates name old new (Load (fault.Broken rule file row)) = ⊥
IsScriptRefused updates name old new (Load (fault.TooLarge what count)) = ⊥
IsScriptRefused updates name old new (Load (fault.Folder before after)) = ⊥
IsScriptRefused updates name old new (Load fault.NoMemory) = RunsOutAtScript name old new
IsScriptRefused updates name old new (Script row) = LacksScript name old new row ⊎ HasWrongRow updates name old new row
IsScriptRefused updates name old new (Folder before after) = IsFolderFault old new before after × FailsAtScript name old new
IsScriptRefused updates name old new (LongUpdate count) = ⊥
IsScriptRefused updates name old new (BrokenUpdate message found) = ⊥

-- all was read
pub record HasReplay (scope : Scope) (name : List ℕ) (old new : FolderSeen) : Type 0 where
  pub made : Timetable
  pub all : List Event
  pub read : ReadsReplay scope name old new made all

-- memory ran out: at the script, or then in the loading, or then at a record of the script, or after all the reading
abbrev pub RunsOutOnTheWay : Scope → List ℕ → FolderSeen → FolderSeen → Type 0
RunsOutOnTheWay scope name old new =
    RunsOutAtScript name old new ⊎ FailsToLoad scope name old new fault.NoMemory ⊎ StopsAtRecord scope name old new (Load fault.NoMemory) ⊎ HasReplay scope name old new

-- why a command with a script is refused, each cause in its turn: the script, the feed, the messages; or memory ran out
abbrev pub IsReplayRefused : Scope → List ℕ → FolderSeen → FolderSeen → Refusal → Type 0
IsReplayRefused scope name old new Usage = ⊥
IsReplayRefused scope name old new (Load (fault.Broken rule file row)) = FailsToLoad scope name old new (fault.Broken rule file row)
IsReplayRefused scope name old new (Load (fault.TooLarge what count)) = FailsToLoad scope name old new (fault.TooLarge what count)
IsReplayRefused scope name old new (Load (fault.Folder before after)) = IsFolderFault old new before after × FailsAtFeed scope name old new
IsReplayRefused scope name old new (Load fault.NoMemory) = RunsOutOnTheWay scope name old new
IsReplayRefused scope name old new (Script row) = LacksScript name old new row ⊎ HasWrongRow true name old new row ⊎ StopsAtRecord scope name old new (Script row)
IsReplayRefused scope name old new (Folder before after) =
    IsFolderFault old new before after × (FailsAtScript name old new ⊎ StopsAtRecord scope name old new (Folder before after))
IsReplayRefused scope name old new (LongUpdate count) = StopsAtRecord scope name old new (LongUpdate count)
IsReplayRefused scope name old new (BrokenUpdate message found) = StopsAtRecord scope name old new (BrokenUpdate message found)
