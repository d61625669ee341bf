-- What a command reads: the timetable of its feed, and then the file of a message, if it has one.
use Rattle.std.specs.Prelude.{◌≡◌, ◌⊎◌, ◌<◌, ℕ, List, Option, Some, None, Result, Ok, Err, IsErrOf, IfOk, IfSome, length}
use Rattle.gtfs_tables.specs.Reading.{Keeps}
use Rattle.lc_io.specs.Counts.{HasCause, Rose}
use Rattle.lc_io.specs.Folder.{FolderSeen, TellsAsked, bytes_named}
use Rattle.lc_io.specs.declared.file.File.{File}
use Rattle.lc_io.specs.declared.folder.FolderFail.{FolderFail}
use Rattle.lc_io.specs.declared.folder.FolderFail.TheVariants.{Absent, Failed}
use Rattle.timetable.specs.Loading.{Loads, LoadsSo}
use Rattle.timetable.specs.declared.fault.LoadFault.{LoadFault}
use Rattle.timetable.specs.declared.fault.LoadFault.TheVariants as fault
use Rattle.timetable.specs.declared.scope.Scope.{Scope}
use Rattle.timetable.specs.declared.timetable.Timetable.{Timetable}
use Rattle.trip_updates.specs.declared.fault.RtFault.{RtFault}
use Rattle.version_store.specs.Admission.{IsBroken}
use Rattle.cli_replay.specs.declared.inputs.refusal.Refusal.{Refusal}
use Rattle.cli_replay.specs.declared.inputs.refusal.Refusal.TheVariants.{Usage, Load, Script, Folder, LongUpdate, BrokenUpdate}

-- the directory was asked for this file, once, and answered with this
pub record ReadsFile (old new : FolderSeen) (name : List ℕ) (result : Result (List ℕ) FolderFail) : Type 0 where
  pub bytes : IfOk result (λ bytes. IfSome old.files (λ files. bytes_named files name ≡ Some bytes))
  pub absent : IsErrOf result Absent → IfSome old.files (λ files. bytes_named files name ≡ None)
  pub same : new.files ≡ old.files
  pub faults : HasCause old.faults new.faults (IsErrOf result Failed)
  pub absences : HasCause old.absences new.absences (IsErrOf result Absent)
  pub asked : TellsAsked old.asked new.asked name result

-- the file of this name was read
pub record IsReadAs (name : List ℕ) (old new : FolderSeen) (file : File) : Type 0 where
  pub named : file.name ≡ name
  pub read : ReadsFile old new name (Ok file.bytes)

-- the file of this name was read, if there is a name; else there is none, and the directory was not asked
abbrev pub ReadsUpdate : Option (List ℕ) → FolderSeen → FolderSeen → Option File → Type 0
ReadsUpdate None old new None = new ≡ old
ReadsUpdate None old new (Some file) = ⊥
ReadsUpdate (Some name) old new None = ⊥
ReadsUpdate (Some name) old new (Some file) = IsReadAs name old new file

-- how the reading of that file ended, which may not be read
abbrev pub EndsUpdate : Option (List ℕ) → FolderSeen → FolderSeen → Result (Option File) FolderFail → Type 0
EndsUpdate update old new (Ok file) = ReadsUpdate update old new file
EndsUpdate None old new (Err fail) = ⊥
EndsUpdate (Some name) old new (Err fail) = ReadsFile old new name (Err fail)

-- the timetable was loaded, and then the file of the message was read, if there is one
pub record ReadsInputs (scope : Scope) (update : Option (List ℕ)) (old new : FolderSeen) (made : Timetable) (file : Option File) : Type 0 where
  pub between : FolderSeen
  pub loaded : Loads scope old between made
  pub kept : Keeps old between
  pub read : ReadsUpdate update between new file

-- the timetable was loaded, and then the file of the message was asked for, with this end
pub record AsksForUpdate (scope : Scope) (update : Option (List ℕ)) (old new : FolderSeen) (result : Result (List ℕ) FolderFail) : Type 0 where
  pub between : FolderSeen
  pub made : Timetable
  pub loaded : Loads scope old between made
  pub kept : Keeps old between
  pub name : List ℕ
  pub named : update ≡ Some name
  pub read : ReadsFile between new name result

-- the file is absent, which is reported as row 0
pub record LacksUpdate (scope : Scope) (update : Option (List ℕ)) (old new : FolderSeen) (row : ℕ) : Type 0 where
  pub asks : AsksForUpdate scope update old new (Err Absent)
  pub row_is : row ≡ 0

-- the file could not be read, and the directory's count increased
pub record FailsAtUpdate (scope : Scope) (update : Option (List ℕ)) (old new : FolderSeen) (before after : ℕ) : Type 0 where
  pub asks : AsksForUpdate scope update old new (Err Failed)
  pub before_is : before ≡ old.faults
  pub after_is : after ≡ new.faults
  pub rose : Rose before after

-- the message has so many bytes, which are too many
pub record IsLongUpdate (scope : Scope) (update : Option (List ℕ)) (old new : FolderSeen) (count : ℕ) : Type 0 where
  pub bytes : List ℕ
  pub asks : AsksForUpdate scope update old new (Ok bytes)
  pub long : 16_777_216 < length bytes
  pub counted : count ≡ length bytes

-- the file of this name, in the place of the message, is none, and this is the first fault in it
pub record IsBrokenUpdate (scope : Scope) (update : Option (List ℕ)) (old new : FolderSeen) (name : List ℕ) (fault : RtFault) : Type 0 where
  pub bytes : List ℕ
  pub asks : AsksForUpdate scope update old new (Ok bytes)
  pub named : update ≡ Some name
  pub broken : IsBroken bytes fault

-- memory ran out: at any end of the loading, or after it at any end of the reading of the message
abbrev pub RunsOut : Scope → Option (List ℕ) → FolderSeen → FolderSeen → Type 0
RunsOut scope update old new =
    ((end : Result Timetable LoadFault) × LoadsSo scope old new end)
    ⊎ ((result : Result (List ℕ) FolderFail) × AsksForUpdate scope update old new result)

-- why the command is refused, each cause in its turn: the feed, the directory, the message, or memory
abbrev pub IsRefusedFor : Scope → Option (List ℕ) → FolderSeen → FolderSeen → Refusal → Type 0
IsRefusedFor scope update old new Usage = ⊥
IsRefusedFor scope update old new (Load (fault.Broken rule file row)) = LoadsSo scope old new (Err (fault.Broken rule file row))
IsRefusedFor scope update old new (Load (fault.TooLarge what count)) = LoadsSo scope old new (Err (fault.TooLarge what count))
IsRefusedFor scope update old new (Load (fault.Folder before after)) = LoadsSo scope old new (Err (fault.Folder before after))
IsRefusedFor scope update old new (Load fault.NoMemory) = RunsOut scope update old new
IsRefusedFor scope update old new (Script row) = LacksUpdate scope update old new row
IsRefusedFor scope update old new (Folder before after) = FailsAtUpdate scope update old new before after
IsRefusedFor scope update old new (LongUpdate count) = IsLongUpdate scope update old new count
IsRefusedFor scope update old new (BrokenUpdate name fault) = IsBrokenUpdate scope update old new name fault

-- there is a file, and it has so many bytes, which are too many for a message
pub record IsLongFile (file : Option File) (count : ℕ) : Type 0 where
  pub there : File
  pub is : file ≡ Some there
  pub long : 16_777_216 < length there.bytes
  pub counted : count ≡ length there.bytes

-- there is a file of this name, which is no message, and this is the first fault in it
pub record IsNoMessageNamed (file : Option File) (name : List ℕ) (fault : RtFault) : Type 0 where
  pub there : File
  pub is : file ≡ Some there
  pub named : name ≡ there.name
  pub broken : IsBroken there.bytes fault

-- why a file is no message, as a refusal; memory may run out
abbrev pub IsMessageRefusal : Option File → Refusal → Type 0
IsMessageRefusal file Usage = ⊥
IsMessageRefusal file (Load (fault.Broken rule name row)) = ⊥
IsMessageRefusal file (Load (fault.TooLarge what count)) = ⊥
IsMessageRefusal file (Load (fault.Folder before after)) = ⊥
IsMessageRefusal file (Load fault.NoMemory) = Unit {0}
IsMessageRefusal file (Script row) = ⊥
IsMessageRefusal file (Folder before after) = ⊥
IsMessageRefusal file (LongUpdate count) = IsLongFile file count
IsMessageRefusal file (BrokenUpdate name fault) = IsNoMessageNamed file name fault
